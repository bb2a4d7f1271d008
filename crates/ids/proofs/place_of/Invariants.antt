-- Up to here no element was x.
use mathlib.Core.Path.{◌≡◌}
use lib.ListN.{drop}
use Rattle.ids.specs.Places.{place_from}
use Rattle.ids.proofs.place_of.Given as goal

abbrev pub invariant-loop-place : goal.invariant-loop-place
invariant-loop-place g l = place_from (g.T.PartialEq.eq l.x) l.place (drop l.place l.list) ≡ place_from (g.T.PartialEq.eq l.x) 0 l.list
