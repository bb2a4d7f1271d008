-- `stretches::search::list_from` meets its contract: at each turn what is listed and what is still to come are what is listed in all.
use Prim.Native.Nat.{◌-◌}
use lib.ListN.{length}
use Rattle.ports.specs.Ports.{ports_of}
use Rattle.stretches.proofs.Listing.{Seen}
use Rattle.stretches.proofs.search.list_from.Given as goal

abbrev pub invariant-loop-search : goal.invariant-loop-search
invariant-loop-search l = Seen l.own l.frame (ports_of l.ids l.initial.lengths l.initial.waiting) l.begins l.first l.initial.places (ports_of l.ids l.lengths l.waiting) l.search l.at l.places

abbrev pub decreases-loop-search : goal.decreases-loop-search
decreases-loop-search l = length l.frame - l.at
