-- `ids::place_of` meets its contract.
use mathlib.Core.Path.{sym, ◌∙◌}
use native.Mathlib.Omega.{arith}
use Rattle.ids.proofs.Places.{place_hit, place_miss, place_past}
use Rattle.ids.proofs.place_of.Goals as goal

pub returns-then-eq : goal.returns-then-eq
returns-then-eq g c =
    (place_hit (g.T.PartialEq.eq c.args.x) c.loop-place.place c.args.list.now _ c.loop-place-test.true c.index-list-place.is (sym c.eq.ensures ∙ c.if-eq.true) ∙ c.loop-place.invariant, c.loop-place-test.true)

pub loop-place-preserved : goal.loop-place-preserved
loop-place-preserved g c =
    place_miss (g.T.PartialEq.eq c.args.x) c.loop-place.place c.args.list.now _ c.loop-place-test.true c.index-list-place.is (sym c.eq.ensures ∙ c.if-eq.false) ∙ c.loop-place.invariant

pub returns : goal.returns
returns g c = (place_past (g.T.PartialEq.eq c.args.x) c.loop-place.place c.args.list.now (omega arith) ∙ c.loop-place.invariant, tt)
