-- `validity::empties_fit` meets its contract.
use Rattle.std.proofs.Common.{arith, refl, ◌∙◌}
use Rattle.validity.specs.Ranges.{empty_fits}
use Rattle.validity.proofs.Laws.{every_turn}
use Rattle.validity.proofs.empties_fit.Goals as goal

pub loop-i-preserved : goal.loop-i-preserved
unfolding empty_fits
loop-i-preserved c =
    rw c.ne.ensures
    (every_turn (empty_fits c.args.ids c.args.lengths) c.loop-i.i 16 c.loop-i.all _ (omega arith) refl ∙ c.loop-i.invariant)
