-- `validity::lengths_fit` meets its contract.
use Rattle.std.proofs.Common.{arith, ◌∙◌}
use Rattle.validity.specs.Ranges.{length_fits_lem}
use Rattle.validity.proofs.Laws.{every_turn}
use Rattle.validity.proofs.lengths_fit.Goals as goal

pub loop-slot-preserved : goal.loop-slot-preserved
unfolding length_fits_lem
loop-slot-preserved c =
    every_turn (length_fits_lem c.args.lengths c.args.waiting) c.loop-slot.slot 17 c.loop-slot.all _ (omega arith) c.length_fits-all.ensures
    ∙ c.loop-slot.invariant
