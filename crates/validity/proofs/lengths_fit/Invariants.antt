-- `validity::lengths_fit` meets its contract.
use Rattle.std.proofs.Common.{◌≡◌, ◌&&◌, ◌-◌}
use Rattle.validity.specs.Ranges.{every, length_fits_lem}
use Rattle.validity.proofs.lengths_fit.Given as goal

abbrev pub invariant-loop-slot : goal.invariant-loop-slot
invariant-loop-slot l = (l.all && every (length_fits_lem l.fn.lengths l.waiting) l.slot (17 - l.slot)) ≡ every (length_fits_lem l.fn.lengths l.waiting) 0 17
