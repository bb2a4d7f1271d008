-- `validity::empties_fit` meets its contract.
use Rattle.std.proofs.Common.{◌≡◌, ◌&&◌, ◌-◌}
use Rattle.validity.specs.Ranges.{every, empty_fits}
use Rattle.validity.proofs.empties_fit.Given as goal

abbrev pub invariant-loop-i : goal.invariant-loop-i
invariant-loop-i l = (l.all && every (empty_fits l.fn.ids l.lengths) l.i (16 - l.i)) ≡ every (empty_fits l.fn.ids l.lengths) 0 16
