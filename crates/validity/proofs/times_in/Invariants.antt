-- `validity::times_in` meets its contract.
use Rattle.std.proofs.Common.{◌≡◌, ◌+◌, ◌≤◌, drop}
use Rattle.validity.specs.Ranges.{times}
use Rattle.validity.proofs.times_in.Given as goal

abbrev pub invariant-loop-other : goal.invariant-loop-other
invariant-loop-other l = (l.sum ≤ l.other-index) × (l.sum + times l.number (drop l.other-index l.other-items) ≡ times l.number l.fn.numbers)
