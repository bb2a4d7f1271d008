-- `validity::equal_pairs` meets its contract.
use Rattle.std.proofs.Common.{◌≡◌, ◌+◌, ◌*◌, ◌≤◌, drop}
use Rattle.validity.specs.Ranges.{equal_pairs_lem}
use Rattle.validity.proofs.equal_pairs.Given as goal

abbrev pub invariant-loop-number : goal.invariant-loop-number
invariant-loop-number l = (l.sum ≤ 16 * l.number-index) × (l.sum + equal_pairs_lem (drop l.number-index l.number-items) l.fn.numbers ≡ equal_pairs_lem l.fn.numbers l.fn.numbers)
