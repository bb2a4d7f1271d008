-- `validity::none_unfit` meets its contract.
use Rattle.std.proofs.Common.{◌≡◌, ◌&&◌, not, drop}
use Rattle.ids.specs.Places.{some}
use Rattle.validity.specs.Ranges.{is_unfit}
use Rattle.validity.proofs.none_unfit.Given as goal

abbrev pub invariant-loop-number : goal.invariant-loop-number
invariant-loop-number l = (l.all && not (some is_unfit (drop l.number-index l.number-items))) ≡ not (some is_unfit l.fn.numbers)
