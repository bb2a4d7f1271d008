-- `validity::alloc_numbers` meets its contract.
use Rattle.std.proofs.Common.{◌≡◌, drop, length}
use lib.Seq.{sets}
use Rattle.ids.specs.declared.AllocId.{AllocId}
use Rattle.ids.specs.Ids.{assignable_alloc}
use Rattle.validity.specs.Ranges.{numbers_from, alloc_numbers_lem}
use Rattle.validity.proofs.Places.{below}
use Rattle.validity.proofs.alloc_numbers.Given as goal

abbrev pub invariant-loop-i : goal.invariant-loop-i
invariant-loop-i l = (length l.numbers ≡ 16) × (sets l.numbers l.i (numbers_from (below l.n) assignable_alloc (λ (a : AllocId). a.0) l.i (drop l.i l.id-items)) ≡ alloc_numbers_lem l.n l.fn.ids)
