-- `hec::protect::remainder_of` meets its contract: the sum is that over the bits that were passed, and left holds the others.
use Prim.Native.Nat.{ℕ, ◌*◌, ◌%◌}
use mathlib.Core.Path.{refl, ap}
use native.Mathlib.Omega.{arith}
use lib.Bits.{bit_xor}
use Rattle.bch.specs.Code.{place}
use Rattle.bch.proofs.Xor.{bit}
use Rattle.bch.proofs.Range.{place_lt, bit_times_lt}
use Rattle.bch.proofs.Linear.{sum_more, sum_done}
use Rattle.hec.proofs.protect.remainder_of.Goals as goal

pub loop-value-init : goal.loop-value-init
unfolding place
loop-value-init c = refl

pub overflow_mul-sum : goal.overflow_mul-sum
overflow_mul-sum c =
    let i = c.loop-value.value-index in
    let w = c.loop-value.left in
    record {
      fits =
          omega (
            arith,
            ap (λ (x : ℕ). w % 2 * x) (c.table-value-items.ensures i c.loop-value-test.true),
            bit_times_lt (w % 2) (place i) (bit w) (place_lt i),
          );
    }

pub loop-value-preserved : goal.loop-value-preserved
loop-value-preserved c =
    let i = c.loop-value.value-index in
    let w = c.loop-value.left in
    let s = c.loop-value.sum in
    sum_more _ s _ _ c.loop-value.invariant _ (omega arith)
    (ap (λ (x : ℕ). bit_xor s (w % 2 * x)) (c.table-value-items.ensures i c.loop-value-test.true))

pub returns : goal.returns
returns c = sum_done _ _ _ _ c.loop-value.invariant (omega arith)
