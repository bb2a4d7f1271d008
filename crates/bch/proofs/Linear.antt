-- The remainder of a sum of two words is the sum of their remainders.
-- Assumes nothing.
use mathlib.Core.Path.{◌≡◌, refl, sym, ap, ap₂, ◌∙◌}
use Prim.Native.Nat.{ℕ, zero, suc, ◌+◌, ◌*◌, ◌-◌, ◌/◌, ◌%◌, ◌<◌}
use lib.Bits.{bit_xor, xor_zero_r}
use native.Mathlib.Nat.{zero-mul}
use native.Mathlib.Numerals.{add-one}
use native.Mathlib.Omega.{arith}
use Rattle.bch.specs.Code.{remainder_from, double, place}
use Rattle.bch.proofs.Xor.{bit, xor_half, xor_odd, xor_assoc, xor_four, bit-times}

pub rem_zero : (n p : ℕ) → remainder_from n p 0 ≡ 0
unfolding remainder_from
rem_zero zero p = refl
rem_zero (suc n) p = ap₂ bit_xor (zero-mul p) (rem_zero n (double p))

pub rem_xor : (n p a b : ℕ) → remainder_from n p (bit_xor a b) ≡ bit_xor (remainder_from n p a) (remainder_from n p b)
unfolding remainder_from
rem_xor zero p a b = refl
rem_xor (suc n) p a b =
    ap₂ (λ (x y : ℕ). bit_xor (x * p) (remainder_from n (double p) y)) (xor_odd a b) (xor_half a b)
    ∙ ap₂ bit_xor (bit-times (a % 2) (b % 2) p (bit a) (bit b)) (rem_xor n (double p) (a / 2) (b / 2))
    ∙ xor_four (a % 2 * p) (b % 2 * p) (remainder_from n (double p) (a / 2)) (remainder_from n (double p) (b / 2))

-- a sum over the bits of a word, lowest first: s is the sum of those below place i, and w holds the others
module _ (i s w r : ℕ) (sum : bit_xor s (remainder_from (63 - i) (place i) w) ≡ r) where
  pub sum_more : (t : ℕ) → i < 63 → t ≡ bit_xor s (w % 2 * place i) → bit_xor t (remainder_from (63 - (i + 1)) (place (i + 1)) (w / 2)) ≡ r
  unfolding remainder_from place
  sum_more t h e =
      let d : 63 - i ≡ suc (63 - (i + 1)) = omega arith in
      let old = rw (d, add-one i) at sum in
      rw (e, add-one i) (xor_assoc s (w % 2 * place i) (remainder_from (63 - suc i) (double (place i)) (w / 2)) ∙ old)

  pub sum_done : i ≡ 63 → s ≡ r
  unfolding remainder_from
  sum_done e = sym (xor_zero_r s) ∙ ap (λ (k : ℕ). bit_xor s (remainder_from (63 - k) (place i) w)) (sym e) ∙ sum
