-- How many ones a word has, and a sum of two.
-- Assumes nothing.
use mathlib.Core.Path.{◌≡◌, refl, sym, ap, ◌∙◌, subst}
use Prim.Native.Nat.{ℕ, zero, suc, ◌+◌, ◌*◌, ◌/◌, ◌%◌, ◌^◌, ◌≤◌, ◌<◌, min}
use native.Mathlib.Numerals.{add-one}
use native.Mathlib.Omega.{arith}
use lib.Arith.{bin_ind, lt-one}
use lib.Pow.{shr_lt}
use lib.Bits.{bit_xor, bit_and, differ, and_step}
use lib.Count.{ones, ones_in, ones_step, ones-ones}
use Rattle.bch.proofs.Xor.{bit, xor_half, xor_odd}

pub half_lt : {f : ℕ} (k : ℕ) → f < 2 ^ suc k → f / 2 < 2 ^ k
half_lt {f} k h = shr_lt k 1 (subst (λ (x : ℕ). f < 2 ^ x) (sym (add-one k)) h)

pub ones_bit : (b : ℕ) → b < 2 → ones b ≡ b
ones_bit zero h = ones-ones 0
ones_bit (suc zero) h = ones-ones 1
ones_bit (suc (suc b)) h = absurd (omega arith)

pub ones_none : (f : ℕ) → ones f ≡ 0 → f ≡ 0
ones_none =
    bin_ind (λ (n : ℕ). ones n ≡ 0 → n ≡ 0) (λ e. refl)
    (λ n ih e.
    let s : n % 2 + ones (n / 2) ≡ 0 = sym (ones_step n) ∙ e in
    let q : n / 2 ≡ 0 = ih (omega arith) in
    omega arith)

-- the number of ones of a number of k bits, which antt computes
pub counted : (k n : ℕ) → n < 2 ^ k → ones n ≡ ones_in k n
unfolding ones_in
counted zero n h = ap ones (lt-one h) ∙ ones-ones 0
counted (suc k) n h = ones_step n ∙ ap (λ (x : ℕ). n % 2 + x) (counted k (n / 2) (half_lt k h))

-- of two bits: one of the sum for each that only one has, and two for each that both have
two_bits : (x y : ℕ) → x < 2 → y < 2 → differ x y + 2 * min x y ≡ x + y
two_bits zero y hx hy = omega arith
two_bits (suc zero) zero hx hy = omega arith
two_bits (suc zero) (suc zero) hx hy = omega arith
two_bits (suc zero) (suc (suc y)) hx hy = absurd (omega arith)
two_bits (suc (suc x)) y hx hy = absurd (omega arith)

and_half : (a b : ℕ) → bit_and a b / 2 ≡ bit_and (a / 2) (b / 2)
and_half a b = rw (and_step a b) (omega (arith, bit a, bit b))

and_odd : (a b : ℕ) → bit_and a b % 2 ≡ min (a % 2) (b % 2)
and_odd a b = rw (and_step a b) (omega (arith, bit a, bit b))

-- the ones of a sum: those of the two, less two for each place that both have
pub ones_xor : (a b : ℕ) → ones (bit_xor a b) + 2 * ones (bit_and a b) ≡ ones a + ones b
ones_xor =
    bin_ind (λ (a : ℕ). (b : ℕ) → ones (bit_xor a b) + 2 * ones (bit_and a b) ≡ ones a + ones b)
    (λ b. omega (arith, ones-ones 0))
    (λ a ih b.
    omega (
      arith,
      ones_step (bit_xor a b),
      ones_step (bit_and a b),
      ones_step a,
      ones_step b,
      ap ones (xor_half a b),
      ap ones (and_half a b),
      xor_odd a b,
      and_odd a b,
      two_bits (a % 2) (b % 2) (bit a) (bit b),
      ih (b / 2),
    ))

pub ones_xor_le : (a b : ℕ) → ones (bit_xor a b) ≤ ones a + ones b
ones_xor_le a b = omega (arith, ones_xor a b)

pub ones_xor_odd : (a b : ℕ) → ones (bit_xor a b) % 2 ≡ (ones a + ones b) % 2
ones_xor_odd a b = omega (arith, ones_xor a b)
