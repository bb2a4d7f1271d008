-- The syndrome of a sum of two words is the sum of their syndromes, and the true words are those with the syndrome 0.
-- Assumes nothing.
use mathlib.Core.Path.{◌≡◌, refl, sym, ap, ap₂, ◌∙◌, subst}
use mathlib.Core.Bool.{true, ◌&&◌}
use lib.Dec.{eqb}
use Prim.Native.Nat.{ℕ, zero, suc, ◌+◌, ◌*◌, ◌/◌, ◌%◌, ◌^◌, ◌≤◌, ◌<◌}
use native.Mathlib.Nat.{lt_of_lt_of_le}
use native.Mathlib.Omega.{arith}
use borrow.Author.Tests.{eq-eqb, eqb-true}
use lib.Pow.{pow_mono}
use lib.Bits.{bit_xor, xor_block}
use lib.Count.{ones, ones-ones}
use Rattle.bch.specs.Code.{TrueWord, remainder, is_true}
use Rattle.bch.specs.Tables.{syndrome}
use Rattle.bch.proofs.Both.{and_left, and_right}
use Rattle.bch.proofs.Xor.{bit, xor_half}
use Rattle.bch.proofs.Ones.{half_lt, ones_xor_odd}
use Rattle.bch.proofs.Linear.{rem_zero, rem_xor}
use Rattle.bch.proofs.Range.{remainder_lt}
use Rattle.bch.proofs.Multiple.{multiple_code, code_multiple}

-- the parity of a sum, by the bits
parity : (x y m n : ℕ) → m % 2 ≡ x → n % 2 ≡ y → (m + n) % 2 ≡ bit_xor x y
parity zero zero m n p q = omega arith
parity zero (suc zero) m n p q = omega arith
parity zero (suc (suc y)) m n p q = absurd (omega (arith, bit n))
parity (suc zero) zero m n p q = omega arith
parity (suc zero) (suc zero) m n p q = omega arith
parity (suc zero) (suc (suc y)) m n p q = absurd (omega (arith, bit n))
parity (suc (suc x)) y m n p q = absurd (omega (arith, bit m))

pub syndrome_xor : (a b : ℕ) → syndrome (bit_xor a b) ≡ bit_xor (syndrome a) (syndrome b)
syndrome_xor a b =
    ap₂ (λ (x y : ℕ). x * 4096 + y)
    (ones_xor_odd a b ∙ parity (ones a % 2) (ones b % 2) (ones a) (ones b) refl refl)
    (ap remainder (xor_half a b) ∙ rem_xor 63 1 (a / 2) (b / 2))
    ∙ sym (xor_block 12 (ones a % 2) (ones b % 2) (remainder (a / 2)) (remainder (b / 2)) (remainder_lt (a / 2)) (remainder_lt (b / 2)))

pub syndrome-zero : syndrome 0 ≡ 0
syndrome-zero = ap₂ (λ (x y : ℕ). x % 2 * 4096 + y) (ones-ones 0) (rem_zero 63 1)

pub syndrome_lt : (w : ℕ) → syndrome w < 8192
syndrome_lt w = omega (arith, bit (ones w), remainder_lt (w / 2))

-- the two parts of a syndrome
pub syndrome_parts : (w s : ℕ) → syndrome w ≡ s → (remainder (w / 2) ≡ s % 4096) × (ones w % 2 ≡ s / 4096)
syndrome_parts w s e = omega (arith, remainder_lt (w / 2))

pub syndrome_made : (w s : ℕ) → remainder (w / 2) ≡ s % 4096 → ones w % 2 ≡ s / 4096 → syndrome w ≡ s
syndrome_made w s r p = omega arith

module _ (n v : ℕ) (wide : n ≤ 64) where
  code_lt : v < 2 ^ n → v / 2 < 2 ^ 63
  code_lt h = half_lt 63 (lt_of_lt_of_le h (pow_mono {j = 64} wide))

  pub true_syndrome : TrueWord n v → syndrome v ≡ 0
  true_syndrome t =
      syndrome_made v 0
      (ap remainder t.code.1 ∙ multiple_code 63 t.code.0 (subst (λ (x : ℕ). x < 2 ^ 63) t.code.1 (code_lt t.fits)))
      t.even

  pub syndrome_true : v < 2 ^ n → syndrome v ≡ 0 → TrueWord n v
  syndrome_true h e =
      let p = syndrome_parts v 0 e in
      record { fits = h; code = code_multiple (v / 2) (code_lt h) p.0; even = p.1 }

-- the test says the same
pub tested_true : (v : ℕ) → syndrome v ≡ 0 → is_true v ≡ true
tested_true v e =
    let p = syndrome_parts v 0 e in
    ap₂ ◌&&◌ (eq-eqb (remainder (v / 2)) 0 p.0) (eq-eqb (ones v % 2) 0 p.1)

pub true_tested : (v : ℕ) → is_true v ≡ true → syndrome v ≡ 0
true_tested v e =
    syndrome_made v 0
    (eqb-true (remainder (v / 2)) 0 (and_left (eqb (remainder (v / 2)) 0) (eqb (ones v % 2) 0) e))
    (eqb-true (ones v % 2) 0 (and_right (eqb (remainder (v / 2)) 0) (eqb (ones v % 2) 0) e))
