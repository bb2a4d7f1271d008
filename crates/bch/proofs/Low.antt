-- A number of twelve bits is its own remainder.
-- Assumes nothing.
use mathlib.Core.Path.{◌≡◌, refl, sym, ap, ◌∙◌, subst}
use Prim.Native.Nat.{ℕ, zero, suc, ◌+◌, ◌*◌, ◌/◌, ◌%◌, ◌^◌, ◌≤◌, ◌<◌}
use native.Mathlib.Nat.{pow-suc, zero-mul, add-mul, mul_assoc, mul_comm, not-suc-le-zero}
use native.Mathlib.Omega.{arith}
use borrow.Author.Tests.{lt-ltb}
use lib.Arith.{lt-one, digits_lt}
use lib.Pow.{pow_pos, pow-lt}
use lib.Bits.{xor_shifted, xor_comm}
use Rattle.bch.specs.Code.{place, remainder_from, remainder}
use Rattle.bch.proofs.Xor.{bit}
use Rattle.bch.proofs.Ones.{half_lt}
use Rattle.bch.proofs.Linear.{rem_zero}

place_low : (j : ℕ) → j < 12 → place j ≡ 2 ^ j
unfolding place
place_low zero h = refl
place_low (suc j) h =
    let e : place j ≡ 2 ^ j = place_low j (omega arith) in
    let l : 2 ^ j * 2 < 4096 = subst (λ (x : ℕ). x < 4096) (pow-suc 2 j) (pow-lt {j = 12} h) in
    rw (e, lt-ltb (2 ^ j * 2) 4096 l) (sym (pow-suc 2 j))

-- a number q * 2 + b, one place up
digit : (q b pow : ℕ) → (q * 2 + b) * pow ≡ q * (pow * 2) + b * pow
digit q b pow = add-mul (q * 2) b pow ∙ ap (λ (x : ℕ). x + b * pow) (mul_assoc q 2 pow ∙ ap (λ (x : ℕ). q * x) (mul_comm 2 pow))

-- m bits are left, above place j
low : (m j n c : ℕ) → m + j ≤ 12 → m ≤ n → c < 2 ^ m → remainder_from n (place j) c ≡ c * 2 ^ j
unfolding remainder_from place
low zero j n c h k l = rw (lt-one l, zero-mul (2 ^ j)) (rem_zero n (place j))
low (suc m) j zero c h k l = absurd (not-suc-le-zero k)
low (suc m) j (suc n) c h k l =
    let r = low m (suc j) n (c / 2) (omega arith) (omega arith) (half_lt m l) in
    let below : c % 2 * 2 ^ j < 2 ^ suc j = omega (arith, pow-suc 2 j, digits_lt (bit c) (pow_pos j)) in
    rw (r, place_low j (omega arith))
    (xor_comm (c % 2 * 2 ^ j) (c / 2 * 2 ^ suc j) ∙ xor_shifted (c / 2) (suc j) (c % 2 * 2 ^ j) below
    ∙ ap (λ (x : ℕ). c / 2 * x + c % 2 * 2 ^ j) (pow-suc 2 j) ∙ sym (digit (c / 2) (c % 2) (2 ^ j)) ∙ ap (λ (x : ℕ). x * 2 ^ j) (omega arith))

pub low_remainder : (c : ℕ) → c < 4096 → remainder c ≡ c
unfolding place
low_remainder c h = low 12 0 63 c (omega arith) (omega arith) h ∙ omega arith
