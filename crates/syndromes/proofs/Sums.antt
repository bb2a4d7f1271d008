-- The sum over the octets of a word is the word's syndrome.
-- Assumes nothing.
use mathlib.Core.Path.{◌≡◌, sym, ap, ◌∙◌, subst}
use Prim.Native.Nat.{ℕ, zero, suc, ◌+◌, ◌-◌, ◌*◌, ◌/◌, ◌%◌, ◌^◌, ◌<◌}
use native.Mathlib.Nat.{add-mul, mul_assoc, mul_comm, mul-one, zero-mul, pow-suc}
use native.Mathlib.Omega.{arith}
use lib.Arith.{lt-one}
use lib.Pow.{pow_pos}
use lib.Bits.{bit_xor, xor_shifted, xor_comm, xor_zero_l, xor_zero_r}
use Rattle.bch.specs.Tables.{syndrome}
use Rattle.bch.proofs.Xor.{xor_assoc}
use Rattle.bch.proofs.Syndrome.{syndrome_xor, syndrome-zero}
use Rattle.bch.proofs.Powers.{mul_lt, octet_power}

-- a word from octet o on: its last octet, and the others one octet further
split : (o w : ℕ) → syndrome (w * 256 ^ o) ≡ bit_xor (syndrome (w % 256 * 256 ^ o)) (syndrome (w / 256 * 256 ^ suc o))
split o w =
    ap syndrome (sym (xor_comm low high ∙ ap (λ (x : ℕ). bit_xor x low) up ∙ xor_shifted (w / 256) (suc o * 8) low below ∙ sym whole))
    ∙ syndrome_xor low high
  where
    low : ℕ
    low = w % 256 * 256 ^ o

    high : ℕ
    high = w / 256 * 256 ^ suc o

    up : high ≡ w / 256 * 2 ^ (suc o * 8)
    up = ap (λ (x : ℕ). w / 256 * x) (sym (octet_power (suc o)))

    below : low < 2 ^ (suc o * 8)
    below =
        subst (λ (x : ℕ). low < x) (mul_comm 256 (256 ^ o) ∙ sym (pow-suc 256 o) ∙ sym (octet_power (suc o)))
        (mul_lt (w % 256) 256 (256 ^ o) (omega arith) (subst (λ (x : ℕ). zero < x) (octet_power o) (pow_pos (o * 8))))

    whole : w * 256 ^ o ≡ w / 256 * 2 ^ (suc o * 8) + low
    whole =
        ap (λ (x : ℕ). x * 256 ^ o) (omega arith) ∙ add-mul (w / 256 * 256) (w % 256) (256 ^ o)
        ∙ ap (λ (x : ℕ). x + low) (mul_assoc (w / 256) 256 (256 ^ o) ∙ ap (λ (x : ℕ). w / 256 * x) (mul_comm 256 (256 ^ o) ∙ sym (pow-suc 256 o)) ∙ up)

-- k octets are in the sum, and the others are left
pub record Summed (word k sum rest : ℕ) : Type 0 where
  pub fits : rest < 256 ^ (8 - k)
  pub whole : bit_xor sum (syndrome (rest * 256 ^ k)) ≡ syndrome word

pub first : (word : ℕ) → word < 2 ^ 64 → Summed word 0 0 word
first word h =
    record {
      fits = omega arith;
      whole = xor_zero_l (syndrome (word * 256 ^ 0)) ∙ ap syndrome (mul-one word);
    }

pub next : (word k sum rest added : ℕ) → k < 8 → Summed word k sum rest → added ≡ syndrome (rest % 256 * 256 ^ k)
    → Summed word (k + 1) (bit_xor sum added) (rest / 256)
next word k sum rest added h p e = subst (λ (x : ℕ). Summed word x (bit_xor sum added) (rest / 256)) one turned
  where
    one : suc k ≡ k + 1
    one = omega arith

    left : ℕ
    left = 8 - suc k

    more : 8 - k ≡ suc left
    more = omega arith

    turned : Summed word (suc k) (bit_xor sum added) (rest / 256)
    turned =
        record {
          fits = omega (arith, subst (λ (x : ℕ). rest < 256 ^ x) more p.fits, pow-suc 256 left);
          whole =
              ap (λ (x : ℕ). bit_xor (bit_xor sum x) (syndrome (rest / 256 * 256 ^ suc k))) e
              ∙ xor_assoc sum (syndrome (rest % 256 * 256 ^ k)) (syndrome (rest / 256 * 256 ^ suc k))
              ∙ ap (bit_xor sum) (sym (split k rest)) ∙ p.whole;
        }

pub last : (word k sum rest : ℕ) → k ≡ 8 → Summed word k sum rest → sum ≡ syndrome word
last word k sum rest e p = sym (xor_zero_r sum) ∙ ap (bit_xor sum) (sym none) ∙ p.whole
  where
    none : syndrome (rest * 256 ^ k) ≡ 0
    none =
        let z : 8 - k ≡ 0 = omega arith in
        ap (λ (x : ℕ). syndrome (x * 256 ^ k)) (lt-one (subst (λ (x : ℕ). rest < 256 ^ x) z p.fits)) ∙ ap syndrome (zero-mul (256 ^ k)) ∙ syndrome-zero
