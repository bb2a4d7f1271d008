-- The remainder behind the data bits makes a codeword, and the last bit a true word: the one with those data bits.
-- Assumes nothing.
use mathlib.Core.Path.{◌≡◌, refl, sym, ap, ap₂, ◌∙◌}
use Prim.Native.Nat.{ℕ, suc, ◌+◌, ◌*◌, ◌/◌, ◌%◌, ◌^◌, ◌≤◌, ◌<◌}
use native.Mathlib.Nat.{pow-suc}
use native.Mathlib.Omega.{arith}
use lib.Pow.{pow-add, shr-shr}
use lib.Bits.{bit_xor, xor_zero_r, xor_self, xor_shifted, xor_shr}
use lib.Count.{ones, ones_cat, ones_step}
use Rattle.bch.specs.Code.{TrueWord, remainder}
use Rattle.hec.specs.Writes.{protected, closed, Written}
use Rattle.bch.specs.Tables.{syndrome}
use Rattle.bch.proofs.Xor.{xor_cancel}
use Rattle.bch.proofs.Ones.{ones_bit}
use Rattle.bch.proofs.Linear.{rem_xor}
use Rattle.bch.proofs.Range.{remainder_lt}
use Rattle.bch.proofs.Low.{low_remainder}
use Rattle.bch.proofs.Syndrome.{syndrome_made, syndrome_parts, syndrome_true, true_syndrome}

closed_true : (k c : ℕ) → suc k ≤ 64 → c < 2 ^ k → remainder c ≡ 0 → TrueWord (suc k) (closed c)
closed_true k c wide h e =
    let half : closed c / 2 ≡ c = omega arith in
    let bits : ones (closed c) ≡ ones c + ones (ones c % 2) = ones_cat 1 c (ones c % 2) (omega arith) in
    syndrome_true (suc k) (closed c) wide (omega (arith, pow-suc 2 k))
    (syndrome_made (closed c) 0 (ap remainder half ∙ e) (omega (arith, ones_bit (ones c % 2) (omega arith))))

-- a true word is its code bits, closed
closes : (n v : ℕ) → TrueWord n v → v ≡ closed (v / 2)
closes n v t = omega (arith, ones_step v)

pub protected-written : (j d : ℕ) → j + 13 ≤ 64 → d < 2 ^ j → Written (suc (j + 12)) d (protected d)
protected-written j d wide h =
    let s : ℕ = remainder (d * 4096) in
    let l : s < 4096 = remainder_lt (d * 4096) in
    let e : d * 4096 + s ≡ bit_xor (d * 4096) s = sym (xor_shifted d 12 s l) in
    record {
      true = closed_true (j + 12) (d * 4096 + s) (omega arith) (omega (arith, pow-add 2 j 12))
          (ap remainder e ∙ rem_xor 63 1 (d * 4096) s ∙ ap (bit_xor s) (low_remainder s l) ∙ xor_self s);
      holds = omega arith;
    }

-- what writing gives is settled: two true words with the same data bits are the same
pub written_once : (n d u v : ℕ) → n ≤ 64 → Written n d u → Written n d v → u ≡ v
written_once n d u v wide a b =
    closes n u a.true ∙ ap closed (sym (xor_zero_r (u / 2)) ∙ ap (bit_xor (u / 2)) (sym none) ∙ xor_cancel (u / 2) (v / 2))
    ∙ sym (closes n v b.true)
  where
    x : ℕ
    x = bit_xor (u / 2) (v / 2)

    top : x / 2 ^ 12 ≡ 0
    top = xor_shr (u / 2) (v / 2) 12 ∙ ap₂ bit_xor (shr-shr u 1 12 ∙ a.holds) (shr-shr v 1 12 ∙ b.holds) ∙ xor_self d

    code : (y : ℕ) → TrueWord n y → remainder (y / 2) ≡ 0
    code y t = (syndrome_parts y 0 (true_syndrome n y wide t)).0

    none : x ≡ 0
    none = sym (low_remainder x (omega (arith, top))) ∙ rem_xor 63 1 (u / 2) (v / 2) ∙ ap₂ bit_xor (code u a.true) (code v b.true)

-- so what meets `Written` is the protected word
pub is_protected : (j d v : ℕ) → j + 13 ≤ 64 → d < 2 ^ j → Written (suc (j + 12)) d v → v ≡ protected d
is_protected j d v wide h a = written_once (suc (j + 12)) d v (protected d) (omega arith) a (protected-written j d wide h)
