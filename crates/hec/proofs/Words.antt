-- The header fact, once, over the width: at most one true word of n bits is at most two bits away, so `Reads` settles what
-- a word reads as, and a true word is read back with up to two of its bits flipped.
-- Assumes nothing.
use mathlib.Core.Path.{◌≡◌, refl, sym, ap, ◌∙◌}
use Prim.Native.Nat.{ℕ, zero, suc, ◌+◌, ◌-◌, ◌*◌, ◌/◌, ◌%◌, ◌^◌, ◌≤◌, ◌<◌}
use native.Mathlib.Nat.{lt_of_lt_of_le}
use native.Mathlib.Omega.{arith}
use lib.Pow.{pow_mono}
use lib.Bits.{bit_xor, xor_zero_r, xor_lt, xor_self}
use lib.Count.{ones, ones_step, ones-ones}
use lib.ListN.{get_or}
use Rattle.bch.specs.Code.{TrueWord, distance, remainder}
use Rattle.hec.specs.Reads.{Reading, word, unreadable, Reads}
use Rattle.bch.specs.Tables.{syndrome, bits_of}
use Rattle.bch.proofs.Xor.{bit, xor_cancel}
use Rattle.bch.proofs.Ones.{half_lt}
use Rattle.bch.proofs.Range.{remainder_lt}
use Rattle.bch.proofs.Syndrome.{syndrome_xor, syndrome_parts, true_syndrome, syndrome_true}
use Rattle.flips.proofs.FlipRule.{flips, rule}

-- a pattern of at most two of n bits, with the syndrome s
pub record Flaw (n s e : ℕ) : Type 0 where
  pub within : e < 2 ^ n
  pub few : ones e ≤ 2
  pub leaves : syndrome e ≡ s

-- its code bits have few ones too
pub code_few : (e : ℕ) → ones e ≤ 2 → ones (e / 2) ≤ 2
code_few e h = omega (arith, ones_step e)

-- and the table names them
pub named : (n s e : ℕ) → n ≤ 64 → Flaw n s e → bits_of (get_or flips (remainder (e / 2)) 0) ≡ e / 2 * 2
named n s e wide p =
    ((rule (remainder (e / 2)) (remainder_lt (e / 2))).named (e / 2) (half_lt 63 (lt_of_lt_of_le p.within (pow_mono {j = 64} wide))) (code_few e p.few) refl).0

same_bit : (x y k : ℕ) → x < 2 → y < 2 → (x + k) % 2 ≡ (y + k) % 2 → x ≡ y
same_bit zero zero k hx hy e = refl
same_bit zero (suc zero) k hx hy e = absurd (omega arith)
same_bit zero (suc (suc y)) k hx hy e = absurd (omega arith)
same_bit (suc zero) zero k hx hy e = absurd (omega arith)
same_bit (suc zero) (suc zero) k hx hy e = refl
same_bit (suc zero) (suc (suc y)) k hx hy e = absurd (omega arith)
same_bit (suc (suc x)) y k hx hy e = absurd (omega arith)

-- two patterns with one syndrome are the same: their code bits by the table's rule, the last bit by the parity
pub one-flaw : (n s e g : ℕ) → n ≤ 64 → Flaw n s e → Flaw n s g → e ≡ g
one-flaw n s e g wide p q =
    let a = syndrome_parts e s p.leaves in
    let b = syndrome_parts g s q.leaves in
    let same : e / 2 * 2 ≡ g / 2 * 2 = sym (named n s e wide p) ∙ ap (λ (r : ℕ). bits_of (get_or flips r 0)) (a.0 ∙ sym b.0) ∙ named n s g wide q in
    let half : e / 2 ≡ g / 2 = omega arith in
    let last : e % 2 ≡ g % 2 =
    same_bit (e % 2) (g % 2) (ones (e / 2)) (bit e) (bit g)
    (ap (λ (x : ℕ). x % 2) (sym (ones_step e)) ∙ a.1 ∙ sym b.1 ∙ ap (λ (x : ℕ). x % 2) (ones_step g ∙ ap (λ (x : ℕ). g % 2 + ones x) (sym half))) in
    omega arith

module _ (n w : ℕ) (wide : n ≤ 64) (fits : w < 2 ^ n) where
  -- a true word at most two bits away differs by a pattern with the syndrome of what was read
  pub near_flaw : (v : ℕ) → TrueWord n v → distance w v ≤ 2 → Flaw n (syndrome w) (bit_xor w v)
  near_flaw v t d =
      record {
        within = xor_lt n w v fits t.fits;
        few = d;
        leaves = syndrome_xor w v ∙ ap (bit_xor (syndrome w)) (true_syndrome n v wide t) ∙ xor_zero_r (syndrome w);
      }

  -- and such a pattern leads to a true word at most two bits away
  pub flaw_near : (e : ℕ) → Flaw n (syndrome w) e → TrueWord n (bit_xor w e) × (distance w (bit_xor w e) ≤ 2)
  flaw_near e p = (
    syndrome_true n (bit_xor w e) wide (xor_lt n w e fits p.within)
        (syndrome_xor w e ∙ ap (bit_xor (syndrome w)) p.leaves ∙ xor_self (syndrome w)),
    rw (xor_cancel w e) p.few,
  )

  -- the header fact
  pub one_near : (u v : ℕ) → TrueWord n u → distance w u ≤ 2 → TrueWord n v → distance w v ≤ 2 → u ≡ v
  one_near u v tu du tv dv =
      sym (xor_cancel w u)
      ∙ ap (bit_xor w) (one-flaw n (syndrome w) (bit_xor w u) (bit_xor w v) wide (near_flaw u tu du) (near_flaw v tv dv))
      ∙ xor_cancel w v

  -- reading has one outcome
  pub settled : (r q : Reading) → Reads n w r → Reads n w q → r ≡ q
  settled (word u) (word v) a b = ap word (one_near u v a.0 a.1 b.0 b.1)
  settled (word u) unreadable a b = absurd (b u a.0 a.1)
  settled unreadable (word v) a b = absurd (a v b.0 b.1)
  settled unreadable unreadable a b = refl

  -- a true word with up to two of its bits flipped reads as itself
  pub mends : (v : ℕ) → TrueWord n v → distance w v ≤ 2 → (r : Reading) → Reads n w r → r ≡ word v
  mends v t d r a = settled r (word v) a (t, d)

pub undamaged : (v : ℕ) → distance v v ≤ 2
undamaged v = omega (arith, ap ones (xor_self v), ones-ones 0)
