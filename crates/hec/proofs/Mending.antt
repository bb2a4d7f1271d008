-- A word that is mended by what its remainder flips is read: that is the flaw, and where nothing is named there is none.
-- Assumes nothing.
use mathlib.Core.Path.{◌≡◌, refl, sym, ap, ◌∙◌, subst}
use mathlib.Core.Bool.{Bool, true, false, cond, true≢false}
use Prim.Native.Nat.{ℕ, ◌+◌, ◌-◌, ◌/◌, ◌%◌, ◌^◌, ◌≤◌, ◌<◌}
use native.Mathlib.Nat.{lt_of_lt_of_le}
use native.Mathlib.Omega.{arith}
use borrow.Author.Tests.{eqb-true, le-leb, leb-true, ltb-true, ltb-false}
use lib.Dec.{eqb, leb, ltb, lit≤}
use lib.Bits.{bit_xor, xor_lt, xor_zero_r}
use lib.Count.{ones, ones_step}
use Rattle.bch.specs.Code.{TrueWord, remainder}
use Rattle.hec.specs.Reads.{Reading, word, unreadable, Reads}
use Rattle.bch.specs.Tables.{syndrome, Flips, bits_of, counts_of}
use Rattle.hec.specs.Mends.{last_bit, mended_as, sent}
use Rattle.bch.proofs.Xor.{bit, xor_half}
use Rattle.bch.proofs.Ones.{half_lt, ones_bit, ones_xor_le, ones_xor_odd}
use Rattle.bch.proofs.Places.{bits_within}
use Rattle.bch.proofs.Syndrome.{syndrome_parts, syndrome_made, syndrome_true, syndrome_lt}
use Rattle.hec.proofs.Words.{Flaw, code_few, flaw_near, near_flaw, one_near, undamaged}

-- the last bit brings the parity to p
parity : (all some count b p : ℕ) → all % 2 ≡ (some + b) % 2 → some % 2 ≡ count % 2 → b ≡ (count + p) % 2 → p < 2 → all % 2 ≡ p
parity all some count b p x y z h = omega arith

-- and with the last bit the ones of the code bits are those of the pattern
whole : (e count p : ℕ) → count ≡ ones (e / 2) → p ≡ ones e % 2 → count + (count + p) % 2 ≡ ones e
whole e count p c q = omega (arith, ones_step e)

-- an entry that names at most two places is a flaw with the syndrome at which it stands
module _ (v s : ℕ) (small : s < 8192) (own : remainder (bits_of v / 2) ≡ s % 4096) (count : ones (bits_of v) ≡ counts_of v) where
  proposed : leb (counts_of v + last_bit v s) 2 ≡ true → Flaw 64 s (bit_xor (bits_of v) (last_bit v s))
  proposed few =
      let b : ℕ = last_bit v s in
      let hb : b < 2 = bit (counts_of v + s / 4096) in
      let none : b / 2 ≡ 0 = omega arith in
      let one : ones b ≡ b = ones_bit b hb in
      record {
        within = xor_lt 64 (bits_of v) b (bits_within v) (lt_of_lt_of_le hb (lit≤ tt));
        few = omega (arith, ones_xor_le (bits_of v) b, count, one, leb-true (counts_of v + last_bit v s) 2 few);
        leaves =
            syndrome_made (bit_xor (bits_of v) b) s
            (ap remainder (xor_half (bits_of v) b ∙ ap (bit_xor (bits_of v / 2)) none ∙ xor_zero_r (bits_of v / 2)) ∙ own)
            (parity (ones (bit_xor (bits_of v) b)) (ones (bits_of v)) (counts_of v) b (s / 4096)
            (ones_xor_odd (bits_of v) b ∙ ap (λ (x : ℕ). (ones (bits_of v) + x) % 2) one) (ap (λ (x : ℕ). x % 2) count) refl (omega arith));
      }

-- a word with the syndrome 0 is true as it stands
pub clean : (w : ℕ) → w < 2 ^ 64 → syndrome w ≡ 0 → Reads 64 w (word w)
clean w fits e = (syndrome_true 64 w (omega arith) fits e, undamaged w)

module _ (w : ℕ) (fits : w < 2 ^ 64) (v : ℕ) (flips : Flips (syndrome w % 4096) v) where
  abbrev s : ℕ
  s = syndrome w

  -- a flaw with that syndrome is few enough for v, which names its places
  answered : (e : ℕ) → Flaw 64 s e → leb (counts_of v + last_bit v s) 2 ≡ true
  answered e p =
      let parts = syndrome_parts e s p.leaves in
      let n = flips.named (e / 2) (half_lt 63 p.within) (code_few e p.few) parts.0 in
      le-leb (counts_of v + last_bit v s) 2 (subst (λ (x : ℕ). x ≤ 2) (sym (whole e (counts_of v) (s / 4096) n.1 (sym parts.1))) p.few)

  go : (b : Bool) → leb (counts_of v + last_bit v s) 2 ≡ b → Reads 64 w (cond b (word (bit_xor w (bit_xor (bits_of v) (last_bit v s)))) unreadable)
  go true q =
      let n = flips.sound (omega (arith, leb-true (counts_of v + last_bit v s) 2 q)) in
      flaw_near 64 w (omega arith) fits (bit_xor (bits_of v) (last_bit v s)) (proposed v s (syndrome_lt w) n.0 n.1 q)
  go false q = λ u t d. true≢false (sym (answered (bit_xor w u) (near_flaw 64 w (omega arith) fits u t d)) ∙ q)

  pub damaged : Reads 64 w (mended_as v w s)
  damaged = go (leb (counts_of v + last_bit v s) 2) refl

  -- a syndrome of 0 needs no mending
  pub told : Reads 64 w (cond (eqb s 0) (word w) (mended_as v w s))
  told = either (eqb s 0) refl
    where
      either : (b : Bool) → eqb s 0 ≡ b → Reads 64 w (cond b (word w) (mended_as v w s))
      either true e = clean w fits (eqb-true s 0 e)
      either false e = damaged

-- so what comes of a word, its syndrome and what that flips is its reading
pub mended : (w s v : ℕ) (x : Reading) → w < 2 ^ 64 → s ≡ syndrome w → Flips (s % 4096) v → x ≡ mended_as v w s → Reads 64 w x
mended w s v x fits e flips made =
    subst (Reads 64 w) (sym (made ∙ ap (mended_as v w) e)) (damaged w fits v (subst (λ (y : ℕ). Flips (y % 4096) v) e flips))

-- a word of 32 bits is one of 64 whose upper half is 0, and stays so
pub short : (w : ℕ) → w < 2 ^ 32 → (r : Reading) → Reads 64 w r → Reads 32 w (sent r)
short w h (word v) a = go (ltb v (2 ^ 32)) refl
  where
    wide : (u : ℕ) → TrueWord 32 u → TrueWord 64 u
    wide u t = record { fits = lt_of_lt_of_le t.fits (lit≤ tt); code = t.code; even = t.even }

    go : (b : Bool) → ltb v (2 ^ 32) ≡ b → Reads 32 w (cond b (word v) unreadable)
    go true e = (record { fits = ltb-true v (2 ^ 32) e; code = a.0.code; even = a.0.even }, a.1)
    go false e = λ u t d.
        let same : u ≡ v = one_near 64 w (omega arith) (lt_of_lt_of_le h (lit≤ tt)) u v (wide u t) d a.0 a.1 in
        omega (arith, ltb-false v (2 ^ 32) e, t.fits)
short w h unreadable a = λ u t d. a u (record { fits = lt_of_lt_of_le t.fits (lit≤ tt); code = t.code; even = t.even }) d
