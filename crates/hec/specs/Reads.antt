-- What reading a protected word gives: the true word of its length at most two bits away.
-- Assumes nothing.
use Rattle.std.specs.Prelude.{None, Option, Some, ◌≡◌, cond, ℕ, zero, suc, ◌^◌, ◌≤◌}
use Rattle.std.specs.Int.Bits.{bit_xor}
use Rattle.bch.specs.Code.{TrueWord, distance, is_true}
use Rattle.hec.specs.declared.Word.{Word}

pub data Reading : Type 0 where
  word : ℕ → Reading
  unreadable : Reading

-- w reads as a true word of n bits at most two bits away, and is unreadable only where there is none
abbrev pub Reads : ℕ → ℕ → Reading → Type 0
Reads n w (word v) = TrueWord n v × (distance w v ≤ 2)
Reads n w unreadable = (v : ℕ) → TrueWord n v → distance w v ≤ 2 → ⊥

abbrev pub or_else : Reading → Reading → Reading
or_else (word v) other = word v
or_else unreadable other = other

-- the true word that at most m flips among the n lowest bits make of w
unfoldable pub mended : ℕ → ℕ → ℕ → Reading
mended zero m w = cond (is_true w) (word w) unreadable
mended (suc n) zero w = cond (is_true w) (word w) unreadable
mended (suc n) (suc m) w = or_else (mended n (suc m) w) (mended n m (bit_xor w (2 ^ n)))

-- what a word of n bits reads as: the one reading that `Reads` has for it
abbrev pub reading : ℕ → ℕ → Reading
reading n w = mended n 2 w

-- the code's answer, of either length
abbrev pub found_word : Option (Word ℕ) → Reading
found_word (Some w) = word w.0
found_word None = unreadable
