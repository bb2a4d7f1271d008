-- Demand 2: "A header is mended where a true one differs in at most two bits, and is unreadable only where there is none."
-- Assumes nothing.
use Rattle.std.specs.Prelude.{◌≡◌, ℕ, ◌^◌, ◌≤◌, ◌<◌}
use Rattle.bch.specs.Code.{TrueWord, distance}
use Rattle.hec.specs.Reads.{word, unreadable, reading}

-- for words of n bits; HLend has 32, an allocation structure and an XGEM header 64
pub record HeaderFact (n : ℕ) : Type 0 where
  -- where a true word differs in at most two bits, the word reads as that one
  pub mended : (w v : ℕ) → w < 2 ^ n → TrueWord n v → distance w v ≤ 2 → reading n w ≡ word v
  -- what a word reads as is a true word of its own length at most two bits away
  pub true : (w v : ℕ) → w < 2 ^ n → reading n w ≡ word v → TrueWord n v × (distance w v ≤ 2)
  -- it is unreadable only where there is none
  pub only : (w : ℕ) → w < 2 ^ n → reading n w ≡ unreadable → (v : ℕ) → TrueWord n v → distance w v ≤ 2 → ⊥
  -- and no two true words are that near
  pub one : (w u v : ℕ) → w < 2 ^ n → TrueWord n u → distance w u ≤ 2 → TrueWord n v → distance w v ≤ 2 → u ≡ v
