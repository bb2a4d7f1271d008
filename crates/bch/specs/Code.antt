-- The protected words of Annex A. A word is a number: the first bit sent is its highest.
-- Assumes nothing.
use Rattle.std.specs.Prelude.{◌≡◌, Bool, cond, ◌&&◌, ℕ, zero, suc, ◌*◌, ◌/◌, ◌%◌, ◌^◌, ◌<◌, eqb, ltb}
use Rattle.std.specs.Int.Bits.{bit_xor}
use Rattle.std.specs.Int.Count.{ones}

-- x^12 + x^10 + x^8 + x^5 + x^4 + x^3 + 1
abbrev pub generator : ℕ
generator = 0x1539

-- the generator times the polynomial of the n lowest bits of q
unfoldable pub times : ℕ → ℕ → ℕ
times zero q = 0
times (suc n) q = bit_xor (q % 2 * generator) (times n (q / 2) * 2)

-- a codeword of the cyclic code: a multiple of the generator, of at most 63 bits
abbrev pub Codeword : ℕ → Type 0
Codeword c = (q : ℕ) × (c ≡ times 63 q)

-- a true word of n bits: all bits but the last are a codeword, and the last makes the number of ones even. A word of
-- 32 bits has 32 zeros in front that are not sent
pub record TrueWord (n v : ℕ) : Type 0 where
  pub fits : v < 2 ^ n
  pub code : Codeword (v / 2)
  pub even : ones v % 2 ≡ 0

-- in how many bits two words differ
abbrev pub distance : ℕ → ℕ → ℕ
distance a b = ones (bit_xor a b)

-- a remainder times x: one place up, less the generator where that reaches degree 12
abbrev pub double : ℕ → ℕ
double r = cond (ltb (r * 2) 4096) (r * 2) (bit_xor (r * 2) generator)

-- the check value of place k, Table A.1 from its low end: the remainder of x^k
unfoldable pub place : ℕ → ℕ
place zero = 1
place (suc k) = double (place k)

-- the remainder of the n lowest bits of w, where the lowest has the check value p
unfoldable pub remainder_from : ℕ → ℕ → ℕ → ℕ
remainder_from zero p w = 0
remainder_from (suc n) p w = bit_xor (w % 2 * p) (remainder_from n (double p) (w / 2))

-- the remainder of 63 bits: 0 for the codewords and for nothing else
abbrev pub remainder : ℕ → ℕ
remainder w = remainder_from 63 1 w

-- the test for a true word
abbrev pub is_true : ℕ → Bool
is_true v = eqb (remainder (v / 2)) 0 && eqb (ones v % 2) 0
