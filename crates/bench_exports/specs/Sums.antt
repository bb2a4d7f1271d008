-- The sum, without carry, of what words of n bits read as: unreadable ones add nothing.
-- Assumes nothing.
use Rattle.std.specs.Prelude.{List, [], ◌∷◌, ℕ}
use Rattle.std.specs.Int.Bits.{bit_xor}
use Rattle.hec.specs.Reads.{Reading, word, unreadable, reading}

abbrev pub value_of : Reading → ℕ
value_of (word v) = v
value_of unreadable = 0

unfoldable pub read_sum : ℕ → List ℕ → ℕ
read_sum n [] = 0
read_sum n (w ∷ rest) = bit_xor (value_of (reading n w)) (read_sum n rest)
