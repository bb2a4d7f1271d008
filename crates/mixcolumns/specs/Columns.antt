-- SubBytes and MixColumns (FIPS 197, 5.1.1 and 5.1.3) of one octet of a column, as a word of four octets, the first highest.
-- Assumes nothing.
use Rattle.std.specs.Prelude.{ℕ, ◌+◌, ◌*◌, ◌/◌, ◌%◌}
use Rattle.std.specs.Int.Bits.{bit_xor}
use Rattle.subbytes.specs.Field.{s_box, xtime}

abbrev pub joined : ℕ → ℕ → ℕ → ℕ → ℕ
joined a b c d = ((a * 256 + b) * 256 + c) * 256 + d

-- a word turned right by an octet: the column of the next row
abbrev pub turned : ℕ → ℕ
turned w = w % 256 * 16777216 + w / 256

-- the column that an octet in its first row gives: 2, 1, 1 and 3 times its S-box value
unfoldable pub mix_of : ℕ → ℕ
mix_of x = joined (xtime (s_box x)) (s_box x) (s_box x) (bit_xor (xtime (s_box x)) (s_box x))
