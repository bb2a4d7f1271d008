-- A damaged word with the bits flipped that its syndrome points to.
-- Assumes nothing.
use Rattle.std.specs.Prelude.{cond, ℕ, ◌+◌, ◌/◌, ◌%◌, ◌^◌, ltb, leb}
use Rattle.std.specs.Int.Bits.{bit_xor}
use Rattle.bch.specs.Tables.{bits_of, counts_of}
use Rattle.hec.specs.Reads.{Reading, word, unreadable}

-- the last bit is flipped where the parity of the others asks for it
abbrev pub last_bit : ℕ → ℕ → ℕ
last_bit v s = (counts_of v + s / 4096) % 2

-- the word w with the syndrome s, where v is what its remainder flips: mended where that takes at most two bits
abbrev pub mended_as : ℕ → ℕ → ℕ → Reading
mended_as v w s = cond (leb (counts_of v + last_bit v s) 2) (word (bit_xor w (bit_xor (bits_of v) (last_bit v s)))) unreadable

-- of a word of 32 bits only those 32 are sent, and none in front of them can be flipped
abbrev pub sent : Reading → Reading
sent (word v) = cond (ltb v (2 ^ 32)) (word v) unreadable
sent unreadable = unreadable
