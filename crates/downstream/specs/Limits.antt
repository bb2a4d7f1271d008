-- The numbers of the paper that bound a downstream frame.
-- Assumes nothing.
use Rattle.std.specs.Prelude.{ℕ}

-- "A frame is 4 to 135,432 bytes, a multiple of 4"
abbrev pub least_frame : ℕ
least_frame = 4

abbrev pub most_frame : ℕ
most_frame = 135432

abbrev pub octets_a_word : ℕ
octets_a_word = 4
