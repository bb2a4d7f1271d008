-- Answer 2: the length of a frame.
-- Assumes nothing.
use Rattle.std.specs.Prelude.{ℕ, ◌%◌, Bool, ◌&&◌, eqb, leb}
use Rattle.downstream.specs.Limits.{least_frame, most_frame, octets_a_word}

-- "A frame is 4 to 135,432 bytes, a multiple of 4"
unfoldable pub length_fits_lem : ℕ → Bool
length_fits_lem frame = leb least_frame frame && (leb frame most_frame && eqb (frame % octets_a_word) 0)
