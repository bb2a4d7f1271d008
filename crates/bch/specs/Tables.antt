-- What the tables hold.
-- Assumes nothing.
use Rattle.std.specs.Prelude.{◌≡◌, List, ℕ, ◌+◌, ◌*◌, ◌/◌, ◌%◌, ◌^◌, ◌<◌, ◌≤◌, get_or}
use Rattle.std.specs.Int.Bits.{bit_xor}
use Rattle.std.specs.Int.Count.{ones}
use Rattle.bch.specs.Code.{place, remainder}

-- the syndrome of a word: the remainder of its code bits, with the parity of all its bits as a thirteenth
abbrev pub syndrome : ℕ → ℕ
syndrome w = ones w % 2 * 4096 + remainder (w / 2)

-- the check values of the 63 places
abbrev pub Remainders : List ℕ → Type 0
Remainders xs = (k : ℕ) → k < 63 → get_or xs k 0 ≡ place k

-- what is flipped names up to two places and says how many they are: each is a number below 63, or 63 for none. A number
-- above two says that there are no such places
abbrev pub first_place_lem : ℕ → ℕ
first_place_lem v = v % 64

abbrev pub second_place : ℕ → ℕ
second_place v = v / 64 % 64

-- place k is a bit of a word of 64: the last bit has no place
abbrev pub bit_of : ℕ → ℕ
bit_of k = (2 * 2 ^ k) % 2 ^ 64

abbrev pub bits_of : ℕ → ℕ
bits_of v = bit_xor (bit_of (first_place_lem v)) (bit_of (second_place v))

abbrev pub counts_of : ℕ → ℕ
counts_of v = v / 4096

-- v says what is flipped where the remainder is s
pub record Flips (s v : ℕ) : Type 0 where
  -- of a pattern of at most two code bits with that remainder, the places of just those bits
  pub named : (f : ℕ) → f < 2 ^ 63 → ones f ≤ 2 → remainder f ≡ s → (bits_of v ≡ f * 2) × (counts_of v ≡ ones f)
  -- and what names at most two places names so many bits, with that remainder
  pub sound : counts_of v ≤ 2 → (remainder (bits_of v / 2) ≡ s) × (ones (bits_of v) ≡ counts_of v)
