-- What private contracts cite: what is authenticated of several messages, one row behind the other.
-- Assumes nothing.
use Rattle.std.specs.Prelude.{ℕ, ◌/◌, ◌<◌, ◌≡◌, Bool, cond, ◌&&◌, List, leb, ltb, length}
use Rattle.std.proofs.Math.Seq.{paste}
use Rattle.aes.specs.Cipher.{at}
use Rattle.cmac.specs.Tags.{message_of}
use Rattle.ploam.specs.Layout.{message_octets, message_at, mic_field}
use Rattle.integrity.specs.Integrity.{covered, same}
use Rattle.integrity.specs.declared.Direction.TheVariants.{Downstream}

-- the direction code and octets 1 to 40
abbrev pub row_octets : ℕ
row_octets = 41

-- of the message at a place, where there is one
abbrev pub covered_in : List ℕ → ℕ → List ℕ → ℕ → List ℕ
covered_in b place rows at =
    cond (ltb place (length b / message_octets)) (paste rows at (covered Downstream (message_at b place)) row_octets) rows

-- of those at the first n places
abbrev pub Rows : List ℕ → List ℕ → ℕ → List ℕ → Type 0
Rows b places n rows =
    (j : ℕ) → j < n → at places j < length b / message_octets
    → message_of rows row_octets j ≡ covered Downstream (message_at b (at places j))

-- a whole message has this integrity field
abbrev pub has_field : List ℕ → List ℕ → Bool
has_field mic m = leb message_octets (length m) && same (mic_field m) mic
