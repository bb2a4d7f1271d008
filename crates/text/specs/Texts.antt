-- What is put into a text from a place on.
-- Assumes nothing.
use Rattle.std.specs.Prelude.{ℕ, ◌+◌, min, max, List, [], ◌∷◌, length}
use Prim.Native.String.{String}
use Prim.Native.String.{[] as end, ◌∷◌ as then}
use Prim.Native.Char.{code}
use Rattle.std.proofs.lemmas.List.Edits.{sets}

-- a word's octets
abbrev pub ascii : String → List ℕ
ascii end = []
ascii (then c s) = code c ∷ ascii s

abbrev pub space : ℕ
space = 32

abbrev pub newline : ℕ
newline = 10

-- what a text then holds, and the place behind what was put
pub record Added : Type 0 where
  pub text : List ℕ
  pub place : ℕ

-- as much of s as there is room for; the place goes no further than the text does
unfoldable pub added : List ℕ → ℕ → List ℕ → Added
added l at s = record { text = sets l at s; place = max at (min (at + length s) (length l)) }
