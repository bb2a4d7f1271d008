-- Lines of numbers as text, in ASCII.
-- Assumes nothing.
use Rattle.std.specs.Prelude.{ℕ, List, [], ◌∷◌, ◌++◌}
use Rattle.text.specs.Texts.{ascii, space, newline}
use Rattle.text.specs.Decimals.{field}

-- numbers in decimal, a space between two of them, and the end of the line
unfoldable pub spaced : List ℕ → List ℕ
spaced [] = newline ∷ []
spaced (n ∷ []) = field n newline
spaced (n ∷ m ∷ l) = field n space ++ spaced (m ∷ l)

-- six numbers of at most twenty digits, and what ends each
abbrev pub most_line : ℕ
most_line = 126

-- "prints its number and `bad`"
unfoldable pub bad_line : ℕ → List ℕ
bad_line n = field n space ++ ascii "bad\n"
