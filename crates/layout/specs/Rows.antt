-- Numbers, marks and lists of them as octets of fixed width, one after another.
-- Assumes nothing.
use Rattle.std.specs.Prelude.{ℕ, zero, suc, List, [], ◌∷◌, ◌++◌, Bool, true, false, take, drop}

-- the octets from an offset on, so many
abbrev pub part : ℕ → ℕ → List ℕ → List ℕ
part offset width b = take width (drop offset b)

-- the octets of each, one after another
abbrev pub each : {A : Type 0} → (A → List ℕ) → List A → List ℕ
each octets_of [] = []
each octets_of (a ∷ l) = octets_of a ++ each octets_of l

-- so many, of so many octets each
abbrev pub many : {A : Type 0} → (List ℕ → A) → ℕ → ℕ → List ℕ → List A
many of width zero b = []
many of width (suc count) b = of (take width b) ∷ many of width count (drop width b)
