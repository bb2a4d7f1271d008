-- A list that closes up behind one of its places.
-- Assumes nothing.
use Rattle.std.specs.Prelude.{ℕ, ◌+◌, List, [], ◌∷◌, ◌++◌, take, drop}

-- what stands at i leaves, the others keep their order, and a blank comes in at the end
abbrev pub close_up : {A : Type 0} → A → ℕ → List A → List A
close_up blank i l = take i l ++ (drop (i + 1) l ++ (blank ∷ []))
