-- A search that compares with every element: what it sums up.
-- Assumes nothing.
use Rattle.std.specs.Prelude.{Bool, cond, List, [], ◌∷◌, ℕ, ◌+◌}

-- 256 and its place for each element that passes the test, the list's own first place being i
abbrev pub marks : {A : Type 0} → (A → Bool) → ℕ → List A → ℕ
marks f i [] = 0
marks f i (a ∷ l) = cond (f a) (256 + i) 0 + marks f (i + 1) l
