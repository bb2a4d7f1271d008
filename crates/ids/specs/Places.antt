-- Places in a list.
-- Assumes nothing.
use Rattle.std.specs.Prelude.{None, Option, Some, is_some, ℕ, ◌+◌, ◌<◌, List, [], ◌∷◌, Bool, false, ◌||◌, cond}

-- the place of the first that passes the test, the list's own first place being i
abbrev pub place_from : {A : Type 0} → (A → Bool) → ℕ → List A → Option ℕ
place_from f i [] = None
place_from f i (a ∷ l) = cond (f a) (Some i) (place_from f (i + 1) l)

-- there is one
abbrev pub is_held : Option ℕ → Bool
is_held place = is_some place

-- a place that is found lies below n
abbrev pub Below : Option ℕ → ℕ → Type 0
Below (Some i) n = i < n
Below None n = Unit {0}

-- one of them passes the test
abbrev pub some : {A : Type 0} → (A → Bool) → List A → Bool
some f [] = false
some f (a ∷ l) = f a || some f l
