-- What a read has brought.
-- Assumes nothing.
use Rattle.std.specs.Prelude.{ℕ, ◌≤◌, Option, None, Some, Result, Ok, Err}

-- the input is not filled beyond its end
abbrev pub Within : {E : Type 0} → ℕ → Result (Option ℕ) E → Type 0
Within most (Ok (Some n)) = n ≤ most
Within most (Ok None) = Unit {0}
Within most (Err e) = Unit {0}
