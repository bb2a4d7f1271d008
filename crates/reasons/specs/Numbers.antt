-- The names as numbers, and what is promised of these.
-- Assumes nothing.
use Rattle.std.specs.Prelude.{ℕ, ◌<◌, ◌≡◌, ◌↔◌, List, length, get_or}
use Rattle.entries.specs.declared.Own.{Own}
use Rattle.entries.specs.declared.Verdict.{Verdict}
use Rattle.entries.specs.declared.Verdict.TheVariants.{Silent}
use Rattle.entries.specs.Names.{name_number}
use Rattle.series.specs.Series.{entry_count}
use Rattle.reasons.specs.Names.{TrueName}

-- as TrueNames: a name's number is given exactly when it is the true one
pub record TrueNumbers (names : Own → List ℕ → ℕ → List ℕ) : Type 0 where
  pub every : (own : Own) (m : List ℕ) (carried : ℕ) → length (names own m carried) ≡ entry_count m
  pub exact
      : (own : Own) (m : List ℕ) (carried i : ℕ) → i < entry_count m → (v : Verdict)
      → (get_or (names own m carried) i (name_number Silent) ≡ name_number v) ↔ TrueName own m carried i v
