-- What is promised of the names of a map's structures: "The reason given must be the true one."
-- Assumes nothing.
use Rattle.std.specs.Prelude.{ℕ, ◌<◌, ◌≡◌, ◌↔◌, true, List, length, get_or, replicate}
use Rattle.station.specs.States.{silent}
use Rattle.entries.specs.declared.Own.{Own}
use Rattle.entries.specs.declared.Verdict.{Verdict}
use Rattle.entries.specs.declared.Verdict.TheVariants.{Silent}
use Rattle.series.specs.Series.{entry_count}
use Rattle.reasons.specs.Facts.{Fact, First, in_order_lem}

-- a way to name the structures of a map: by what is ours, the map as mended, and the words carried over
abbrev pub Naming : Type 0
Naming = Own → List ℕ → ℕ → List Verdict

-- the name of the i-th structure; past the last there is none, and any will do
abbrev pub name_at : Naming → Own → List ℕ → ℕ → ℕ → Verdict
name_at names own m carried i = get_or (names own m carried) i Silent

-- v is the true name of the i-th structure: "its fact holds and nothing earlier in this list applies"
abbrev pub TrueName : Own → List ℕ → ℕ → ℕ → Verdict → Type 0
TrueName own m carried i v = First (Fact own m carried i) in_order_lem v

pub record TrueNames (names : Naming) : Type 0 where
  -- "for every structure of the map"
  pub every : (own : Own) (m : List ℕ) (carried : ℕ) → length (names own m carried) ≡ entry_count m
  -- "each name is given exactly when its fact holds and nothing earlier in this list applies"
  pub exact : (own : Own) (m : List ℕ) (carried i : ℕ) → i < entry_count m → (v : Verdict) → (name_at names own m carried i ≡ v) ↔ TrueName own m carried i v
  -- "the silent state comes before all"
  pub dark : (own : Own) (m : List ℕ) (carried : ℕ) → silent own.activation ≡ true → names own m carried ≡ replicate (entry_count m) Silent
