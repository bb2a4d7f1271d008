-- The names of a map's structures, by their numbers: what the walk answers, and what the lent list then holds.
-- Assumes nothing.
use Rattle.std.specs.Prelude.{None, Option, Some, ℕ, ◌≡◌, cond, List, [], ◌∷◌, leb, length}
use Rattle.xgem.specs.Writes.{put}
use Rattle.entries.specs.declared.Own.{Own}
use Rattle.entries.specs.declared.Verdict.{Verdict}
use Rattle.entries.specs.Names.{name_number}
use Rattle.series.specs.Series.{entry_count}
use Rattle.bwmap.specs.Verdicts.{verdicts}

abbrev pub name_numbers : List Verdict → List ℕ
name_numbers [] = []
name_numbers (v ∷ l) = name_number v ∷ name_numbers l

-- one name for each structure, in map order
abbrev pub names_of : Own → List ℕ → ℕ → List ℕ
names_of own m carried = name_numbers (verdicts own m carried)

pub record NamesLeft : Type 0 where
  pub answer : Option ℕ
  pub names : List ℕ

-- a list that has no room for all of them is refused and left as it is; past them it keeps its content
abbrev pub names_in : Own → List ℕ → ℕ → List ℕ → NamesLeft
names_in own m carried names =
    cond (leb (entry_count m) (length names))
    (record { answer = Some (entry_count m); names = put names (names_of own m carried) })
    (record { answer = None; names = names })

-- the whole contract
abbrev pub NamesAre : Own → List ℕ → ℕ → List ℕ → Option ℕ → List ℕ → Type 0
NamesAre own m carried names answer left = record { answer = answer; names = left } ≡ names_in own m carried names
