-- What becomes of each entry of a map: its verdict.
-- Assumes nothing.
use Rattle.std.specs.Prelude.{ℕ, zero, suc, cond, List, [], ◌∷◌, ◌++◌, ltb}
use Rattle.xgtc.specs.declared.allocation.Allocation.{Allocation}
use Rattle.xgem.specs.Reads.{Found, fields}
use Rattle.entries.specs.declared.Own.{Own}
use Rattle.entries.specs.declared.Verdict.{Verdict}
use Rattle.entries.specs.declared.Verdict.TheVariants.{ContinuingNothing, Seventeenth}
use Rattle.entries.specs.declared.Standing.{Standing}
use Rattle.entries.specs.declared.Standing.TheVariants.{Apart, Head, More}
use Rattle.entries.specs.Standings.{is_planned_lem}
use Rattle.series.specs.Limits.{entries_a_burst}
use Rattle.series.specs.declared.Around.{Around}
use Rattle.series.specs.Series.{Series, entry_at, entry_count, standings, series_at, outset, beyond, verdict_of}

-- what an entry is among the others: alone, with its verdict; the head of a series; or one that goes a series on
pub data Role : Type 0 where
  alone : Verdict → Role
  opens : Series → Role
  joins : Role

-- the roles of entries where the series that is open has k so far, 0 where none is: "An unusable or foreign entry, or a
-- 17th, closes it; continuing entries after that belong to nothing"
abbrev pub roles : ℕ → List Standing → List Role
roles k [] = []
roles k (Apart v ∷ l) = alone v ∷ roles 0 l
roles k (Head a ∷ l) = opens (series_at a l) ∷ roles 1 l
roles zero (More a ∷ l) = alone ContinuingNothing ∷ roles 0 l
roles (suc k) (More a ∷ l) = cond (ltb (suc k) entries_a_burst) (joins ∷ roles (suc (suc k)) l) (alone Seventeenth ∷ roles 0 l)

-- the entries of a series have its verdict, v for the one that is open
abbrev pub verdicts_of : Around → Verdict → List Role → List Verdict
verdicts_of around v [] = []
verdicts_of around v (alone x ∷ l) = x ∷ verdicts_of around v l
verdicts_of around v (joins ∷ l) = v ∷ verdicts_of around v l
verdicts_of around v (opens s ∷ l) =
    verdict_of around s
    ∷ cond (is_planned_lem (verdict_of around s)) (verdicts_of (beyond around s) (verdict_of around s) l) (verdicts_of around (verdict_of around s) l)

abbrev pub verdicts : Own → List ℕ → ℕ → List Verdict
verdicts own m carried = verdicts_of (outset carried) ContinuingNothing (roles 0 (standings own m))

-- ---- the entries that are called planned

abbrev pub entries_from : List ℕ → ℕ → ℕ → List (Found Allocation)
entries_from m i zero = []
entries_from m i (suc k) = entry_at m i ∷ entries_from m (suc i) k

abbrev pub entries : List ℕ → List (Found Allocation)
entries m = entries_from m 0 (entry_count m)

abbrev pub called : List Verdict → List (Found Allocation) → List (Found Allocation)
called [] l = []
called (v ∷ vs) [] = []
called (v ∷ vs) (e ∷ l) = cond (is_planned_lem v) (e ∷ called vs l) (called vs l)

abbrev pub readable : List Allocation → List (Found Allocation)
readable [] = []
readable (a ∷ l) = fields a ∷ readable l

-- the entries of series
abbrev pub entries_of : List Series → List Allocation
entries_of [] = []
entries_of (s ∷ l) = s.head ∷ (s.more ++ entries_of l)
