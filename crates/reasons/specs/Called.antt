-- The records of the entries that are called planned, from their names and the map alone: "The entries called planned are exactly the
-- plan's."
-- Assumes nothing.
use Rattle.std.specs.Prelude.{ℕ, ◌≡◌, cond, List, [], ◌∷◌, ◌++◌, eqb}
use Rattle.xgtc.specs.declared.allocation.Allocation.{Allocation}
use Rattle.xgem.specs.Reads.{Found, fields, unreadable, short}
use Rattle.entries.specs.declared.Own.{Own}
use Rattle.entries.specs.declared.Verdict.TheVariants.{Planned}
use Rattle.entries.specs.Standings.{continues}
use Rattle.entries.specs.Names.{name_number}
use Rattle.series.specs.Series.{planned_of}
use Rattle.plan.specs.Records.{head_flags_lem, more_flags_lem, plan_record}
use Rattle.plan.specs.Plan.{numbers}
use Rattle.bwmap.specs.Verdicts.{entries}

-- what was read of the entries whose name is the number of "planned"
abbrev pub called_planned : List ℕ → List (Found Allocation) → List Allocation
called_planned [] l = []
called_planned (n ∷ names) [] = []
called_planned (n ∷ names) (fields a ∷ l) = cond (eqb n (name_number Planned)) (a ∷ called_planned names l) (called_planned names l)
called_planned (n ∷ names) (unreadable ∷ l) = called_planned names l
called_planned (n ∷ names) (short ∷ l) = called_planned names l

-- the records of entries where h is the last head before them: an entry that continues is of its burst, any other is a head
abbrev pub records_under : Allocation → List Allocation → List ℕ
records_under h [] = []
records_under h (a ∷ l) =
    cond (continues a) (plan_record a (more_flags_lem h a) h.start ++ records_under h l) (plan_record a (head_flags_lem a) a.start ++ records_under a l)

abbrev pub records_called : List Allocation → List ℕ
records_called [] = []
records_called (a ∷ l) = records_under a (a ∷ l)

-- the names that are given as numbers lead to the plan, number by number
abbrev pub CalledArePlans : (Own → List ℕ → ℕ → List ℕ) → Type 0
CalledArePlans names = (own : Own) (m : List ℕ) (carried : ℕ) → records_called (called_planned (names own m carried) (entries m)) ≡ numbers (planned_of own m carried)
