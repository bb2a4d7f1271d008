-- The records of the entries that are called planned are the plan's, number by number.
-- Assumes nothing.
use Prim.Native.Nat.{ℕ, ◌+◌}
use mathlib.Core.Path.{◌≡◌, ◌∙◌, refl, ap}
use mathlib.Core.Bool.{Bool, true, false, cond}
use mathlib.Core.List.{List, [], ◌∷◌, ◌++◌}
use lib.Dec.{eqb}
use Rattle.xgtc.specs.declared.allocation.Allocation.{Allocation}
use Rattle.xgem.specs.Reads.{Found, fields, unreadable, short}
use Rattle.entries.specs.declared.Own.{Own}
use Rattle.entries.specs.declared.Verdict.{Verdict}
use Rattle.entries.specs.declared.Verdict.TheVariants.{Planned, Unreadable, StartTimeUnfit, DbruWithoutRoom, Foreign, ContinuingNothing, Seventeenth, TooLong, Overlapping, AfterTheLast, Silent}
use Rattle.entries.specs.Names.{name_number}
use Rattle.entries.specs.Standings.{is_planned_lem}
use Rattle.series.specs.Series.{Series, planned_of}
use Rattle.plan.specs.Records.{head_flags_lem, more_flags_lem, plan_record}
use Rattle.plan.specs.Plan.{more_numbers, series_numbers, numbers}
use Rattle.bwmap.specs.Promises.{Follow, SeriesIn, Every}
use Rattle.bwmap.specs.Verdicts.{verdicts, entries, called, readable, entries_of}
use Rattle.bwmap.proofs.Kept.{planned-ours}
use Rattle.bwmap.proofs.Called.{called-planned}
use Rattle.bwmap.specs.Names.{name_numbers, names_of}
use Rattle.reasons.specs.Called.{called_planned, records_under, records_called, CalledArePlans}
use Rattle.reasons.proofs.Standing.{clash}

-- ---- from the numbers of the names

-- only "planned" has its number
planned-number : (v : Verdict) → eqb (name_number v) (name_number Planned) ≡ is_planned_lem v
planned-number Planned = refl
planned-number Unreadable = refl
planned-number StartTimeUnfit = refl
planned-number DbruWithoutRoom = refl
planned-number Foreign = refl
planned-number ContinuingNothing = refl
planned-number Seventeenth = refl
planned-number TooLong = refl
planned-number Overlapping = refl
planned-number AfterTheLast = refl
planned-number Silent = refl

none_called : (l : List Allocation) → ◌≡◌ {A = List (Found Allocation)} [] (readable l) → [] ≡ l
none_called [] e = refl
none_called (a ∷ l) e = clash (cc)

by-numbers : (vs : List Verdict) (es : List (Found Allocation)) (l : List Allocation) → called vs es ≡ readable l → called_planned (name_numbers vs) es ≡ l
by-numbers [] es l h = none_called l h
by-numbers (v ∷ vs) [] l h = none_called l h
by-numbers (v ∷ vs) (e ∷ es) l h = go (is_planned_lem v) e l (planned-number v) h (by-numbers vs es)
  where
    go
        : (b : Bool) (e : Found Allocation) (l : List Allocation) → eqb (name_number v) (name_number Planned) ≡ b
        → cond b (e ∷ called vs es) (called vs es) ≡ readable l → ((k : List Allocation) → called vs es ≡ readable k → called_planned (name_numbers vs) es ≡ k)
        → called_planned (name_number v ∷ name_numbers vs) (e ∷ es) ≡ l
    go false (fields a) l p h ih = rw p (ih l h)
    go false unreadable l p h ih = ih l h
    go false short l p h ih = ih l h
    go true e [] p h ih = clash (cc)
    go true (fields a) (c ∷ l) p h ih =
        let same : a ≡ c = cc in
        let rest : called vs es ≡ readable l = cc in
        rw (p, same) (ap (λ (k : List Allocation). c ∷ k) (ih l rest))
    go true unreadable (c ∷ l) p h ih = clash (cc)
    go true short (c ∷ l) p h ih = clash (cc)

pub planned-called : (own : Own) (m : List ℕ) (carried : ℕ) → called_planned (names_of own m carried) (entries m) ≡ entries_of (planned_of own m carried)
planned-called own m carried = by-numbers (verdicts own m carried) (entries m) (entries_of (planned_of own m carried)) (called-planned own m carried)

-- ---- to the records of the plan

module _ (own : Own) (m : List ℕ) where
  under_head : (h : Allocation) (i : ℕ) (l k : List Allocation) → Follow own m i l → records_under h (l ++ k) ≡ more_numbers h l ++ records_under h k
  under_head h i [] k f = refl
  under_head h i (a ∷ l) k f = rw f.1.kind (ap (λ (t : List ℕ). plan_record a (more_flags_lem h a) h.start ++ t) (under_head h (i + 1) l k f.2))

  of_series : (h : Allocation) (l : List Series) → Every (SeriesIn own m) l → records_under h (entries_of l) ≡ numbers l
  unfolding series_numbers
  of_series h [] e = refl
  of_series h (s ∷ l) e =
      rw e.0.head.kind
      (ap (λ (t : List ℕ). plan_record s.head (head_flags_lem s.head) s.head.start ++ t)
      (under_head s.head (e.0.at + 1) s.more (entries_of l) e.0.more ∙ ap (λ (t : List ℕ). more_numbers s.head s.more ++ t) (of_series s.head l e.1)))

  of_plan : (l : List Series) → Every (SeriesIn own m) l → records_called (entries_of l) ≡ numbers l
  of_plan [] e = refl
  of_plan (s ∷ l) e = of_series s.head (s ∷ l) e

-- "The entries called planned are exactly the plan's"
pub called_are_plans : CalledArePlans names_of
called_are_plans own m carried = ap records_called (planned-called own m carried) ∙ of_plan own m (planned_of own m carried) (planned-ours own m carried)
