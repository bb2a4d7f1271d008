-- The entries that are called planned are exactly those of the plan, in map order.
-- Assumes nothing.
use Prim.Native.Nat.{ℕ, zero, suc, ◌-◌}
use mathlib.Core.Path.{◌≡◌, ◌∙◌, refl, sym, ap}
use mathlib.Core.Bool.{Bool, true, false, cond}
use mathlib.Core.List.{List, [], ◌∷◌, ◌++◌}
use native.Mathlib.Omega.{arith}
use lib.Dec.{ltb}
use borrow.Author.Tests.{ltb-true, ltb-false}
use Rattle.xgtc.specs.declared.allocation.Allocation.{Allocation}
use Rattle.xgem.specs.Reads.{Found, fields}
use Rattle.entries.specs.declared.Own.{Own}
use Rattle.entries.specs.declared.Verdict.{Verdict}
use Rattle.entries.specs.declared.Verdict.TheVariants.{ContinuingNothing}
use Rattle.entries.specs.declared.Standing.{Standing}
use Rattle.entries.specs.declared.Standing.TheVariants.{Apart, Head, More}
use Rattle.entries.specs.Standings.{standing, is_planned_lem}
use Rattle.entries.proofs.Facts.{ours_is, apart_unplanned}
use Rattle.series.specs.Limits.{entries_a_burst}
use Rattle.series.specs.declared.Around.{Around}
use Rattle.series.specs.Series.{Series, entry_at, entry_count, standings_from, run, series_at, series_of, outset, beyond, verdict_of, planned, planned_of}
use Rattle.series.proofs.Runs.{run_nil, run_head, run-apart}
use Rattle.bwmap.specs.Courses.{left}
use Rattle.bwmap.specs.Verdicts.{roles, verdicts_of, verdicts, entries_from, entries, called, readable, entries_of}

abbrev expected : Around → ℕ → Verdict → List Standing → List Allocation
expected around k v l = cond (is_planned_lem v) (left k l) [] ++ entries_of (planned around (series_of l))

pub left_nil : (k : ℕ) → left k [] ≡ []
left_nil zero = refl
left_nil (suc k) = run_nil (15 - k)

pub left-apart : (k : ℕ) (v : Verdict) (l : List Standing) → left k (Apart v ∷ l) ≡ []
left-apart zero v l = refl
left-apart (suc k) v l = run-apart (15 - k) v l

pub left_head : (k : ℕ) (a : Allocation) (l : List Standing) → left k (Head a ∷ l) ≡ []
left_head zero a l = refl
left_head (suc k) a l = run_head (15 - k) a l

none : (b : Bool) (l : List Allocation) → l ≡ [] → ◌≡◌ {A = List Allocation} (cond b l []) []
none true l h = h
none false l h = refl

module _ (own : Own) (m : List ℕ) where
  go
      : (i j : ℕ)
      → ((around : Around) (k : ℕ) (v : Verdict) → called (verdicts_of around v (roles k (standings_from own m (suc i) j))) (entries_from m (suc i) j) ≡ readable (expected around k v (standings_from own m (suc i) j)))
      → (around : Around) (k : ℕ) (v : Verdict) (x : Standing) → standing own (entry_at m i) ≡ x
      → called (verdicts_of around v (roles k (x ∷ standings_from own m (suc i) j))) (entry_at m i ∷ entries_from m (suc i) j) ≡ readable (expected around k v (x ∷ standings_from own m (suc i) j))
  go i j ih around k v (Apart z) h =
      rw (apart_unplanned own (entry_at m i) z h, none (is_planned_lem v) (left k (Apart z ∷ standings_from own m (suc i) j)) (left-apart k z (standings_from own m (suc i) j)))
      (ih around 0 v ∙ ap (λ (l : List Allocation). readable (l ++ entries_of (planned around (series_of (standings_from own m (suc i) j))))) (none (is_planned_lem v) [] refl))
  go i j ih around k v (Head a) h =
      rw (none (is_planned_lem v) (left k (Head a ∷ standings_from own m (suc i) j)) (left_head k a (standings_from own m (suc i) j)), (ours_is own (entry_at m i) a false h).read)
      (one (is_planned_lem (verdict_of around (series_at a (standings_from own m (suc i) j)))) refl)
    where
      s : Series
      s = series_at a (standings_from own m (suc i) j)

      one
          : (b : Bool) → is_planned_lem (verdict_of around (series_at a (standings_from own m (suc i) j))) ≡ b
          → cond b
          (fields a ∷ called (cond b (verdicts_of (beyond around (series_at a (standings_from own m (suc i) j))) (verdict_of around (series_at a (standings_from own m (suc i) j))) (roles 1 (standings_from own m (suc i) j))) (verdicts_of around (verdict_of around (series_at a (standings_from own m (suc i) j))) (roles 1 (standings_from own m (suc i) j)))) (entries_from m (suc i) j))
          (called (cond b (verdicts_of (beyond around (series_at a (standings_from own m (suc i) j))) (verdict_of around (series_at a (standings_from own m (suc i) j))) (roles 1 (standings_from own m (suc i) j))) (verdicts_of around (verdict_of around (series_at a (standings_from own m (suc i) j))) (roles 1 (standings_from own m (suc i) j)))) (entries_from m (suc i) j))
          ≡ readable (entries_of (cond b (series_at a (standings_from own m (suc i) j) ∷ planned (beyond around (series_at a (standings_from own m (suc i) j))) (series_of (standings_from own m (suc i) j))) (planned around (series_of (standings_from own m (suc i) j)))))
      one true p =
          ap (λ (l : List (Found Allocation)). fields a ∷ l)
          (ih (beyond around (series_at a (standings_from own m (suc i) j))) 1 (verdict_of around (series_at a (standings_from own m (suc i) j)))
          ∙ ap (λ (b : Bool). readable (cond b (run 15 (standings_from own m (suc i) j)) [] ++ entries_of (planned (beyond around (series_at a (standings_from own m (suc i) j))) (series_of (standings_from own m (suc i) j))))) p)
      one false p =
          ih around 1 (verdict_of around (series_at a (standings_from own m (suc i) j)))
          ∙ ap (λ (b : Bool). readable (cond b (run 15 (standings_from own m (suc i) j)) [] ++ entries_of (planned around (series_of (standings_from own m (suc i) j))))) p
  go i j ih around zero v (More a) h = ih around 0 v
  go i j ih around (suc k) v (More a) h = one (ltb (suc k) entries_a_burst) refl
    where
      one
          : (b : Bool) → ltb (suc k) entries_a_burst ≡ b
          → called (verdicts_of around v (roles (suc k) (More a ∷ standings_from own m (suc i) j))) (entry_at m i ∷ entries_from m (suc i) j) ≡ readable (expected around (suc k) v (More a ∷ standings_from own m (suc i) j))
      one true p =
          let d : 15 - k ≡ suc (15 - suc k) = omega (arith, ltb-true (suc k) entries_a_burst p) in
          rw (p, d) (two (is_planned_lem v) refl)
        where
          two
              : (b : Bool) → is_planned_lem v ≡ b
              → cond b (entry_at m i ∷ called (verdicts_of around v (roles (suc (suc k)) (standings_from own m (suc i) j))) (entries_from m (suc i) j)) (called (verdicts_of around v (roles (suc (suc k)) (standings_from own m (suc i) j))) (entries_from m (suc i) j))
              ≡ readable (cond b (a ∷ run (15 - suc k) (standings_from own m (suc i) j)) [] ++ entries_of (planned around (series_of (standings_from own m (suc i) j))))
          two true q =
              rw (ours_is own (entry_at m i) a true h).read
              (ap (λ (l : List (Found Allocation)). fields a ∷ l) (ih around (suc (suc k)) v ∙ ap (λ (b : Bool). readable (cond b (run (15 - suc k) (standings_from own m (suc i) j)) [] ++ entries_of (planned around (series_of (standings_from own m (suc i) j))))) q))
          two false q = ih around (suc (suc k)) v ∙ ap (λ (b : Bool). readable (cond b (run (15 - suc k) (standings_from own m (suc i) j)) [] ++ entries_of (planned around (series_of (standings_from own m (suc i) j))))) q
      one false p =
          let d : 15 - k ≡ 0 = omega (arith, ltb-false (suc k) entries_a_burst p) in
          rw (p, d) (ih around 0 v ∙ ap (λ (l : List Allocation). readable (l ++ entries_of (planned around (series_of (standings_from own m (suc i) j))))) (none (is_planned_lem v) [] refl ∙ sym (none (is_planned_lem v) [] refl)))

  called_from : (j i : ℕ) (around : Around) (k : ℕ) (v : Verdict) → called (verdicts_of around v (roles k (standings_from own m i j))) (entries_from m i j) ≡ readable (expected around k v (standings_from own m i j))
  called_from zero i around k v = sym (ap (λ (l : List Allocation). readable (l ++ [])) (none (is_planned_lem v) (left k []) (left_nil k)))
  called_from (suc j) i around k v = go i j (called_from j (suc i)) around k v (standing own (entry_at m i)) refl

  pub called-planned : (carried : ℕ) → called (verdicts own m carried) (entries m) ≡ readable (entries_of (planned_of own m carried))
  called-planned carried = called_from (entry_count m) 0 (outset carried) 0 ContinuingNothing
