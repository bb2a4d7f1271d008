-- The run behind a head is its whole series; it stops at the next head.
-- Assumes nothing.
use Prim.Native.Nat.{ℕ, zero, suc, ◌+◌, ◌<◌}
use mathlib.Core.Path.{◌≡◌, refl, ap}
use mathlib.Core.Bool.{Bool, true, false}
use mathlib.Core.List.{List, ◌∷◌}
use native.Mathlib.Omega.{arith}
use native.Mathlib.Numerals.{add-one}
use lib.Dec.{ltb}
use lib.ListN.{length}
use borrow.Author.Tests.{ltb-true, ltb-false}
use Rattle.xgtc.specs.declared.allocation.Allocation.{Allocation}
use Rattle.entries.specs.declared.Own.{Own}
use Rattle.entries.specs.declared.Standing.{Standing}
use Rattle.entries.specs.declared.Standing.TheVariants.{Apart, Head, More}
use Rattle.entries.specs.Standings.{standing}
use Rattle.entries.proofs.Facts.{ours_is}
use Rattle.series.specs.Limits.{more_a_burst}
use Rattle.series.specs.Series.{entry_at, entry_count, standings_from, run, series_at}
use Rattle.series.proofs.Runs.{run_nil, run_head, run_length}
use Rattle.bwmap.proofs.Kept.{follow}
use Rattle.reasons.specs.Facts.{OursAt, Belongs, SeriesAt}
use Rattle.reasons.proofs.Belonging.{head_alone, goes_on}
use Rattle.reasons.proofs.Standing.{mine-stands, ours_lies, apart_not_ours}

module _ (own : Own) (m : List ℕ) where
  pub stands_head : (i : ℕ) (a : Allocation) → standing own (entry_at m i) ≡ Head a → OursAt own m i false
  stands_head i a e = record { is = a; mine = ours_is own (entry_at m i) a false e }

  pub stands_more : (i : ℕ) (a : Allocation) → standing own (entry_at m i) ≡ More a → OursAt own m i true
  stands_more i a e = record { is = a; mine = ours_is own (entry_at m i) a true e }

  -- what stands behind the next head is of no run before it
  pub run-stops : (d n i k : ℕ) → d < n → OursAt own m (i + d) false → run k (standings_from own m i d) ≡ run k (standings_from own m i n)
  run-stops zero zero i k h x = absurd (omega arith)
  run-stops (suc d) zero i k h x = absurd (omega arith)
  run-stops zero (suc n) i k h x =
      let e : i + 0 ≡ i = omega arith in
      let y : OursAt own m i false = rw e at x in
      rw (run_nil k, mine-stands own (entry_at m i) y.is false y.mine, run_head k y.is (standings_from own m (suc i) n))
  run-stops (suc d) (suc n) i zero h x = refl
  run-stops (suc d) (suc n) i (suc k) h x =
      let e : i + suc d ≡ suc i + d = omega arith in
      go (standing own (entry_at m i)) (run-stops d n (suc i) k (omega arith) (rw e at x))
    where
      go : (x : Standing) → run k (standings_from own m (suc i) d) ≡ run k (standings_from own m (suc i) n) → run (suc k) (x ∷ standings_from own m (suc i) d) ≡ run (suc k) (x ∷ standings_from own m (suc i) n)
      go (Apart v) ih = refl
      go (Head a) ih = refl
      go (More a) ih = ap (λ (l : List Allocation). a ∷ l) ih

  -- a run that could be longer is at its end
  run_ends : (k i n : ℕ) → i + n ≡ entry_count m → length (run k (standings_from own m i n)) < k → OursAt own m (i + length (run k (standings_from own m i n))) true → ⊥
  run_ends zero i n e h x = omega arith
  run_ends (suc k) i zero e h x = omega (arith, ours_lies own m (i + 0) true x)
  run_ends (suc k) i (suc n) e h x = go (standing own (entry_at m i)) refl h x (run_ends k (suc i) n (omega arith))
    where
      at : OursAt own m (i + 0) true → OursAt own m i true
      at x =
          let e : i + 0 ≡ i = omega arith in
          rw e at x

      go
          : (y : Standing) → standing own (entry_at m i) ≡ y → length (run (suc k) (y ∷ standings_from own m (suc i) n)) < suc k → OursAt own m (i + length (run (suc k) (y ∷ standings_from own m (suc i) n))) true
          → (length (run k (standings_from own m (suc i) n)) < k → OursAt own m (suc i + length (run k (standings_from own m (suc i) n))) true → ⊥) → ⊥
      go (Apart v) p h x ih = apart_not_ours own m i v true p (at x)
      go (Head a) p h x ih = head_alone own m i (stands_head i a p) (goes_on own m i (at x))
      go (More a) p h x ih =
          let e : i + suc (length (run k (standings_from own m (suc i) n))) ≡ suc i + length (run k (standings_from own m (suc i) n)) = omega arith in
          ih (omega arith) (rw e at x)

  pub series_whole : (i n : ℕ) (a : Allocation) → suc i + n ≡ entry_count m → standing own (entry_at m i) ≡ Head a → SeriesAt own m i (series_at a (standings_from own m (suc i) n))
  series_whole i n a e p =
      let few = (run_length more_a_burst (standings_from own m (suc i) n)).1 in
      record {
        head = ours_is own (entry_at m i) a false p;
        more = rw (add-one i) (follow own m more_a_burst (suc i) n (omega arith));
        few = omega arith;
        whole = λ b. go b (ltb (length (run more_a_burst (standings_from own m (suc i) n))) more_a_burst) refl;
      }
    where
      go : Belongs own m i (i + length (run more_a_burst (standings_from own m (suc i) n)) + 1) → (b : Bool) → ltb (length (run more_a_burst (standings_from own m (suc i) n))) more_a_burst ≡ b → ⊥
      go x true q =
          let z : i + length (run more_a_burst (standings_from own m (suc i) n)) + 1 ≡ suc i + length (run more_a_burst (standings_from own m (suc i) n)) = omega arith in
          run_ends more_a_burst (suc i) n e (ltb-true _ _ q) (rw z at (x.more (i + length (run more_a_burst (standings_from own m (suc i) n)) + 1) (omega arith) (omega arith)))
      go x false q = omega (arith, x.few, ltb-false (length (run more_a_burst (standings_from own m (suc i) n))) more_a_burst q)
