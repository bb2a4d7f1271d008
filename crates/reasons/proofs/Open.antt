-- What is known of the walk over a map before its i-th entry, and how that goes one entry on.
-- Assumes nothing.
use Prim.Native.Nat.{ℕ, zero, suc, ◌+◌, ◌-◌, ◌≤◌, ◌<◌}
use mathlib.Core.Path.{◌≡◌, ◌∙◌, sym, ap}
use mathlib.Core.Bool.{false, cond}
use mathlib.Core.List.{List, ◌∷◌}
use native.Mathlib.Omega.{arith}
use Rattle.xgtc.specs.declared.allocation.Allocation.{Allocation}
use Rattle.entries.specs.declared.Own.{Own}
use Rattle.entries.specs.declared.Verdict.{Verdict}
use Rattle.entries.specs.declared.Standing.{Standing}
use Rattle.entries.specs.declared.Standing.TheVariants.{Head}
use Rattle.entries.specs.Standings.{standing, is_planned_lem}
use Rattle.series.specs.Limits.{entries_a_burst, more_a_burst}
use Rattle.series.specs.declared.Around.{Around}
use Rattle.series.specs.Series.{Series, entry_at, entry_count, standings_from, series_at, series_of, outset, beyond, verdict_of}
use Rattle.bwmap.proofs.Kept.{first-reason}
use Rattle.reasons.specs.Facts.{OursAt, Belongs, SeriesAt, NothingBefore}
use Rattle.reasons.specs.Names.{TrueName}
use Rattle.reasons.proofs.Belonging.{head_belongs}
use Rattle.reasons.proofs.Standing.{ours_lies}
use Rattle.reasons.proofs.Before.{after, after_none, after_one, after_front, around_at}
use Rattle.reasons.proofs.Runs.{stands_head, run-stops, series_whole}
use Rattle.reasons.proofs.Among.{named-series}

module _ (own : Own) (m : List ℕ) (carried : ℕ) where
  -- around every head that is still to come stands what is planned before it
  abbrev pub Ahead : ℕ → Around → Type 0
  Ahead i around = (d : ℕ) → OursAt own m (i + d) false → after around (series_of (standings_from own m i d)) ≡ around_at own m carried (i + d)

  -- the series that the entry before the i-th is of has k so far and the verdict v; with 0 it is of none
  pub record Within (i k : ℕ) (v : Verdict) : Type 0 where
    pub head : ℕ
    pub place : i ≡ head + k
    pub few : k ≤ entries_a_burst
    pub last : Belongs own m head (i - 1)
    pub series : Series
    pub at : SeriesAt own m head series
    pub verdict : v ≡ verdict_of (around_at own m carried head) series

  abbrev pub Open : ℕ → ℕ → Verdict → Type 0
  Open i zero v = NothingBefore own m i
  Open i (suc k) v = Within i (suc k) v

  -- ---- one entry on

  -- one that is no head changes nothing of what is around
  pub ahead_past : (i : ℕ) (around : Around) → Ahead i around
      → ((d : ℕ) → series_of (standings_from own m i (suc d)) ≡ series_of (standings_from own m (suc i) d)) → Ahead (suc i) around
  ahead_past i around a same d x =
      let e : suc i + d ≡ i + suc d = omega arith in
      rw e (ap (after around) (sym (same d)) ∙ a (suc d) (rw e at x))

  pub ahead_head : (i n : ℕ) (around : Around) (a : Allocation) → suc i + n ≡ entry_count m → Ahead i around → standing own (entry_at m i) ≡ Head a
      → let s = series_at a (standings_from own m (suc i) n) in Ahead (suc i) (cond (is_planned_lem (verdict_of around s)) (beyond around s) around)
  ahead_head i n around a lies ahead p d x =
      let e : suc i + d ≡ i + suc d = omega arith in
      let y : OursAt own m (i + suc d) false = rw e at x in
      let old = ahead (suc d) y in
      let stops = run-stops own m d n (suc i) more_a_burst (omega (arith, ours_lies own m (suc i + d) false x)) x in
      let first : standings_from own m i (suc d) ≡ Head a ∷ standings_from own m (suc i) d = ap (λ (z : Standing). z ∷ standings_from own m (suc i) d) p in
      let t : Series = series_at a (standings_from own m (suc i) n) in
      let same : series_of (standings_from own m i (suc d)) ≡ t ∷ series_of (standings_from own m (suc i) d) = ap series_of first ∙ ap (λ (l : List Allocation). record { head = a; more = l } ∷ series_of (standings_from own m (suc i) d)) stops in
      rw e (sym (after_one around t (series_of (standings_from own m (suc i) d))) ∙ ap (after around) (sym same) ∙ old)

  -- where the i-th entry is of no series, there is nothing to continue
  pub shut : (i : ℕ) → ((h : ℕ) → Belongs own m h i → ⊥) → NothingBefore own m (suc i)
  shut i none h l b =
      let e : suc i - 1 ≡ i = omega arith in
      none h (rw e at b)

  around_head : (i : ℕ) (around : Around) → Ahead i around → OursAt own m i false → around ≡ around_at own m carried i
  around_head i around ahead x =
      let e : i + 0 ≡ i = omega arith in
      sym (after_none around) ∙ ahead 0 (rw e x) ∙ ap (around_at own m carried) e

  pub begun : (i n : ℕ) (around : Around) (a : Allocation) → suc i + n ≡ entry_count m → Ahead i around → standing own (entry_at m i) ≡ Head a
      → Within (suc i) 1 (verdict_of around (series_at a (standings_from own m (suc i) n)))
  begun i n around a lies ahead p =
      let e : suc i - 1 ≡ i = omega arith in
      let x = stands_head own m i a p in
      record {
        head = i;
        place = omega arith;
        few = omega arith;
        last = rw e (head_belongs own m i x);
        series = series_at a (standings_from own m (suc i) n);
        at = series_whole own m i n a lies p;
        verdict = ap (λ (z : Around). verdict_of z (series_at a (standings_from own m (suc i) n))) (around_head i around ahead x);
      }

  pub gone_on : (i k : ℕ) (v : Verdict) → suc k < entries_a_burst → (w : Within i (suc k) v) → Belongs own m w.head i → Within (suc i) (suc (suc k)) v
  gone_on i k v l w b =
      let e : suc i - 1 ≡ i = omega arith in
      let place = w.place in
      record { head = w.head; place = omega arith; few = omega arith; last = rw e b; series = w.series; at = w.at; verdict = w.verdict }

  -- an entry of a series has the series' name
  pub named_last : (i k : ℕ) (v : Verdict) → Within (suc i) k v → TrueName own m carried i v
  named_last i k v w =
      let e : suc i - 1 ≡ i = omega arith in
      rw w.verdict
      (named-series own m carried i w.head w.series w.at (rw e at w.last) (verdict_of (around_at own m carried w.head) w.series) (first-reason (around_at own m carried w.head) w.series))

  -- before the first entry nothing is planned, and none is open
  pub ahead-first : Ahead 0 (outset carried)
  ahead-first d x =
      let e : 0 + d ≡ d = omega arith in
      rw e (after_front own m carried d (omega (arith, ours_lies own m (0 + d) false x)))

  pub none_first : NothingBefore own m 0
  none_first h l b = omega arith
