-- What the loops over the entries need, a turn at a time.
-- Assumes nothing.
use Prim.Native.Nat.{ℕ, suc, ◌+◌, ◌-◌, ◌*◌, ◌≤◌, ◌<◌}
use mathlib.Core.Path.{◌≡◌, ◌∙◌, sym}
use mathlib.Core.List.{List, [], ◌∷◌}
use native.Mathlib.Omega.{arith}
use native.Mathlib.Numerals.{add-one, add-four}
use native.Mathlib.Nat.{add-zero}
use lib.ListN.{length, take, drop}
use lib.Seq.{sets}
use borrow.Rule.Slice.PartMut.{put_mid}
use Rattle.xgtc.specs.declared.allocation.Allocation.{Allocation}
use Rattle.entries.specs.declared.Own.{Own}
use Rattle.entries.specs.declared.Verdict.{Verdict}
use Rattle.entries.specs.declared.Standing.{Standing}
use Rattle.entries.specs.declared.Standing.TheVariants.{Apart, Head, More}
use Rattle.entries.specs.Standings.{standing}
use Rattle.series.specs.Series.{entry_at, entry_count, run, series_of, grants}
use Rattle.plan.specs.Records.{head_flags_lem, more_flags_lem, plan_record, placed}
use Rattle.plan.proofs.Placed.{placed-part}
use Rattle.plan.specs.Plan.{more_numbers, series_numbers}
use Rattle.bwmap.specs.Turns.{rest, tally, allocation_at_lem, allocations_from}
use Rattle.series.proofs.Runs.{run_nil, run_head, run-apart}

-- ---- the entries that are left

module _ (own : Own) (m : List ℕ) (i : ℕ) where
  pub rest_cons : i < entry_count m → rest own m i ≡ standing own (entry_at m i) ∷ rest own m (i + 1)
  rest_cons h =
      let e : entry_count m - i ≡ suc (entry_count m - (i + 1)) = omega arith in
      rw (e, add-one i)

  pub rest_nil : entry_count m ≤ i → rest own m i ≡ []
  rest_nil h =
      let e : entry_count m - i ≡ 0 = omega arith in
      rw e

  module _ (x : Standing) (h : i < entry_count m) (p : x ≡ standing own (entry_at m i)) where
    -- an entry that is no head begins no series
    pub pass-apart : (v : Verdict) → x ≡ Apart v → series_of (rest own m (i + 1)) ≡ series_of (rest own m i)
    pass-apart v q = rw (rest_cons h, ← p, q)

    pub pass-more : (a : Allocation) → x ≡ More a → series_of (rest own m (i + 1)) ≡ series_of (rest own m i)
    pass-more a q = rw (rest_cons h, ← p, q)

-- ---- a run

tally_nil : (k g : ℕ) → tally k g [] ≡ record { count = k; grants = g }
tally_nil k g = rw (add-zero k, add-zero g)

tally_cons : (k g : ℕ) (a : Allocation) (l : List Allocation) → tally k g (a ∷ l) ≡ tally (k + 1) (g + a.grant) l
tally_cons k g a l =
    let p : k + suc (length l) ≡ k + 1 + length l = omega arith in
    let q : g + (a.grant + grants l) ≡ g + a.grant + grants l = omega arith in
    cc

module _ (own : Own) (m : List ℕ) (i k : ℕ) where
  -- where a run stops
  pub stop_end : entry_count m ≤ i → run (15 - k) (rest own m i) ≡ []
  stop_end h = rw (rest_nil own m i h, run_nil)

  pub stop_full : 15 ≤ k → run (15 - k) (rest own m i) ≡ []
  stop_full h =
      let e : 15 - k ≡ 0 = omega arith in
      rw e

  module _ (x : Standing) (h : i < entry_count m) (p : x ≡ standing own (entry_at m i)) where
    pub stop-head : (a : Allocation) → x ≡ Head a → run (15 - k) (rest own m i) ≡ []
    stop-head a q = rw (rest_cons own m i h, ← p, q, run_head)

    pub stop-apart : (v : Verdict) → x ≡ Apart v → run (15 - k) (rest own m i) ≡ []
    stop-apart v q = rw (rest_cons own m i h, ← p, q, run-apart)

    -- and where it goes on
    pub go_on : (a : Allocation) (j : ℕ) → x ≡ More a → k < 15 → j ≡ i + 1 → run (15 - k) (rest own m i) ≡ a ∷ run (15 - (k + 1)) (rest own m j)
    go_on a j q l hj =
        let d : 15 - k ≡ suc (15 - (k + 1)) = omega arith in
        rw (rest_cons own m i h, ← p, q, d, hj)

-- the count of a run, one more
pub tally-step
    : (k g r : ℕ) (a : Allocation) (l l' : List Allocation) → l ≡ a ∷ l' → r ≡ a.grant → tally (k + 1) (g + r) l' ≡ tally k g l
tally-step k g r a l l' e h = rw (e, h) (sym (tally_cons k g a l'))

pub tally-done : (k g : ℕ) (l : List Allocation) → l ≡ [] → record { count = k; grants = g } ≡ tally k g l
tally-done k g l e = rw (e, tally_nil)

-- ---- the records of a run

pub written_one : (m : List ℕ) (i j k n : ℕ) → k < n → j ≡ i + 1 → allocations_from m i (n - k) ≡ allocation_at_lem m i ∷ allocations_from m j (n - (k + 1))
written_one m i j k n h hj =
    let e : n - k ≡ suc (n - (k + 1)) = omega arith in
    rw (e, hj, add-one i)

pub written_all : (m : List ℕ) (i k n : ℕ) → n ≤ k → allocations_from m i (n - k) ≡ []
written_all m i k n h =
    let e : n - k ≡ 0 = omega arith in
    rw e

pub write_step
    : (at k : ℕ) (h a b : Allocation) (f : ℕ) (p p' : List ℕ) (l l' : List Allocation) → l ≡ b ∷ l' → a ≡ b → f ≡ more_flags_lem h a
    → p' ≡ sets p (at + 4 * k) (plan_record a f h.start)
    → sets p' (at + 4 * (k + 1)) (more_numbers h l') ≡ sets p (at + 4 * k) (more_numbers h l)
write_step at k h a b f p p' l l' e ha hf hp =
    let d : at + 4 * (k + 1) ≡ suc (suc (suc (suc (at + 4 * k)))) = omega arith in
    rw (hp, d, e, hf, ha)

pub write_done : (p : List ℕ) (at : ℕ) (h : Allocation) (l : List Allocation) → l ≡ [] → p ≡ sets p at (more_numbers h l)
write_done p at h l e = rw e

-- a head's record, and behind it those of the entries that continue its burst
pub write_head
    : (p q r : List ℕ) (at k f : ℕ) (h : Allocation) (l : List Allocation) → at + 4 ≤ length p → k ≡ 4 → f ≡ head_flags_lem h
    → q ≡ put_mid at k p (placed (take k (drop at p)) 0 h f h.start) → r ≡ sets q (at + 4) (more_numbers h l)
    → r ≡ sets p at (series_numbers (record { head = h; more = l }))
unfolding series_numbers
write_head p q r at k f h l room four hf hq hr = hr ∙ rw (hq ∙ placed-part p at k h f h.start room four, hf, add-four)
