-- What one series does to what is still to come.
-- Assumes nothing.
use Prim.Native.Nat.{ℕ, zero, suc, ◌+◌, ◌-◌, ◌*◌, ◌≤◌, ◌<◌, ◌^◌}
use mathlib.Core.Path.{◌≡◌, ◌∙◌, refl, sym, ap}
use mathlib.Core.List.{List, [], ◌∷◌, ◌++◌}
use mathlib.Core.Bool.{true, false}
use native.Mathlib.Omega.{arith}
use native.Mathlib.Nat.{add-zero, zero-add, sub-zero}
use lib.ListN.{length, drop}
use lib.Seq.{sets, sets-eq}
use Rattle.std.specs.Prelude.{Some}
use Rattle.xgtc.specs.declared.allocation.Allocation.{Allocation}
use Rattle.entries.specs.declared.Own.{Own}
use Rattle.entries.specs.declared.Standing.TheVariants.{Head}
use Rattle.entries.specs.Standings.{standing, is_planned_lem}
use Rattle.station.specs.States.{silent}
use Rattle.entries.proofs.Facts.{ours_is, head_start, silent-apart}
use Rattle.series.specs.Limits.{bursts_a_frame}
use Rattle.plan.specs.Limits.{plan_numbers}
use Rattle.series.specs.declared.Around.{Around}
use Rattle.series.specs.Series.{Series, entry_at, entry_count, standings_from, run, series_at, series_of, grants, words_of, end_of, outset, beyond, judged, verdict_of, planned, last_end, carried_over_lem, planned_of}
use Rattle.plan.specs.Records.{mark}
use Rattle.plan.specs.Plan.{series_numbers, numbers, entries_in, records, messages, written}
use Rattle.bwmap.specs.Plan.{PlanLeft, counted}
use Rattle.bwmap.specs.Turns.{rest, Run, tally, Finished, finished, to_come, starting, Small}
use Rattle.bwmap.specs.declared.Walk.{Walk}
use Rattle.series.proofs.Runs.{run_length, series-drop}
use Rattle.series.proofs.Judged.{planned_full}
use Rattle.plan.proofs.Lengths.{length-series, length-numbers}
use Rattle.bwmap.proofs.Laws.{rest_cons, rest_nil}

-- ---- lists

pub sets_append : (p : List ℕ) (i : ℕ) (xs ys : List ℕ) → sets p i (xs ++ ys) ≡ sets (sets p i xs) (i + length xs) ys
sets_append p i [] ys = rw (add-zero i)
sets_append p i (x ∷ xs) ys =
    let e : i + suc (length xs) ≡ suc i + length xs = omega arith in
    rw e (sets_append _ (suc i) xs ys)

-- ---- a run, and what stands behind it

module _ (own : Own) (m : List ℕ) where
  pub length-standings : (i j : ℕ) → length (standings_from own m i j) ≡ j
  length-standings i zero = refl
  length-standings i (suc j) = ap suc (length-standings (suc i) j)

  drop-standings : (n i j : ℕ) → drop n (standings_from own m i j) ≡ standings_from own m (i + n) (j - n)
  drop-standings zero i j = rw (add-zero i, sub-zero)
  drop-standings (suc n) i zero =
      let e : 0 - suc n ≡ 0 = omega arith in
      rw e
  drop-standings (suc n) i (suc j) =
      let a : i + suc n ≡ suc i + n = omega arith in
      let b : suc j - suc n ≡ j - n = omega arith in
      rw (a, b) (drop-standings n (suc i) j)

  skip : (i n : ℕ) → n ≡ length (run 15 (rest own m i)) → series_of (rest own m (i + n)) ≡ series_of (rest own m i)
  skip i n h =
      let e : entry_count m - i - n ≡ entry_count m - (i + n) = omega arith in
      let d : drop n (rest own m i) ≡ rest own m (i + n) = drop-standings n i (entry_count m - i) ∙ ap (standings_from own m (i + n)) e in
      ap series_of (sym d) ∙ ap (λ (k : ℕ). series_of (drop k (rest own m i))) h ∙ series-drop 15 (rest own m i)

-- ---- an finished, one burst at a time

finished_cons
    : (p q : List ℕ) (w w' : Walk) (s : Series) (l : List Series) → q ≡ sets p (4 * w.records) (series_numbers s)
    → w'.records ≡ w.records + entries_in s → w'.messages ≡ w.messages + mark s.head.ploamu 1 → w'.around ≡ beyond w.around s
    → finished q w' l ≡ finished p w (s ∷ l)
finished_cons p q w w' s l hq hr hm ha =
    let a = length-series s in
    let at : 4 * w'.records ≡ 4 * w.records + length (series_numbers s) = omega arith in
    let f : sets q (4 * w'.records) (numbers l) ≡ sets p (4 * w.records) (series_numbers s ++ numbers l) =
    rw (hq, at) (sym (sets_append p (4 * w.records) (series_numbers s) (numbers l)))
    in
    let b : w'.records + records l ≡ w.records + (entries_in s + records l) = omega arith in
    let hb : w'.around.bursts ≡ w.around.bursts + 1 = ap (λ (a : Around). a.bursts) ha in
    let d : w'.around.bursts + length l ≡ w.around.bursts + suc (length l) = omega (arith, hb) in
    let g : w'.messages + messages l ≡ w.messages + (mark s.head.ploamu 1 + messages l) = omega arith in
    let k : last_end w'.around.end l ≡ last_end (end_of s) l = ap (λ (a : Around). last_end a.end l) ha in
    λ i. record { plan = f i; records = b i; bursts = d i; messages = g i; end = k i }

-- ---- one series

module _
    (own : Own) (m : List ℕ) (at : ℕ) (h : Allocation) (lies : at < entry_count m) (heads : standing own (entry_at m at) ≡ Head h)
    (r : Run) (hr : r ≡ tally 0 0 (run 15 (rest own m (at + 1)))) where
  here : rest own m at ≡ Head h ∷ rest own m (at + 1)
  here = rw (rest_cons own m at lies, heads)

  pub count_is : r.count ≡ length (run 15 (rest own m (at + 1)))
  count_is = rw (hr, zero-add)

  grants_are : r.grants ≡ grants (run 15 (rest own m (at + 1)))
  grants_are = rw (hr, zero-add)

  pub run-within : at + 1 + r.count ≤ entry_count m
  run-within =
      let a = (run_length 15 (rest own m (at + 1))).0 in
      omega (arith, length-standings own m (at + 1) (entry_count m - (at + 1)), count_is)

  pub head_low : h.start < 2 ^ 16 → h.start ≤ 9719
  head_low wide =
      let o = ours_is own (entry_at m at) h false heads in
      head_start h wide o.fit o.kind

  behind : series_of (rest own m (at + 1 + r.count)) ≡ series_of (rest own m (at + 1))
  behind = skip own m (at + 1) r.count count_is

  pub judged_so : (around : Around) (start words : ℕ) → start ≡ h.start → words ≡ words_of h r.grants → judged around start words ≡ verdict_of around (series_at h (rest own m (at + 1)))
  judged_so around start words hs hw = cc (hs, hw, grants_are)

  -- a series that is passed over moves nothing
  pub pass-series
      : (around : Around) → is_planned_lem (verdict_of around (series_at h (rest own m (at + 1)))) ≡ false
      → planned around (series_of (rest own m (at + 1 + r.count))) ≡ planned around (series_of (rest own m at))
  pass-series around u = rw (here, behind, u)

  pub plan-series
      : (p q : List ℕ) (w : Walk) (start words x : ℕ) → start ≡ h.start → words ≡ words_of h r.grants
      → is_planned_lem (judged w.around start words) ≡ true → planned w.around (series_of (rest own m at)) ≡ planned w.around (series_of (rest own m w.at))
      → q ≡ sets p (4 * w.records) (series_numbers (series_at h (rest own m (at + 1)))) → x ≡ mark h.ploamu 1
      → to_come own m q (record { at = at + 1 + r.count; records = w.records + (r.count + 1); messages = w.messages + x; around = record { end = start + words; bursts = w.around.bursts + 1 } })
      ≡ to_come own m p w
  plan-series p q w start words x hs hw t next hq hx =
      let u : is_planned_lem (verdict_of w.around (series_at h (rest own m (at + 1)))) ≡ true = ap is_planned_lem (sym (judged_so w.around start words hs hw)) ∙ t in
      let e : start + words ≡ end_of (series_at h (rest own m (at + 1))) = cc (hs, hw, grants_are) in
      let d : ◌≡◌ {A = Around} (record { end = start + words; bursts = w.around.bursts + 1 }) (beyond w.around (series_at h (rest own m (at + 1)))) = (λ i. record { end = e i; bursts = w.around.bursts + 1 }) in
      let c : w.records + (r.count + 1) ≡ w.records + entries_in (series_at h (rest own m (at + 1))) = cc count_is in
      let g : w.messages + x ≡ w.messages + mark h.ploamu 1 = cc hx in
      rw (← next, here, behind, u)
      (ap (λ (z : Around). finished q (record { at = 0; records = w.records + (r.count + 1); messages = w.messages + x; around = record { end = start + words; bursts = w.around.bursts + 1 } }) (planned z (series_of (rest own m (at + 1))))) d
      ∙ finished_cons p q w (record { at = 0; records = w.records + (r.count + 1); messages = w.messages + x; around = record { end = start + words; bursts = w.around.bursts + 1 } }) (series_at h (rest own m (at + 1))) (planned (beyond w.around (series_at h (rest own m (at + 1)))) (series_of (rest own m (at + 1)))) hq c g d)

-- ---- the end of the walk

module _ (own : Own) (m p : List ℕ) (w : Walk) where
  pub walk_done : entry_count m ≤ w.at → finished p w [] ≡ to_come own m p w
  walk_done h = rw (rest_nil own m w.at h)

  pub walk_full : bursts_a_frame ≤ w.around.bursts → finished p w [] ≡ to_come own m p w
  walk_full h = rw (planned_full w.around (series_of (rest own m w.at)) h)

  pub move-past
      : planned w.around (series_of (rest own m w.at)) ≡ []
      → to_come own m p (record { at = entry_count m; records = w.records; messages = w.messages; around = w.around }) ≡ to_come own m p w
  move-past e = rw (e, rest_nil own m (entry_count m) (omega arith))

-- what the walk has written and counted is the plan
pub finish
    : (p q : List ℕ) (w : Walk) (c over : ℕ) (l : List Series) → Small w → plan_numbers ≤ length p → finished q w [] ≡ finished p (starting c) l → over ≡ carried_over_lem w.around.end
    → ◌≡◌ {A = PlanLeft}
    (record { answer = Some (record { records = w.records; bursts = w.around.bursts; messages = w.messages; end = w.around.end; carried = over }); plan = q })
    (record { answer = Some (counted c l); plan = written l p })
finish p q w c over l small room e ho =
    let hr : w.records ≡ records l = sym (add-zero w.records) ∙ ap (λ (o : Finished). o.records) e ∙ zero-add (records l) in
    let hb : w.around.bursts ≡ length l = sym (add-zero w.around.bursts) ∙ ap (λ (o : Finished). o.bursts) e ∙ zero-add (length l) in
    let hm : w.messages ≡ messages l = sym (add-zero w.messages) ∙ ap (λ (o : Finished). o.messages) e ∙ zero-add (messages l) in
    let he : w.around.end ≡ last_end c l = ap (λ (o : Finished). o.end) e in
    let hc : over ≡ carried_over_lem (last_end c l) = ho ∙ ap carried_over_lem he in
    let fits : 0 + length (numbers l) ≤ length p = omega (arith, length-numbers l, small.few, small.room) in
    let hq : q ≡ written l p = ap (λ (o : Finished). o.plan) e ∙ sets-eq (numbers l) p 0 fits ∙ ap (λ (k : ℕ). numbers l ++ drop k p) (zero-add (length (numbers l))) in
    λ i. record { answer = Some (record { records = hr i; bursts = hb i; messages = hm i; end = he i; carried = hc i }); plan = hq i }

pub from_start : (own : Own) (m p : List ℕ) (c : ℕ) → to_come own m p (starting c) ≡ finished p (starting c) (planned_of own m c)
from_start own m p c = rw sub-zero

-- ---- a state that sends nothing

silent_none : (own : Own) (m : List ℕ) (i j : ℕ) → silent own.activation ≡ true → series_of (standings_from own m i j) ≡ []
silent_none own m i zero h = refl
silent_none own m i (suc j) h = rw (silent-apart own (entry_at m i) h) (silent_none own m (suc i) j h)

pub silent-plan
    : (own : Own) (m p : List ℕ) (c end over : ℕ) → silent own.activation ≡ true → end ≡ c → over ≡ carried_over_lem end
    → ◌≡◌ {A = PlanLeft}
    (record { answer = Some (record { records = 0; bursts = 0; messages = 0; end = end; carried = over }); plan = p })
    (record { answer = Some (counted c (planned_of own m c)); plan = written (planned_of own m c) p })
silent-plan own m p c end over h e o =
    let n : planned_of own m c ≡ [] = ap (planned (outset c)) (silent_none own m 0 (entry_count m) h) in
    rw (n, o, e)
