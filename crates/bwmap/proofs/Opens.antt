-- The series that is open, as the entries of a map are read one after another.
-- Assumes nothing.
use Prim.Native.Nat.{ℕ, zero, suc, ◌+◌, ◌-◌, ◌*◌, ◌≤◌, ◌<◌, ◌^◌}
use mathlib.Core.Path.{◌≡◌, ◌∙◌, refl, sym, ap, ap₂}
use mathlib.Core.List.{List, [], ◌∷◌}
use mathlib.Core.Bool.{Bool, true, false}
use native.Mathlib.Omega.{arith}
use lib.ListN.{length}
use lib.Seq.{sets}
use Rattle.std.specs.Int.{from_bool}
use Rattle.xgtc.specs.declared.allocation.Allocation.{Allocation}
use Rattle.entries.specs.declared.Own.{Own}
use Rattle.entries.specs.declared.Verdict.{Verdict}
use Rattle.entries.specs.declared.Standing.{Standing}
use Rattle.entries.specs.declared.Standing.TheVariants.{Apart, Head, More}
use Rattle.entries.specs.Standings.{standing, is_planned_lem}
use Rattle.entries.proofs.Facts.{ours_is}
use Rattle.series.specs.declared.Around.{Around}
use Rattle.series.specs.Series.{Series, entry_at, entry_count, standings_from, run, series_at, series_of, judged, planned}
use Rattle.plan.specs.Records.{mark}
use Rattle.plan.specs.Plan.{series_numbers}
use Rattle.series.specs.Opens.{closed, opened, joined, goes_on_lem, fits}
use Rattle.bwmap.specs.Turns.{rest, Run, tally, Running, Stage, between, within, Reached, fields_of, allocation_at_lem, allocations_from, to_come}
use Rattle.series.specs.declared.Open.{Open}
use Rattle.bwmap.specs.declared.Walk.{Walk}
use Rattle.series.proofs.Judged.{planned_facts}
use Rattle.series.proofs.Opens.{goes_on_facts, full_or_none, fits_facts, unfit, more_words}
use Rattle.bwmap.proofs.Laws.{rest_nil, pass-apart, pass-more, stop_end, stop_full, stop-head, stop-apart, go_on, tally-step, tally-done}
use Rattle.bwmap.proofs.Steps.{head_low, count_is, judged_so, pass-series, plan-series}

-- a mark of 1
pub marked : (b : Bool) (x : ℕ) → x ≡ from_bool b → (x ≡ mark b 1) × (x ≤ 1)
marked true x e = (e, omega (arith, e))
marked false x e = (e, omega (arith, e))

-- ---- one entry further

-- an entry that goes no series on
abbrev Stops : Own → List ℕ → ℕ → Open → Type 0
Stops own m i s = (k : ℕ) → s.entries ≡ k + 1 → run (15 - k) (rest own m i) ≡ []

module _ (own : Own) (m : List ℕ) (around : Around) (from i : ℕ) (s : Open) where
  module _ (r : Running own m from i s) (stops : run (15 - r.more) (rest own m i) ≡ []) where
    abbrev counted : Run
    counted = record { count = r.more; grants = r.grants }

    counted-so : counted ≡ tally 0 0 (run 15 (rest own m (r.at + 1)))
    counted-so = tally-done r.more r.grants _ stops ∙ r.so_far

  shut
      : Stage own m around from i s → Stops own m i s → fits around s ≡ false
      → planned around (series_of (rest own m i)) ≡ planned around (series_of (rest own m from))
  shut (between o p) stops f = p
  shut (within r p) stops f =
      let d = stops r.more (ap (λ (x : Open). x.entries) r.is) in
      let so = counted-so r d in
      let u : is_planned_lem (judged around s.start s.words) ≡ false = unfit around s (omega (arith, ap (λ (x : Open). x.entries) r.is)) f in
      let v = judged_so own m r.at r.head r.lies r.stands (counted r d) so around s.start s.words (ap (λ (x : Open). x.start) r.is) (ap (λ (x : Open). x.words) r.is) in
      ap (λ (j : ℕ). planned around (series_of (rest own m j))) r.here
      ∙ pass-series own m r.at r.head r.lies r.stands (counted r d) so around (ap is_planned_lem (sym v) ∙ u)
      ∙ p

  -- at the end of the map, or before an entry that does not go it on, a series that fits is the next one planned
  pub reached
      : Stage own m around from i s → Stops own m i s → fits around s ≡ true → s.start < 65536 → i ≤ entry_count m → Reached own m around from i s
  reached (between o p) stops f low ends =
      let z : s.entries ≡ 0 = ap (λ (x : Open). x.entries) o in
      let w : ⊥ = omega (arith, (fits_facts around s f).0) in
      absurd w
  reached (within r p) stops f low ends =
      record { low = low; ends = ends; running = r; stops = stops r.more (ap (λ (x : Open). x.entries) r.is); fit = (fits_facts around s f).1; next = p }

  pub none_left
      : Stage own m around from i s → entry_count m ≤ i → fits around s ≡ false → planned around (series_of (rest own m from)) ≡ []
  none_left g h f =
      sym (shut g (λ k q. stop_end own m i k h) f) ∙ ap (λ (l : List Standing). planned around (series_of l)) (rest_nil own m i h)

  pub ended : entry_count m ≤ i → Stops own m i s
  ended h k q = stop_end own m i k h

  module _ (x : Standing) (h : i < entry_count m) (p : x ≡ standing own (entry_at m i)) where
    pub head-stops : (a : Allocation) → x ≡ Head a → Stops own m i s
    head-stops a q k o = stop-head own m i k x h p a q

    pub apart-stops : (v : Verdict) → x ≡ Apart v → Stops own m i s
    apart-stops v q k o = stop-apart own m i k x h p v q

    pub more-stops : goes_on_lem s ≡ false → Stops own m i s
    more-stops f k o = stop_full own m i k (full_or_none s k f o)

    pub Open-next
        : (a : Allocation) (s' : Open) → x ≡ Head a → s' ≡ opened a → from ≤ i → Stage own m around from i s → fits around s ≡ false → Stage own m around from (i + 1) s'
    Open-next a s' q is after g f =
        within (record { at = i; head = a; more = 0; grants = 0; after = after; lies = h; stands = sym p ∙ q; here = omega arith; few = omega arith; is = is; so_far = refl })
        (shut g (head-stops a q) f)

    pub pass-stray
        : (a : Allocation) (s' : Open) → x ≡ More a → s' ≡ closed → goes_on_lem s ≡ false → Stage own m around from i s → fits around s ≡ false → Stage own m around from (i + 1) s'
    pass-stray a s' q is o g f = between is (ap (planned around) (pass-more own m i x h p a q) ∙ shut g (more-stops o) f)

    pub pass-by : (v : Verdict) (s' : Open) → x ≡ Apart v → s' ≡ closed → Stage own m around from i s → fits around s ≡ false → Stage own m around from (i + 1) s'
    pass-by v s' q is g f = between is (ap (planned around) (pass-apart own m i x h p v q) ∙ shut g (apart-stops v q) f)

    pub go-further : (a : Allocation) (s' : Open) → x ≡ More a → s' ≡ joined s a → goes_on_lem s ≡ true → Stage own m around from i s → Stage own m around from (i + 1) s'
    go-further a s' q is o (between z p') =
        let y : s.entries ≡ 0 = ap (λ (x : Open). x.entries) z in
        let w : ⊥ = omega (arith, (goes_on_facts s o).0) in
        absurd w
    go-further a s' q is o (within r p') =
        let y : s.entries ≡ r.more + 1 = ap (λ (x : Open). x.entries) r.is in
        let t : r.more < 15 = omega (arith, (goes_on_facts s o).1) in
        within
        (record {
          at = r.at;
          head = r.head;
          more = r.more + 1;
          grants = r.grants + a.grant;
          after = r.after;
          lies = r.lies;
          stands = r.stands;
          here = omega (arith, r.here);
          few = omega arith;
          is =
              is ∙ ap (λ (z : Open). joined z a) r.is
              ∙ ap (λ (z : ℕ). record { entries = r.more + 1 + 1; start = r.head.start; words = z }) (more_words r.head r.grants a.grant);
          so_far =
              tally-step r.more r.grants a.grant a _ _ (go_on own m i r.more x h p a (i + 1) q t refl) refl
              ∙ r.so_far;
        })
        p'

-- ---- a series that is planned

module _ (own : Own) (m : List ℕ) where
  allocation_is : (i : ℕ) (a : Allocation) → standing own (entry_at m i) ≡ More a → allocation_at_lem m i ≡ a
  unfolding allocation_at_lem
  allocation_is i a q = ap fields_of (ours_is own (entry_at m i) a true q).read

  head_is : (i : ℕ) (a : Allocation) → standing own (entry_at m i) ≡ Head a → allocation_at_lem m i ≡ a
  unfolding allocation_at_lem
  head_is i a q = ap fields_of (ours_is own (entry_at m i) a false q).read

  -- what continues a head reads as it stands
  allocations_are : (k i c : ℕ) → allocations_from m i (length (run k (standings_from own m i c))) ≡ run k (standings_from own m i c)
  allocations_are zero i c = refl
  allocations_are (suc k) i zero = refl
  allocations_are (suc k) i (suc c) = go (standing own (entry_at m i)) refl (allocations_are k (suc i) c)
    where
      go : (x : Standing) → standing own (entry_at m i) ≡ x
          → allocations_from m (suc i) (length (run k (standings_from own m (suc i) c))) ≡ run k (standings_from own m (suc i) c)
          → allocations_from m i (length (run (suc k) (x ∷ standings_from own m (suc i) c))) ≡ run (suc k) (x ∷ standings_from own m (suc i) c)
      go (Apart v) q ih = refl
      go (Head a) q ih = refl
      go (More a) q ih = ap₂ ◌∷◌ (allocation_is i a q) ih

module _ (own : Own) (m p : List ℕ) (w : Walk) (i : ℕ) (s : Open) (d : Reached own m w.around w.at i s) where
  abbrev r : Running own m w.at i s
  r = d.running

  abbrev read : Run
  read = counted own m w.around w.at i s r d.stops

  read_so : read ≡ tally 0 0 (run 15 (rest own m (r.at + 1)))
  read_so = counted-so own m w.around w.at i s r d.stops

  entries_are : s.entries ≡ r.more + 1
  entries_are = ap (λ (x : Open). x.entries) r.is

  place_is : i - s.entries ≡ r.at
  place_is = omega (arith, entries_are, r.here)

  more_are : s.entries - 1 ≡ r.more
  more_are = omega (arith, entries_are)

  starts : s.start ≡ r.head.start
  starts = ap (λ (x : Open). x.start) r.is

  -- its numbers, and those of the walk
  pub sizes
      : (1 ≤ s.entries) × (s.entries ≤ 16) × (s.entries ≤ i) × (w.at < i) × (i ≤ entry_count m) × (s.start ≤ 9719) × (s.words ≤ 9720) × (w.around.bursts < 4)
  sizes =
      let wide : r.head.start < 2 ^ 16 = omega (arith, starts, d.low) in
      let low = head_low own m r.at r.head r.lies r.stands read read_so wide in
      let f = planned_facts w.around s.start s.words d.fit in
      (omega (arith, entries_are), omega (arith, entries_are, r.few), omega (arith, entries_are, r.here), omega (arith, r.after, r.here), d.ends, omega (arith, starts, low), f.0, f.2)

  module _ (h : Allocation) (hh : h ≡ allocation_at_lem m (i - s.entries)) where
    head-so : h ≡ r.head
    head-so = hh ∙ ap (allocation_at_lem m) place_is ∙ head_is own m r.at r.head r.stands

    more-so : allocations_from m (i - s.entries + 1) (s.entries - 1) ≡ run 15 (rest own m (r.at + 1))
    more-so =
        ap₂ (λ (j k : ℕ). allocations_from m (j + 1) k) place_is (more_are ∙ count_is own m r.at r.head r.lies r.stands read read_so)
        ∙ allocations_are own m 15 (r.at + 1) (entry_count m - (r.at + 1))

    series-so : ◌≡◌ {A = Series} (record { head = h; more = allocations_from m (i - s.entries + 1) (s.entries - 1) }) (series_at r.head (rest own m (r.at + 1)))
    series-so = λ j. record { head = head-so j; more = more-so j }

    pub plan-next
        : (q : List ℕ) (x : ℕ) → q ≡ sets p (4 * w.records) (series_numbers (record { head = h; more = allocations_from m (i - s.entries + 1) (s.entries - 1) }))
        → x ≡ mark h.ploamu 1
        → to_come own m q (record { at = i; records = w.records + (s.entries - 1 + 1); messages = w.messages + x; around = record { end = s.start + s.words; bursts = w.around.bursts + 1 } })
        ≡ to_come own m p w
    plan-next q x hq hx =
        ap₂ (λ (j k : ℕ). to_come own m q (record { at = j; records = w.records + (k + 1); messages = w.messages + x; around = record { end = s.start + s.words; bursts = w.around.bursts + 1 } })) r.here more_are
        ∙ plan-series own m r.at r.head r.lies r.stands read read_so p q w s.start s.words x starts (ap (λ (z : Open). z.words) r.is) d.fit d.next
        (hq ∙ ap (λ (z : Series). sets p (4 * w.records) (series_numbers z)) series-so)
        (hx ∙ ap (λ (a : Allocation). mark a.ploamu 1) head-so)
