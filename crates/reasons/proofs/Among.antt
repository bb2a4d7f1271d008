-- The true name of a structure of ours, by the series around it.
-- Assumes nothing.
use Prim.Native.Nat.{ℕ, ◌+◌, ◌-◌, ◌≤◌}
use mathlib.Core.Path.{◌≡◌, refl}
use mathlib.Core.Logic.{inl, inr}
use mathlib.Core.Bool.{Bool, true, false}
use mathlib.Core.List.{List, [], ◌∷◌}
use native.Mathlib.Omega.{arith}
use Rattle.station.specs.States.{silent}
use Rattle.entries.specs.declared.Own.{Own}
use Rattle.entries.specs.declared.Verdict.{Verdict}
use Rattle.entries.specs.declared.Verdict.TheVariants.{Planned, Unreadable, StartTimeUnfit, DbruWithoutRoom, Foreign, ContinuingNothing, Seventeenth, TooLong, Overlapping, AfterTheLast, Silent}
use Rattle.entries.specs.Standings.{start_unfit_lem, no_room_lem, ours}
use Rattle.series.specs.Limits.{words_a_burst, entries_a_burst}
use Rattle.series.specs.Series.{Series, entry_at, burst_words, last_end}
use Rattle.bwmap.specs.Promises.{Because}
use Rattle.reasons.specs.Facts.{OursAt, Belongs, SeriesAt, NothingBefore, Long, Overlaps, planned_before, OfSeries, Fact, First}
use Rattle.reasons.specs.Names.{TrueName}
use Rattle.reasons.proofs.Belonging.{goes_on, belongs-ours, one_head, continues_on}
use Rattle.reasons.proofs.Whole.{of_one}
use Rattle.reasons.proofs.Before.{around_at}
use Rattle.reasons.proofs.Alone.{not_both, reads_is, readable_is}

module _ (own : Own) (m : List ℕ) (carried i : ℕ) where
  -- one of ours is named by its series
  among-ours
      : (more : Bool) → OursAt own m i more → (v : Verdict) → (Fact own m carried i Planned → ⊥)
      → First (Fact own m carried i) (ContinuingNothing ∷ Seventeenth ∷ TooLong ∷ Overlapping ∷ AfterTheLast ∷ []) v → TrueName own m carried i v
  among-ours more x v unplanned f =
      let mine = x.mine in
      inr (
        not_both (silent own.activation) mine.sends,
        inr (
          unplanned,
          inr (
            readable_is (entry_at m i) x.is mine.read,
            inr (
              (λ r. not_both (start_unfit_lem x.is) mine.fit (reads_is m i x.is (λ a. start_unfit_lem a ≡ true) mine.read r)),
              inr (
                (λ r. not_both (no_room_lem x.is) mine.room (reads_is m i x.is (λ a. no_room_lem a ≡ true) mine.read r)),
                inr ((λ r. not_both (ours own x.is) (reads_is m i x.is (λ a. ours own a ≡ false) mine.read r) mine.owned), f),
              ),
            ),
          ),
        ),
      )

  -- ---- it continues, and is of no series

  pub named-nothing : OursAt own m i true → NothingBefore own m i → TrueName own m carried i ContinuingNothing
  named-nothing x none = among-ours true x ContinuingNothing unplanned (inl (refl, (goes_on own m i x, none)))
    where
      unplanned : Fact own m carried i Planned → ⊥
      unplanned p =
          let c = continues_on own m p.head i p.of (goes_on own m i x) in
          none p.head c.0 c.1

  pub named_seventeenth : (h : ℕ) → OursAt own m i true → i ≡ h + entries_a_burst → Belongs own m h (i - 1) → TrueName own m carried i Seventeenth
  named_seventeenth h x place b =
      among-ours true x Seventeenth unplanned (inr ((λ c. c.1 h (omega arith) b), inl (refl, (goes_on own m i x, record { head = h; place = place; sixteen = b }))))
    where
      unplanned : Fact own m carried i Planned → ⊥
      unplanned p =
          let c = continues_on own m p.head i p.of (goes_on own m i x) in
          let few = p.of.few in
          omega (arith, one_head own m p.head h (i - 1) c.1 b)

  -- ---- it is of a series

  module _ (h : ℕ) (s : Series) (at : SeriesAt own m h s) (of : Belongs own m h i) where
    something : Fact own m carried i ContinuingNothing → ⊥
    something c =
        let b = continues_on own m h i of c.0 in
        c.1 h b.0 b.1

    within : Fact own m carried i Seventeenth → ⊥
    within c =
        let b = continues_on own m h i of c.0 in
        let few = of.few in
        let place = c.1.place in
        omega (arith, one_head own m h c.1.head (i - 1) b.1 c.1.sixteen)

    of-this : (P : List Series → Series → Type 0) → P (planned_before own m carried h) s → OfSeries own m carried i P
    of-this P p = record { head = h; series = s; at = at; of = of; holds = p }

    this : (P : List Series → Series → Type 0) → OfSeries own m carried i P → P (planned_before own m carried h) s
    this P o = of_one own m carried i h s P at of o

    passed
        : (v : Verdict) → (Fact own m carried i Planned → ⊥) → First (Fact own m carried i) (TooLong ∷ Overlapping ∷ AfterTheLast ∷ []) v → TrueName own m carried i v
    passed v unplanned f =
        let o = belongs-ours own m h i of in
        among-ours o.0 o.1 v unplanned (inr (something, inr (within, f)))

    short-enough : burst_words s ≤ words_a_burst → Fact own m carried i TooLong → ⊥
    short-enough le o = omega (arith, this (λ before t. Long t) o)

    late-enough : last_end carried (planned_before own m carried h) ≤ s.head.start → Fact own m carried i Overlapping → ⊥
    late-enough le o = omega (arith, this (λ before t. Overlaps carried before t) o)

    pub named-series : (v : Verdict) → Because (around_at own m carried h) s v → TrueName own m carried i v
    named-series Planned b =
        inr (not_both (silent own.activation) of.head.mine.sends, inl (refl, of-this _ ((λ x. omega (arith, b.0)), (λ x. omega (arith, b.1)), (λ x. omega (arith, b.2)))))
    named-series TooLong b = passed TooLong (λ p. (this _ p).0 b) (inl (refl, of-this _ b))
    named-series Overlapping b = passed Overlapping (λ p. (this _ p).1 b.1) (inr (short-enough b.0, inl (refl, of-this _ b.1)))
    named-series AfterTheLast b = passed AfterTheLast (λ p. (this _ p).2 b.2) (inr (short-enough b.0, inr (late-enough b.1, inl (refl, of-this _ b.2))))
    named-series Unreadable b = absurd b
    named-series StartTimeUnfit b = absurd b
    named-series DbruWithoutRoom b = absurd b
    named-series Foreign b = absurd b
    named-series ContinuingNothing b = absurd b
    named-series Seventeenth b = absurd b
    named-series Silent b = absurd b
