-- The true name of a structure that is of no series by itself: a state that sends nothing, unreadable, unfit, without room, or foreign.
-- Assumes nothing.
use Prim.Native.Nat.{ℕ, ◌<◌}
use mathlib.Core.Path.{◌≡◌, ◌∙◌, refl, sym}
use mathlib.Core.Logic.{inl, inr}
use mathlib.Core.Bool.{Bool, true, false, cond, true≢false}
use mathlib.Core.List.{List}
use Rattle.xgtc.specs.declared.allocation.Allocation.{Allocation}
use Rattle.xgem.specs.Reads.{Found, fields, unreadable, short}
use Rattle.station.specs.States.{silent}
use Rattle.entries.specs.declared.Own.{Own}
use Rattle.entries.specs.declared.Verdict.{Verdict}
use Rattle.entries.specs.declared.Verdict.TheVariants.{Planned, Unreadable, StartTimeUnfit, DbruWithoutRoom, Foreign, Silent}
use Rattle.entries.specs.declared.Standing.TheVariants.{Apart, Head, More}
use Rattle.entries.specs.Standings.{start_unfit_lem, no_room_lem, continues, ours, sorted, read_as_standing, standing}
use Rattle.series.specs.Series.{entry_at, entry_count}
use Rattle.reasons.specs.Facts.{Reads, Belongs, Fact}
use Rattle.reasons.specs.Names.{TrueName}
use Rattle.reasons.proofs.Belonging.{one-reading}
use Rattle.reasons.proofs.Standing.{clash, entry-long, apart-alone}

pub not_both : (b : Bool) → b ≡ false → b ≡ true → ⊥
not_both b p q = true≢false (sym q ∙ p)

-- what holds of what was read holds of the fields
pub reads_is : (m : List ℕ) (i : ℕ) (a : Allocation) (P : Allocation → Type 0) → entry_at m i ≡ fields a → Reads m i P → P a
reads_is m i a P e r = rw (one-reading (entry_at m i) a r.fields_are e r.reads) r.holds

pub readable_is : (e : Found Allocation) (a : Allocation) → e ≡ fields a → e ≡ unreadable → ⊥
readable_is e a p q = clash (cc)

module _ (own : Own) (m : List ℕ) (carried i : ℕ) where
  module _ (sends : silent own.activation ≡ false) (alone : (h : ℕ) → Belongs own m h i → ⊥) where
    loud : Fact own m carried i Silent → ⊥
    loud = not_both (silent own.activation) sends

    unplanned : Fact own m carried i Planned → ⊥
    unplanned p = alone p.head p.of

    named-unreadable : entry_at m i ≡ unreadable → TrueName own m carried i Unreadable
    named-unreadable e = inr (loud, inr (unplanned, inl (refl, e)))

    module _ (a : Allocation) (e : entry_at m i ≡ fields a) where
      read : Fact own m carried i Unreadable → ⊥
      read = readable_is (entry_at m i) a e

      so : (P : Allocation → Type 0) → P a → Reads m i P
      so P p = record { fields_are = a; reads = e; holds = p }

      fit : start_unfit_lem a ≡ false → Fact own m carried i StartTimeUnfit → ⊥
      fit p r = not_both (start_unfit_lem a) p (reads_is m i a (λ x. start_unfit_lem x ≡ true) e r)

      room : no_room_lem a ≡ false → Fact own m carried i DbruWithoutRoom → ⊥
      room p r = not_both (no_room_lem a) p (reads_is m i a (λ x. no_room_lem x ≡ true) e r)

      by_tests
          : (v : Verdict) (s n o k : Bool) → start_unfit_lem a ≡ s → no_room_lem a ≡ n → ours own a ≡ o
          → cond s (Apart StartTimeUnfit) (cond n (Apart DbruWithoutRoom) (cond o (cond k (More a) (Head a)) (Apart Foreign))) ≡ Apart v
          → TrueName own m carried i v
      by_tests v true n o k p q r z =
          let w : StartTimeUnfit ≡ v = cc in
          rw (← w) (inr (loud, inr (unplanned, inr (read, inl (refl, so (λ x. start_unfit_lem x ≡ true) p)))))
      by_tests v false true o k p q r z =
          let w : DbruWithoutRoom ≡ v = cc in
          rw (← w) (inr (loud, inr (unplanned, inr (read, inr (fit p, inl (refl, so (λ x. no_room_lem x ≡ true) q))))))
      by_tests v false false false k p q r z =
          let w : Foreign ≡ v = cc in
          rw (← w) (inr (loud, inr (unplanned, inr (read, inr (fit p, inr (room q, inl (refl, so (λ x. ours own x ≡ false) r)))))))
      by_tests v false false true true p q r z = clash (cc)
      by_tests v false false true false p q r z = clash (cc)

      by_fields : (v : Verdict) → sorted own a ≡ Apart v → TrueName own m carried i v
      unfolding sorted
      by_fields v z = by_tests v (start_unfit_lem a) (no_room_lem a) (ours own a) (continues a) refl refl refl z

    by-reading : i < entry_count m → (v : Verdict) (e : Found Allocation) → entry_at m i ≡ e → read_as_standing own e ≡ Apart v → TrueName own m carried i v
    by-reading lies v (fields a) e z = by_fields a e v z
    by-reading lies v unreadable e z =
        let w : Unreadable ≡ v = cc in
        rw (← w) (named-unreadable e)
    by-reading lies v short e z = absurd (entry-long m i lies e)

  -- what stands apart has its true name
  pub apart-named : i < entry_count m → (v : Verdict) → standing own (entry_at m i) ≡ Apart v → TrueName own m carried i v
  unfolding standing
  apart-named lies v e = go (silent own.activation) refl e
    where
      go : (b : Bool) → silent own.activation ≡ b → cond b (Apart Silent) (read_as_standing own (entry_at m i)) ≡ Apart v → TrueName own m carried i v
      go true p z =
          let w : Silent ≡ v = cc in
          rw (← w) (inl (refl, p))
      go false p z = by-reading p (apart-alone own m i v e) lies v (entry_at m i) refl z
