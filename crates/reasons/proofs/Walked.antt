-- The walk over a map gives every entry its true name.
-- Assumes nothing.
use Prim.Native.Nat.{ℕ, zero, suc, ◌+◌, ◌-◌, ◌<◌}
use mathlib.Core.Path.{◌≡◌, refl}
use mathlib.Core.Bool.{Bool, true, false, cond}
use mathlib.Core.List.{List, [], ◌∷◌}
use native.Mathlib.Omega.{arith}
use lib.Dec.{ltb}
use lib.ListN.{length, get_or}
use borrow.Author.Tests.{ltb-true, ltb-false}
use Rattle.xgtc.specs.declared.allocation.Allocation.{Allocation}
use Rattle.entries.specs.declared.Own.{Own}
use Rattle.entries.specs.declared.Verdict.{Verdict}
use Rattle.entries.specs.declared.Verdict.TheVariants.{ContinuingNothing, Seventeenth, Silent}
use Rattle.entries.specs.declared.Standing.{Standing}
use Rattle.entries.specs.declared.Standing.TheVariants.{Apart, Head, More}
use Rattle.entries.specs.Standings.{standing, is_planned_lem}
use Rattle.series.specs.Limits.{entries_a_burst, more_a_burst}
use Rattle.series.specs.declared.Around.{Around}
use Rattle.series.specs.Series.{Series, entry_at, entry_count, standings_from, series_at, outset, beyond, verdict_of}
use Rattle.bwmap.specs.Verdicts.{roles, verdicts_of, verdicts}
use Rattle.bwmap.specs.Verdicts.Role.{alone, joins}
use Rattle.reasons.specs.Facts.{OursAt, Belongs, NothingBefore}
use Rattle.reasons.specs.Names.{TrueName, name_at}
use Rattle.reasons.proofs.Belonging.{goes_on, continues_on, joins_on, one_head}
use Rattle.reasons.proofs.Standing.{apart-alone}
use Rattle.reasons.proofs.Runs.{stands_more}
use Rattle.reasons.proofs.Alone.{apart-named}
use Rattle.reasons.proofs.Among.{named-nothing, named_seventeenth}
use Rattle.reasons.proofs.Open.{Ahead, Within, Open, ahead_past, ahead_head, shut, begun, gone_on, named_last, ahead-first, none_first}

module _ (own : Own) (m : List ℕ) (carried : ℕ) where
  -- every name from the i-th on is the true one
  abbrev TrueFrom : ℕ → List Verdict → Type 0
  TrueFrom i [] = Unit {0}
  TrueFrom i (v ∷ l) = TrueName own m carried i v × TrueFrom (suc i) l

  -- ---- the walk

  module _ (i n : ℕ) (lies : suc i + n ≡ entry_count m) where
    abbrev Rest : Type 0
    Rest = (around : Around) (k : ℕ) (v : Verdict) → Ahead own m carried (suc i) around → Open own m carried (suc i) k v → TrueFrom (suc i) (verdicts_of around v (roles k (standings_from own m (suc i) n)))

    turn-apart : Rest → (around : Around) (v z : Verdict) → Ahead own m carried i around → standing own (entry_at m i) ≡ Apart z
        → TrueFrom i (z ∷ verdicts_of around v (roles 0 (standings_from own m (suc i) n)))
    turn-apart ih around v z ahead p =
        (apart-named own m carried i (omega arith) z p, ih around 0 v (ahead_past own m carried i around ahead (λ d. rw p)) (shut own m carried i (apart-alone own m i z p)))

    turn-head : Rest → (around : Around) (a : Allocation) → Ahead own m carried i around → standing own (entry_at m i) ≡ Head a
        → let s = series_at a (standings_from own m (suc i) n) in
        TrueFrom i (verdict_of around s ∷ cond (is_planned_lem (verdict_of around s)) (verdicts_of (beyond around s) (verdict_of around s) (roles 1 (standings_from own m (suc i) n))) (verdicts_of around (verdict_of around s) (roles 1 (standings_from own m (suc i) n))))
    turn-head ih around a ahead p =
        let s : Series = series_at a (standings_from own m (suc i) n) in
        let b = begun own m carried i n around a lies ahead p in
        (named_last own m carried i 1 (verdict_of around s) b, go s (is_planned_lem (verdict_of around s)) (ih (cond (is_planned_lem (verdict_of around s)) (beyond around s) around) 1 (verdict_of around s) (ahead_head own m carried i n around a lies ahead p) b))
      where
        go
            : (s : Series) (c : Bool) → TrueFrom (suc i) (verdicts_of (cond c (beyond around s) around) (verdict_of around s) (roles 1 (standings_from own m (suc i) n)))
            → TrueFrom (suc i) (cond c (verdicts_of (beyond around s) (verdict_of around s) (roles 1 (standings_from own m (suc i) n))) (verdicts_of around (verdict_of around s) (roles 1 (standings_from own m (suc i) n))))
        go s true t = t
        go s false t = t

    turn-nothing : Rest → (around : Around) (v : Verdict) (a : Allocation) → Ahead own m carried i around → NothingBefore own m i → standing own (entry_at m i) ≡ More a
        → TrueFrom i (ContinuingNothing ∷ verdicts_of around v (roles 0 (standings_from own m (suc i) n)))
    turn-nothing ih around v a ahead none p = (named-nothing own m carried i x none, ih around 0 v (ahead_past own m carried i around ahead (λ d. rw p)) (shut own m carried i still))
      where
        x : OursAt own m i true
        x = stands_more own m i a p

        still : (h : ℕ) → Belongs own m h i → ⊥
        still h b =
            let c = continues_on own m h i b (goes_on own m i (stands_more own m i a p)) in
            none h c.0 c.1

    turn_more : Rest → (around : Around) (k : ℕ) (v : Verdict) (a : Allocation) → Ahead own m carried i around → Within own m carried i (suc k) v → standing own (entry_at m i) ≡ More a
        → (b : Bool) → ltb (suc k) entries_a_burst ≡ b
        → TrueFrom i (verdicts_of around v (cond b (joins ∷ roles (suc (suc k)) (standings_from own m (suc i) n)) (alone Seventeenth ∷ roles 0 (standings_from own m (suc i) n))))
    turn_more ih around k v a ahead w p true q =
        let place = w.place in
        let l : suc k < entries_a_burst = ltb-true (suc k) entries_a_burst q in
        let on = gone_on own m carried i k v l w (joins_on own m w.head i (omega arith) (omega arith) w.last (stands_more own m i a p)) in
        (named_last own m carried i (suc (suc k)) v on, ih around (suc (suc k)) v (ahead_past own m carried i around ahead (λ d. rw p)) on)
    turn_more ih around k v a ahead w p false q =
        let few = w.few in
        let e : k ≡ more_a_burst = omega (arith, ltb-false (suc k) entries_a_burst q) in
        let place = w.place in
        (named_seventeenth own m carried i w.head x (omega arith) w.last, ih around 0 v (ahead_past own m carried i around ahead (λ d. rw p)) (shut own m carried i (full e)))
      where
        x : OursAt own m i true
        x = stands_more own m i a p

        full : k ≡ more_a_burst → (h : ℕ) → Belongs own m h i → ⊥
        full e h b =
            let c = continues_on own m h i b (goes_on own m i (stands_more own m i a p)) in
            let few = b.few in
            let place = w.place in
            omega (arith, one_head own m h w.head (i - 1) c.1 w.last)

    turn : Rest → (around : Around) (k : ℕ) (v : Verdict) → Ahead own m carried i around → Open own m carried i k v → (x : Standing) → standing own (entry_at m i) ≡ x
        → TrueFrom i (verdicts_of around v (roles k (x ∷ standings_from own m (suc i) n)))
    turn ih around k v ahead w (Apart z) p = turn-apart ih around v z ahead p
    turn ih around k v ahead w (Head a) p = turn-head ih around a ahead p
    turn ih around zero v ahead w (More a) p = turn-nothing ih around v a ahead w p
    turn ih around (suc k) v ahead w (More a) p = turn_more ih around k v a ahead w p (ltb (suc k) entries_a_burst) refl

  true_from : (n i : ℕ) → i + n ≡ entry_count m → (around : Around) (k : ℕ) (v : Verdict) → Ahead own m carried i around → Open own m carried i k v
      → TrueFrom i (verdicts_of around v (roles k (standings_from own m i n)))
  true_from zero i lies around k v ahead w = tt
  true_from (suc n) i lies around k v ahead w = turn i n (omega arith) (true_from n (suc i) (omega arith)) around k v ahead w (standing own (entry_at m i)) refl

  true_at : (l : List Verdict) (i : ℕ) → TrueFrom i l → (j : ℕ) → j < length l → TrueName own m carried (i + j) (get_or l j Silent)
  true_at [] i t j h = absurd (omega arith)
  true_at (v ∷ l) i t zero h =
      let e : i + 0 ≡ i = omega arith in
      rw e t.0
  true_at (v ∷ l) i t (suc j) h =
      let e : i + suc j ≡ suc i + j = omega arith in
      rw e (true_at l (suc i) t.1 j (omega arith))

  pub walk_true : (i : ℕ) → i < length (verdicts own m carried) → TrueName own m carried i (name_at verdicts own m carried i)
  walk_true i h =
      let e : 0 + i ≡ i = omega arith in
      rw e at (true_at (verdicts own m carried) 0 (true_from (entry_count m) 0 (omega arith) (outset carried) 0 ContinuingNothing (ahead-first own m carried) (none_first own m carried)) i h)
