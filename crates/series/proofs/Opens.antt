-- What the tests of a series that is open say of it.
-- Assumes nothing.
use Prim.Native.Nat.{ℕ, ◌+◌, ◌≤◌, ◌<◌}
use mathlib.Core.Path.{◌≡◌, ◌∙◌, refl, sym}
use mathlib.Core.Bool.{Bool, true, false, ◌&&◌, true≢false, false≢true}
use native.Mathlib.Omega.{arith}
use lib.Dec.{ltb, leb}
use borrow.Author.Tests.{lt-ltb, ltb-true, ltb-false, leb-true, leb-false}
use Rattle.xgtc.specs.declared.allocation.Allocation.{Allocation}
use Rattle.entries.specs.Standings.{is_planned_lem}
use Rattle.series.specs.Series.{words_of, judged}
use Rattle.series.specs.Opens.{closed, goes_on_lem, fits, Modest}
use Rattle.series.specs.declared.Around.{Around}
use Rattle.series.specs.declared.Open.{Open}

pub goes_on_facts : (s : Open) → goes_on_lem s ≡ true → (0 < s.entries) × (s.entries ≤ 15)
unfolding goes_on_lem
goes_on_facts s h = go (ltb 0 s.entries) (leb s.entries 15) refl refl h
  where
    go : (a b : Bool) → ltb 0 s.entries ≡ a → leb s.entries 15 ≡ b → (a && b) ≡ true → (0 < s.entries) × (s.entries ≤ 15)
    go true true p q e = (ltb-true 0 s.entries p, leb-true s.entries 15 q)
    go true false p q e = absurd (false≢true e)
    go false b p q e = absurd (false≢true e)

pub full_or_none : (s : Open) (k : ℕ) → goes_on_lem s ≡ false → s.entries ≡ k + 1 → 15 ≤ k
unfolding goes_on_lem
full_or_none s k h one = go (ltb 0 s.entries) (leb s.entries 15) refl refl h
  where
    go : (a b : Bool) → ltb 0 s.entries ≡ a → leb s.entries 15 ≡ b → (a && b) ≡ false → 15 ≤ k
    go true true p q e = absurd (true≢false e)
    go true false p q e = omega (arith, leb-false s.entries 15 q)
    go false b p q e = omega (arith, ltb-false 0 s.entries p)

pub fits_facts : (around : Around) (s : Open) → fits around s ≡ true → (0 < s.entries) × (is_planned_lem (judged around s.start s.words) ≡ true)
unfolding fits
fits_facts around s h = go (ltb 0 s.entries) refl h
  where
    go : (a : Bool) → ltb 0 s.entries ≡ a → (a && is_planned_lem (judged around s.start s.words)) ≡ true → (0 < s.entries) × (is_planned_lem (judged around s.start s.words) ≡ true)
    go true p q = (ltb-true 0 s.entries p, q)
    go false p q = absurd (false≢true q)

pub unfit : (around : Around) (s : Open) → 0 < s.entries → fits around s ≡ false → is_planned_lem (judged around s.start s.words) ≡ false
unfolding fits
unfit around s h f = sym (rw (lt-ltb 0 s.entries h)) ∙ f

pub closed-modest : (s : Open) → s ≡ closed → Modest s
closed-modest s e = rw e (record { few = omega arith; start = omega arith; words = omega arith })

pub more_words : (h : Allocation) (g x : ℕ) → words_of h g + x ≡ words_of h (g + x)
unfolding words_of
more_words h g x = omega arith
