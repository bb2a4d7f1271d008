-- Of which series an entry is: of one at most.
-- Assumes nothing.
use Prim.Native.Nat.{ℕ, ◌+◌, ◌-◌, ◌≤◌, ◌<◌}
use mathlib.Core.Path.{◌≡◌, ◌∙◌, refl, sym, ap}
use mathlib.Core.Bool.{Bool, true, false, true≢false}
use mathlib.Core.List.{List}
use native.Mathlib.Omega.{arith}
use lib.Dec.{ltb, eqb}
use borrow.Author.Tests.{ltb-true, ltb-false, eqb-true, eqb-false}
use Rattle.xgtc.specs.declared.allocation.Allocation.{Allocation}
use Rattle.xgem.specs.Reads.{Found, fields}
use Rattle.entries.specs.declared.Own.{Own}
use Rattle.entries.specs.Standings.{continues}
use Rattle.series.specs.Limits.{entries_a_burst}
use Rattle.series.specs.Series.{entry_at}
use Rattle.reasons.specs.Facts.{OursAt, Belongs, Reads}

-- an entry is read as one allocation
pub one-reading : (e : Found Allocation) (a b : Allocation) → e ≡ fields a → e ≡ fields b → a ≡ b
one-reading e a b p q = cc

module _ (own : Own) (m : List ℕ) where
  -- a head of ours does not continue
  pub head_alone : (i : ℕ) → OursAt own m i false → Reads m i (λ a. continues a ≡ true) → ⊥
  head_alone i x r = true≢false (sym r.holds ∙ ap continues (one-reading (entry_at m i) r.fields_are x.is r.reads x.mine.read) ∙ x.mine.kind)

  pub goes_on : (i : ℕ) → OursAt own m i true → Reads m i (λ a. continues a ≡ true)
  goes_on i x = record { fields_are = x.is; reads = x.mine.read; holds = x.mine.kind }

  -- an entry is a head or one that continues
  pub belongs-ours : (h i : ℕ) → Belongs own m h i → (more : Bool) × OursAt own m i more
  belongs-ours h i x = go (eqb h i) refl
    where
      go : (b : Bool) → eqb h i ≡ b → (more : Bool) × OursAt own m i more
      go true p = (false, rw (← eqb-true h i p) x.head)
      go false p = (true, x.more i (omega (arith, eqb-false h i p, x.behind)) (omega arith))

  -- ---- its head is one

  later_head : (h g i : ℕ) → Belongs own m h i → Belongs own m g i → g < h → ⊥
  later_head h g i x y l = head_alone h x.head (goes_on h (y.more h l x.behind))

  no_later : (h g i : ℕ) → Belongs own m h i → Belongs own m g i → h ≤ g
  no_later h g i x y = go (ltb g h) refl
    where
      go : (b : Bool) → ltb g h ≡ b → h ≤ g
      go true p = absurd (later_head h g i x y (ltb-true g h p))
      go false p = ltb-false g h p

  pub one_head : (h g i : ℕ) → Belongs own m h i → Belongs own m g i → h ≡ g
  one_head h g i x y = omega (arith, no_later h g i x y, no_later g h i y x)

  -- ---- from an entry to the next

  pub head_belongs : (h : ℕ) → OursAt own m h false → Belongs own m h h
  head_belongs h x = record { behind = omega arith; few = omega arith; head = x; more = λ j after to. absurd (never j after to) }
    where
      never : (j : ℕ) → h < j → j ≤ h → ⊥
      never j after to = omega arith

  -- what continues is of the series of the entry before it
  pub continues_on : (h i : ℕ) → Belongs own m h i → Reads m i (λ a. continues a ≡ true) → (h < i) × Belongs own m h (i - 1)
  continues_on h i x r = go (eqb h i) refl
    where
      go : (b : Bool) → eqb h i ≡ b → (h < i) × Belongs own m h (i - 1)
      go true p = absurd (head_alone i (rw (← eqb-true h i p) x.head) r)
      go false p =
          let l : h < i = omega (arith, eqb-false h i p, x.behind) in
          let few = x.few in
          (l, record { behind = omega arith; few = omega arith; head = x.head; more = λ j after to. x.more j after (omega arith) })

  -- and is of it, where that has room
  pub joins_on : (h i : ℕ) → h < i → i < h + entries_a_burst → Belongs own m h (i - 1) → OursAt own m i true → Belongs own m h i
  joins_on h i l few x y = record { behind = omega arith; few = few; head = x.head; more = λ j after to. go j after to (eqb j i) refl }
    where
      go : (j : ℕ) → h < j → j ≤ i → (b : Bool) → eqb j i ≡ b → OursAt own m j true
      go j after to true p = rw (eqb-true j i p) y
      go j after to false p = x.more j after (omega (arith, eqb-false j i p))
