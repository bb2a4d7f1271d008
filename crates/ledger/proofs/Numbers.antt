-- The numbers among a list of Alloc-IDs: where one more comes in, and where one goes.
-- Assumes nothing.
use Prim.Native.Nat.{ℕ, zero, suc, ◌+◌, ◌≤◌, ◌<◌}
use mathlib.Core.Path.{◌≡◌, ◌∙◌, refl, sym}
use mathlib.Core.Bool.{Bool, true, false, ◌&&◌, ◌||◌, not, cond, false≢true}
use mathlib.Core.List.{List, [], ◌∷◌, ◌++◌}
use native.Mathlib.Omega.{arith}
use native.Mathlib.Numerals.{add-one}
use lib.Dec.{eqb, leb}
use lib.ListN.{length}
use lib.Seq.{take-suc-set}
use borrow.Author.Tests.{eqb-true, eqb-false, ne_eqb, lt-leb, leb-true}
use Rattle.std.specs.Prelude.{None, Option, Some, ℕ}
use Rattle.ids.specs.declared.AllocId.{AllocId}
use Rattle.ids.specs.Ids.{same_alloc, assignable_alloc}
use Rattle.link.specs.declared.Allocs.{Allocs}
use Rattle.link.specs.Limits.{added_allocs}
use Rattle.ids.specs.Places.{place_from, some, is_held}
use Rattle.link.specs.Link.{no_alloc, held_allocs, alloc_place, add_alloc, remove_alloc, remove_at}
use Rattle.ids.proofs.Places.{place-held}
use Rattle.validity.specs.Ranges.{proper, allocs_fit_lem}
use Rattle.validity.proofs.Tests.{both, not_so}
use Rattle.invariants.proofs.Lists.{found_some, without, closed_up}

-- one of the list has the number n
abbrev pub among : List AllocId → ℕ → Bool
among l n = some (same_alloc (record { 0 = n })) l

-- ---- one more at the end

pub swapped : (a b c : Bool) → (a || (b || c)) ≡ (b || (a || c))
swapped true true c = refl
swapped true false c = refl
swapped false true c = refl
swapped false false c = refl

some_snoc : {A : Type 0} (f : A → Bool) (l : List A) (a : A) → some f (l ++ (a ∷ [])) ≡ (f a || some f l)
some_snoc f [] a = refl
some_snoc f (x ∷ l) a = rw (some_snoc f l a) (swapped (f x) (f a) (some f l))

pub added-among
    : (a : Allocs) (id : AllocId) (n : ℕ) → a.count < added_allocs → length a.ids ≡ added_allocs
    → among (held_allocs (add_alloc a id)) n ≡ (eqb n id.0 || among (held_allocs a) n)
added-among a id n h l =
    let k : a.count < length a.ids = omega arith in
    rw (lt-leb added_allocs a.count h, add-one a.count, take-suc-set a.ids a.count id k)
    (some_snoc (same_alloc (record { 0 = n })) (held_allocs a) id)

-- ---- one less

place_above : {A : Type 0} (f : A → Bool) (j : ℕ) (l : List A) (i : ℕ) → place_from f j l ≡ Some i → j ≤ i
place_above f j [] i e = let z : ◌≡◌ {A = ℕ} 0 1 = cc in omega arith
place_above f j (a ∷ l) i e = go (f a) e (place_above f (j + 1) l i)
  where
    go : (b : Bool) → cond b (Some j) (place_from f (j + 1) l) ≡ Some i → (place_from f (j + 1) l ≡ Some i → j + 1 ≤ i) → j ≤ i
    go true e k = let z : j ≡ i = cc in omega arith
    go false e k = let z : j + 1 ≤ i = k e in omega arith

module _ (id : AllocId) (n : ℕ) where
  -- the one that goes stands first
  first_Goes
      : (x : AllocId) (l : List AllocId) → same_alloc id x ≡ true → some (same_alloc x) l ≡ false
      → among l n ≡ (not (eqb n id.0) && (eqb n x.0 || among l n))
  first_Goes x l s d = go (eqb n id.0) refl
    where
      go : (b : Bool) → eqb n id.0 ≡ b → among l n ≡ (not b && (eqb n x.0 || among l n))
      go true t =
          let q : n ≡ x.0 = eqb-true n id.0 t ∙ eqb-true id.0 x.0 s in
          rw q d
      go false t =
          let q : eqb n x.0 ≡ false = ne_eqb n x.0 (λ e. eqb-false n id.0 t (e ∙ sym (eqb-true id.0 x.0 s))) in
          rw q

  -- it stands further back
  other_Goes
      : (x : AllocId) (w l : Bool) → same_alloc id x ≡ false → w ≡ (not (eqb n id.0) && l)
      → (eqb n x.0 || w) ≡ (not (eqb n id.0) && (eqb n x.0 || l))
  other_Goes x w l s ih = go (eqb n id.0) refl ih
    where
      go : (b : Bool) → eqb n id.0 ≡ b → w ≡ (not b && l) → (eqb n x.0 || w) ≡ (not b && (eqb n x.0 || l))
      go true t e =
          let q : eqb n x.0 ≡ false = ne_eqb n x.0 (λ r. eqb-false id.0 x.0 s (sym (eqb-true n id.0 t) ∙ r)) in
          rw (q, e)
      go false t e = rw e

  goes
      : (l : List AllocId) (j i : ℕ) → proper assignable_alloc same_alloc l ≡ true
      → place_from (same_alloc id) j l ≡ Some (j + i) → among (without i l) n ≡ (not (eqb n id.0) && among l n)
  goes [] j i p e =
      let z : ◌≡◌ {A = ℕ} 0 1 = cc in
      let f : ⊥ = omega arith in
      absurd f
  goes (x ∷ l) j zero p e = go (same_alloc id x) refl e
    where
      go
          : (b : Bool) → same_alloc id x ≡ b → cond b (Some j) (place_from (same_alloc id) (j + 1) l) ≡ Some (j + 0)
          → among l n ≡ (not (eqb n id.0) && among (x ∷ l) n)
      go true t e =
          let q = both (assignable_alloc x) (not (some (same_alloc x) l) && proper assignable_alloc same_alloc l) p in
          first_Goes x l t (not_so _ (both (not (some (same_alloc x) l)) (proper assignable_alloc same_alloc l) q.1).0)
      go false t e =
          let k = place_above (same_alloc id) (j + 1) l (j + 0) e in
          let f : ⊥ = omega arith in
          absurd f
  goes (x ∷ l) j (suc i) p e = go (same_alloc id x) refl e (goes l (j + 1) i)
    where
      go
          : (b : Bool) → same_alloc id x ≡ b → cond b (Some j) (place_from (same_alloc id) (j + 1) l) ≡ Some (j + suc i)
          → (proper assignable_alloc same_alloc l ≡ true → place_from (same_alloc id) (j + 1) l ≡ Some (j + 1 + i)
          → among (without i l) n ≡ (not (eqb n id.0) && among l n))
          → among (x ∷ without i l) n ≡ (not (eqb n id.0) && among (x ∷ l) n)
      go true t e ih =
          let z : j ≡ j + suc i = cc in
          let f : ⊥ = omega arith in
          absurd f
      go false t e ih =
          let q = both (assignable_alloc x) (not (some (same_alloc x) l) && proper assignable_alloc same_alloc l) p in
          let r = both (not (some (same_alloc x) l)) (proper assignable_alloc same_alloc l) q.1 in
          let k : j + suc i ≡ j + 1 + i = omega arith in
          other_Goes x (among (without i l) n) (among l n) t (ih r.1 (rw k at e))

pub removed_among
    : (a : Allocs) (id : AllocId) (n : ℕ) → length a.ids ≡ added_allocs → allocs_fit_lem a ≡ true → is_held (alloc_place a id) ≡ true
    → among (held_allocs (remove_alloc a id)) n ≡ (not (eqb n id.0) && among (held_allocs a) n)
unfolding allocs_fit_lem
removed_among a id n l f h = go (alloc_place a id) refl h
  where
    go
        : (p : Option ℕ) → alloc_place a id ≡ p → is_held p ≡ true
        → among (held_allocs (remove_at a p)) n ≡ (not (eqb n id.0) && among (held_allocs a) n)
    go (Some i) e t =
        let b = both (leb a.count added_allocs) _ f in
        let c = leb-true a.count added_allocs b.0 in
        let k = place-held (same_alloc id) a.count a.ids i e in
        let z : 0 + i ≡ i = omega arith in
        let q : place_from (same_alloc id) 0 (held_allocs a) ≡ Some (0 + i) = rw z e in
        rw (closed_up no_alloc i a.count a.ids k.0 (omega arith)) (goes id n (held_allocs a) 0 i b.1 q)
    go None e t = absurd (false≢true t)

-- ---- held or not

pub found_among : (a : Allocs) (id : AllocId) → is_held (alloc_place a id) ≡ among (held_allocs a) id.0
found_among a id = found_some (same_alloc id) 0 (held_allocs a)
