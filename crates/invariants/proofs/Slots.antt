-- The added ports and the slots stay in range: where a port comes in at an empty slot, and where one goes.
-- Assumes nothing.
use Prim.Native.Nat.{ℕ, zero, suc, ◌+◌, ◌-◌, ◌≤◌, ◌<◌}
use mathlib.Core.Path.{◌≡◌, ◌∙◌, refl, sym, ap}
use mathlib.Core.List.{List, [], ◌∷◌, ◌++◌}
use mathlib.Core.Bool.{Bool, true, false, ◌&&◌, ◌||◌, not, cond, false≢true}
use native.Mathlib.Omega.{arith}
use lib.ListN.{length, get_or, set, replicate, length-set}
use lib.Seq.{get_or-set_same, get_or-set_other}
use lib.Dec.{eqb, leb}
use borrow.Author.Tests.{eqb-true, eqb-false, leb-true, eq-eqb, ne_eqb, le-leb}
use Rattle.ids.specs.declared.PortId.{PortId}
use Rattle.ids.specs.Ids.{assignable_port, same_port}
use Rattle.ids.specs.Places.{some}
use Rattle.ports.specs.Limits.{slots, slot_bytes}
use Rattle.ports.specs.Ports.{no_port}
use Rattle.validity.specs.Ranges.{proper, held, ports_fit_lem, empty_slot, partial_fits, slot_fits, partials_fit_lem, every}
use Rattle.validity.proofs.Tests.{both, join, neither, nor, not_so, so_not}
use Rattle.validity.proofs.Every.{every_get, every_make}

-- two numbers are the same in either order
pub eqb_comm : (a b : ℕ) → eqb a b ≡ eqb b a
eqb_comm a b = go (eqb a b) refl
  where
    go : (t : Bool) → eqb a b ≡ t → t ≡ eqb b a
    go true e = sym (eq-eqb b a (sym (eqb-true a b e)))
    go false e = sym (ne_eqb b a (λ f. eqb-false a b e (sym f)))

pub same-port : (p q : PortId) → same_port p q ≡ same_port q p
same-port p q = eqb_comm p.0 q.0

-- ---- the added ports

pub some-held : (f : PortId → Bool) (l : List PortId) → some f l ≡ false → some f (held l) ≡ false
some-held f [] e = refl
some-held f (q ∷ l) e = go (same_port q no_port) (neither (f q) (some f l) e) (some-held f l)
  where
    go
        : (b : Bool) → (f q ≡ false) × (some f l ≡ false) → (some f l ≡ false → some f (held l) ≡ false)
        → some f (cond b (held l) (q ∷ held l)) ≡ false
    go true n ih = ih n.1
    go false n ih = nor (f q) _ n.0 (ih n.1)

-- where a slot changes, the others of the ports do not
some-set
    : (f : PortId → Bool) (l : List PortId) (i : ℕ) (p : PortId) → some f (held l) ≡ false
    → (same_port p no_port ≡ false → f p ≡ false) → some f (held (set l i p)) ≡ false
some-set f [] i p e h = refl
some-set f (q ∷ l) zero p e h = put (same_port p no_port) refl (same_port q no_port) e
  where
    put
        : (b : Bool) → same_port p no_port ≡ b → (c : Bool) → some f (cond c (held l) (q ∷ held l)) ≡ false
        → some f (cond b (held l) (p ∷ held l)) ≡ false
    put true t true e = e
    put true t false e = (neither (f q) _ e).1
    put false t true e = nor (f p) _ (h t) e
    put false t false e = nor (f p) _ (h t) (neither (f q) _ e).1
some-set f (q ∷ l) (suc i) p e h = go (same_port q no_port) e (λ k. some-set f l i p k h)
  where
    go
        : (b : Bool) → some f (cond b (held l) (q ∷ held l)) ≡ false
        → (some f (held l) ≡ false → some f (held (set l i p)) ≡ false)
        → some f (cond b (held (set l i p)) (q ∷ held (set l i p))) ≡ false
    go true e ih = ih e
    go false e ih = let n = neither (f q) (some f (held l)) e in nor (f q) _ n.0 (ih n.1)

abbrev Fine : List PortId → Type 0
Fine l = proper assignable_port same_port (held l) ≡ true

tail_fine : (q : PortId) (l : List PortId) (b : Bool) → proper assignable_port same_port (cond b (held l) (q ∷ held l)) ≡ true → Fine l
tail_fine q l true e = e
tail_fine q l false e = (both (not (some (same_port q) (held l))) _ (both (assignable_port q) _ e).1).1

-- a port that can be assigned and is held by none comes in, or a slot is emptied
pub set-fine
    : (l : List PortId) (i : ℕ) (p : PortId) → Fine l
    → (same_port p no_port ≡ false → (assignable_port p ≡ true) × (some (same_port p) (held l) ≡ false))
    → Fine (set l i p)
set-fine [] i p e h = refl
set-fine (q ∷ l) zero p e h = put (same_port p no_port) refl (tail_fine q l (same_port q no_port) e)
  where
    none : (b : Bool) → some (same_port p) (cond b (held l) (q ∷ held l)) ≡ false → some (same_port p) (held l) ≡ false
    none true k = k
    none false k = (neither (same_port p q) _ k).1

    put : (b : Bool) → same_port p no_port ≡ b → Fine l → proper assignable_port same_port (cond b (held l) (p ∷ held l)) ≡ true
    put true t f = f
    put false t f =
        join (assignable_port p) _ (h t).0
        (join (not (some (same_port p) (held l))) _ (so_not _ (none (same_port q no_port) (h t).1)) f)
set-fine (q ∷ l) (suc i) p e h =
    go (same_port q no_port) e (λ t. h t) (λ f g. set-fine l i p f g)
  where
    go
        : (b : Bool) → proper assignable_port same_port (cond b (held l) (q ∷ held l)) ≡ true
        → (same_port p no_port ≡ false → (assignable_port p ≡ true) × (some (same_port p) (cond b (held l) (q ∷ held l)) ≡ false))
        → (Fine l → (same_port p no_port ≡ false → (assignable_port p ≡ true) × (some (same_port p) (held l) ≡ false)) → Fine (set l i p))
        → proper assignable_port same_port (cond b (held (set l i p)) (q ∷ held (set l i p))) ≡ true
    go true e h ih = ih e h
    go false e h ih =
        let a = both (assignable_port q) _ e in
        let b = both (not (some (same_port q) (held l))) _ a.1 in
        join (assignable_port q) _ a.0
        (join (not (some (same_port q) (held (set l i p)))) _
        (so_not _
        (some-set (same_port q) l i p (not_so _ b.0)
        (λ t. same-port q p ∙ (neither (same_port p q) (some (same_port p) (held l)) (h t).1).0)))
        (ih b.1 (λ t. ((h t).0, (neither (same_port p q) (some (same_port p) (held l)) (h t).1).1))))

-- ---- the slots

-- all ports wait: whatever the ids
pub all_wait : (ids : List PortId) → partials_fit_lem ids (replicate slots 0) (replicate slots true) ≡ true
unfolding partials_fit_lem slot_fits partial_fits
all_wait ids = refl

empty_other : (ids : List PortId) (i : ℕ) (p : PortId) (j : ℕ) → (j ≡ i + 1 → ⊥) → empty_slot (set ids i p) j ≡ empty_slot ids j
empty_other ids i p zero h = refl
empty_other ids i p (suc j) h =
    let n : j ≡ i → ⊥ = λ e. h (omega arith) in
    ap (λ (q : PortId). same_port q no_port) (get_or-set_other ids i j p no_port n)

-- a slot that changes hands holds nothing and waits; the others are as they were
module _ (ids : List PortId) (lengths : List ℕ) (waiting : List Bool) (i : ℕ) (p : PortId) (k : length lengths ≡ slots) (w : length waiting ≡ slots) (h : i + 1 < slots) where
  slot-one
      : (d : ℕ) (b : Bool) → eqb d (i + 1) ≡ b → slot_fits ids lengths waiting d ≡ true
      → slot_fits (set ids i p) (set lengths (i + 1) 0) (set waiting (i + 1) true) d ≡ true
  unfolding slot_fits partial_fits
  slot-one d true t e =
      let m : d ≡ i + 1 = eqb-true d (i + 1) t in
      let x : i + 1 < length lengths = omega arith in
      let y : i + 1 < length waiting = omega arith in
      rw (m, get_or-set_same lengths (i + 1) 0 0 x, get_or-set_same waiting (i + 1) true false y)
  slot-one d false t e =
      let n = eqb-false d (i + 1) t in
      rw (get_or-set_other lengths (i + 1) d 0 0 n, get_or-set_other waiting (i + 1) d true false n, empty_other ids i p d n) e

  pub slot-changed
      : partials_fit_lem ids lengths waiting ≡ true → partials_fit_lem (set ids i p) (set lengths (i + 1) 0) (set waiting (i + 1) true) ≡ true
  unfolding partials_fit_lem
  slot-changed e =
      every_make (slot_fits (set ids i p) (set lengths (i + 1) 0) (set waiting (i + 1) true)) 0 slots
      (λ d q. slot-one (0 + d) (eqb (0 + d) (i + 1)) refl (every_get (slot_fits ids lengths waiting) 0 slots e d q))

-- where the management port starts clear
first_false : (l : List Bool) → get_or (set l 0 false) 0 false ≡ false
first_false [] = refl
first_false (x ∷ l) = refl

at_most : (n : ℕ) (w : Bool) → partial_fits n w false ≡ true → leb n slot_bytes ≡ true
unfolding partial_fits
at_most n true e = let z : n ≡ 0 = eqb-true n 0 e in le-leb n slot_bytes (omega arith)
at_most n false e = e

module _ (ids : List PortId) (lengths : List ℕ) (waiting : List Bool) where
  clear_one : (d : ℕ) → slot_fits ids lengths waiting d ≡ true → slot_fits ids lengths (set waiting 0 false) d ≡ true
  unfolding slot_fits partial_fits
  clear_one zero e = rw (first_false waiting) (at_most (get_or lengths 0 0) (get_or waiting 0 false) e)
  clear_one (suc d) e =
      let n : suc d ≡ 0 → ⊥ = λ z. omega arith in
      rw (get_or-set_other waiting 0 (suc d) false false n) e

  pub cleared : partials_fit_lem ids lengths waiting ≡ true → partials_fit_lem ids lengths (set waiting 0 false) ≡ true
  unfolding partials_fit_lem
  cleared e =
      every_make (slot_fits ids lengths (set waiting 0 false)) 0 slots
      (λ d q. clear_one (0 + d) (every_get (slot_fits ids lengths waiting) 0 slots e d q))
