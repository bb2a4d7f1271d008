-- The numbers of all places are fit and distinct where those in use are in range and distinct.
-- Assumes nothing.
use Prim.Native.Nat.{ℕ, suc, ◌+◌, ◌-◌, ◌≤◌, ◌<◌}
use mathlib.Core.Path.{◌≡◌, ◌∙◌, refl, sym, ap}
use mathlib.Core.List.{List, [], ◌∷◌}
use mathlib.Core.Bool.{Bool, true, false, not, ◌&&◌, ◌||◌, cond}
use native.Mathlib.Omega.{arith}
use lib.ListN.{length, take}
use lib.Seq.{take-nil}
use lib.Dec.{eqb, leb, ltb}
use borrow.Author.Tests.{ltb-true, ltb-false, leb-true, ne_eqb}
use Rattle.ids.specs.declared.AllocId.{AllocId}
use Rattle.ids.specs.declared.PortId.{PortId}
use Rattle.ids.specs.Ids.{within, assignable_alloc, assignable_port, same_alloc, same_port}
use Rattle.ids.specs.Places.{some}
use Rattle.ports.specs.Ports.{no_port}
use Rattle.validity.specs.Ranges.{proper, held, unfit, is_unfit, place_number_lem, numbers_from, numbers_fit_lem, alloc_numbers_lem, port_numbers_lem, ports_fit_lem}
use Rattle.validity.proofs.Counts.{fit, numbers_fit}

never : {A : Type 0} → true ≡ false → A
never e = absurd (let y : ◌≡◌ {A = ℕ} 0 1 = cc in omega arith)

-- a number is unfit where one that is no fit number is among them
none-unfit : (l : List ℕ) → proper fit eqb l ≡ true → some is_unfit l ≡ false
none-unfit [] h = refl
none-unfit (n ∷ l) h = go (is_unfit n) (not (some (eqb n) l)) (proper fit eqb l) h (none-unfit l)
  where
    go : (a b p : Bool) → (not a && (b && p)) ≡ true → (p ≡ true → some is_unfit l ≡ false) → (a || some is_unfit l) ≡ false
    go true b p e ih = never (sym e)
    go false false p e ih = never (sym e)
    go false true p e ih = ih e

right : (a b : Bool) → (a || b) ≡ false → b ≡ false
right true b e = never e
right false b e = e

none : (a : Bool) → (a && false) ≡ false
none true = refl
none false = refl

abbrev in_use : {A : Type 0} → (ℕ → A → Bool) → ℕ → List A → List A
in_use used i [] = []
in_use used i (a ∷ l) = cond (used i a) (a ∷ in_use used (i + 1) l) (in_use used (i + 1) l)

module _ {A : Type 0} (used : ℕ → A → Bool) (ok : A → Bool) (number : A → ℕ) where
  abbrev same : A → A → Bool
  same a b = eqb (number a) (number b)

  abbrev from : ℕ → List A → List ℕ
  from i l = numbers_from used ok number i l

  pub numbers-length : (i : ℕ) (l : List A) → length (from i l) ≡ length l
  numbers-length i [] = refl
  numbers-length i (a ∷ l) = ap suc (numbers-length (i + 1) l)

  module _ (low : (a : A) → ok a ≡ true → 16 ≤ number a) (high : (a : A) → ok a ≡ true → number a < unfit) where
    -- an unused place's number is none of those behind it
    own : (x i : ℕ) (l : List A) → x < i → i + length l ≤ 16 → some (eqb x) (from i l) ≡ false
    unfolding place_number_lem
    own x i [] h k = refl
    own x i (a ∷ l) h k = go (used i a) (ok a) refl (own x (i + 1) l (omega arith) (omega arith))
      where
        go : (u t : Bool) → ok a ≡ t → some (eqb x) (from (i + 1) l) ≡ false → (eqb x (cond u (cond t (number a) unfit) i) || some (eqb x) (from (i + 1) l)) ≡ false
        go true true e ih = rw (ne_eqb x (number a) (λ q. omega (arith, low a e))) ih
        go true false e ih = rw (ne_eqb x unfit (λ q. omega arith)) ih
        go false t e ih = rw (ne_eqb x i (λ q. omega arith)) ih

    -- where all are fit, a number in use is among all where it is among those in use
    among
        : (a : A) → ok a ≡ true → (i : ℕ) (l : List A) → i + length l ≤ 16 → some is_unfit (from i l) ≡ false
        → some (eqb (number a)) (from i l) ≡ some (same a) (in_use used i l)
    unfolding place_number_lem
    among a e i [] k h = refl
    among a e i (b ∷ l) k h = go (used i b) (ok b) h (among a e (i + 1) l (omega arith))
      where
        go
            : (u t : Bool) → (is_unfit (cond u (cond t (number b) unfit) i) || some is_unfit (from (i + 1) l)) ≡ false
            → (some is_unfit (from (i + 1) l) ≡ false → some (eqb (number a)) (from (i + 1) l) ≡ some (same a) (in_use used (i + 1) l))
            → (eqb (number a) (cond u (cond t (number b) unfit) i) || some (eqb (number a)) (from (i + 1) l))
            ≡ some (same a) (cond u (b ∷ in_use used (i + 1) l) (in_use used (i + 1) l))
        go true true q ih = ap (λ (x : Bool). same a b || x) (ih (right (is_unfit (number b)) _ q))
        go true false q ih = never q
        go false t q ih = rw (ne_eqb (number a) i (λ z. omega (arith, low a e))) (ih (right (is_unfit i) _ q))

    pub places : (i : ℕ) (l : List A) → i + length l ≤ 16 → proper fit eqb (from i l) ≡ proper ok same (in_use used i l)
    unfolding place_number_lem
    places i [] k = refl
    places i (a ∷ l) k = go (used i a) (ok a) refl (places (i + 1) l (omega arith))
      where
        here
            : (p : Bool) → proper fit eqb (from (i + 1) l) ≡ p → ok a ≡ true
            → (not (some (eqb (number a)) (from (i + 1) l)) && p) ≡ (not (some (same a) (in_use used (i + 1) l)) && p)
        here true h e = rw (among a e (i + 1) l (omega arith) (none-unfit (from (i + 1) l) h))
        here false h e = none (not (some (eqb (number a)) (from (i + 1) l))) ∙ sym (none (not (some (same a) (in_use used (i + 1) l))))

        go
            : (u t : Bool) → ok a ≡ t → proper fit eqb (from (i + 1) l) ≡ proper ok same (in_use used (i + 1) l)
            → proper fit eqb (cond u (cond t (number a) unfit) i ∷ from (i + 1) l)
            ≡ proper ok same (cond u (a ∷ in_use used (i + 1) l) (in_use used (i + 1) l))
        go true true e ih =
            rw (ne_eqb (number a) unfit (λ q. omega (arith, high a e)), e)
            (here (proper fit eqb (from (i + 1) l)) refl e ∙ ap (λ (x : Bool). not (some (same a) (in_use used (i + 1) l)) && x) ih)
        go true false e ih = rw e
        go false t e ih =
            rw (ne_eqb i unfit (λ q. omega arith), own i (i + 1) l (omega arith) (omega arith)) ih

-- ---- the places in use

abbrev pub below : ℕ → ℕ → AllocId → Bool
below n i a = ltb i n

abbrev pub taken : ℕ → PortId → Bool
taken i p = not (same_port p no_port)

first_used : (n i : ℕ) (l : List AllocId) → in_use (below n) i l ≡ take (n - i) l
first_used n i [] = sym (take-nil (n - i))
first_used n i (a ∷ l) = go (ltb i n) refl (first_used n (i + 1) l)
  where
    go
        : (t : Bool) → ltb i n ≡ t → in_use (below n) (i + 1) l ≡ take (n - (i + 1)) l
        → cond t (a ∷ in_use (below n) (i + 1) l) (in_use (below n) (i + 1) l) ≡ take (n - i) (a ∷ l)
    go true e ih =
        let h = ltb-true i n e in
        let m : n - i ≡ suc (n - (i + 1)) = omega arith in
        rw m (ap (λ (x : List AllocId). a ∷ x) ih)
    go false e ih =
        let h = ltb-false i n e in
        let m : n - i ≡ 0 = omega arith in
        let z : n - (i + 1) ≡ 0 = omega arith in
        rw m (ih ∙ ap (λ (k : ℕ). take k l) z)

held_used : (i : ℕ) (l : List PortId) → in_use taken i l ≡ held l
held_used i [] = refl
held_used i (p ∷ l) = go (same_port p no_port) (held_used (i + 1) l)
  where
    go : (t : Bool) → in_use taken (i + 1) l ≡ held l → cond (not t) (p ∷ in_use taken (i + 1) l) (in_use taken (i + 1) l) ≡ cond t (held l) (p ∷ held l)
    go true ih = ih
    go false ih = ap (λ (x : List PortId). p ∷ x) ih

-- a number within two bounds
bounds : (first last n : ℕ) → within first last n ≡ true → (first ≤ n) × (n ≤ last)
bounds first last n h = go (leb first n) refl h
  where
    go : (t : Bool) → leb first n ≡ t → (t && leb n last) ≡ true → (first ≤ n) × (n ≤ last)
    go true e k = (leb-true first n e, leb-true n last k)
    go false e k = never (sym k)

pub allocs_all
    : (n : ℕ) (ids : List AllocId) → length (alloc_numbers_lem n ids) ≡ 16
    → numbers_fit_lem (alloc_numbers_lem n ids) ≡ proper assignable_alloc same_alloc (take n ids)
unfolding alloc_numbers_lem
allocs_all n ids e =
    let z : n - 0 ≡ n = omega arith in
    let w : length ids ≡ 16 = sym (numbers-length (below n) assignable_alloc (λ (a : AllocId). a.0) 0 ids) ∙ e in
    numbers_fit _ e
    ∙ places (below n) assignable_alloc (λ (a : AllocId). a.0) (λ a h. omega (arith, (bounds 1024 16383 a.0 h).0)) (λ a h. omega (arith, (bounds 1024 16383 a.0 h).1)) 0 ids (omega arith)
    ∙ ap (proper assignable_alloc same_alloc) (first_used n 0 ids) ∙ rw z

pub ports_all : (ids : List PortId) → length ids ≡ 16 → numbers_fit_lem (port_numbers_lem ids) ≡ ports_fit_lem ids
unfolding port_numbers_lem ports_fit_lem
ports_all ids e =
    numbers_fit _ (numbers-length taken assignable_port (λ (p : PortId). p.0) 0 ids ∙ e)
    ∙ places taken assignable_port (λ (p : PortId). p.0) (λ p h. omega (arith, (bounds 1023 65534 p.0 h).0)) (λ p h. omega (arith, (bounds 1023 65534 p.0 h).1)) 0 ids (omega arith)
    ∙ ap (proper assignable_port same_port) (held_used 0 ids)
