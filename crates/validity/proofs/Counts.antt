-- Numbers are distinct where each is among them once: counted over all, as often as there are numbers.
-- Assumes nothing.
use Prim.Native.Nat.{ℕ, suc, ◌+◌, ◌≤◌}
use mathlib.Core.Path.{◌≡◌, ◌∙◌, refl, sym, ap}
use mathlib.Core.List.{List, [], ◌∷◌}
use mathlib.Core.Bool.{Bool, true, false, not, ◌&&◌, ◌||◌, cond}
use native.Mathlib.Omega.{arith}
use lib.ListN.{length}
use lib.Dec.{eqb}
use borrow.Author.Tests.{eqb-true, eqb-false, eq-eqb, ne_eqb}
use Rattle.ids.specs.Places.{some}
use Rattle.validity.specs.Ranges.{proper, is_unfit, times, equal_pairs_lem, numbers_fit_lem}

abbrev any : ℕ → Bool
any n = true

abbrev pub fit : ℕ → Bool
fit n = not (is_unfit n)

eqb_sym : (a b : ℕ) → eqb a b ≡ eqb b a
eqb_sym a b = go (eqb a b) refl
  where
    go : (t : Bool) → eqb a b ≡ t → t ≡ eqb b a
    go true e = sym (eq-eqb b a (sym (eqb-true a b e)))
    go false e = sym (ne_eqb b a (λ q. eqb-false a b e (sym q)))

times_none : (n : ℕ) (l : List ℕ) → some (eqb n) l ≡ false → times n l ≡ 0
times_none n [] h = refl
times_none n (m ∷ l) h = go (eqb n m) h (times_none n l)
  where
    go : (t : Bool) → (t || some (eqb n) l) ≡ false → (some (eqb n) l ≡ false → times n l ≡ 0) → cond t 1 0 + times n l ≡ 0
    go true e ih = let z : ◌≡◌ {A = Bool} true false = e in let y : ◌≡◌ {A = ℕ} 0 1 = cc in omega arith
    go false e ih = omega (arith, ih e)

times-some : (n : ℕ) (l : List ℕ) → some (eqb n) l ≡ true → 1 ≤ times n l
times-some n [] h = let y : ◌≡◌ {A = ℕ} 0 1 = cc in omega arith
times-some n (m ∷ l) h = go (eqb n m) h (times-some n l)
  where
    go : (t : Bool) → (t || some (eqb n) l) ≡ true → (some (eqb n) l ≡ true → 1 ≤ times n l) → 1 ≤ cond t 1 0 + times n l
    go true e ih = omega arith
    go false e ih = omega (arith, ih e)

pairs_cons : (n : ℕ) (k l : List ℕ) → equal_pairs_lem k (n ∷ l) ≡ times n k + equal_pairs_lem k l
pairs_cons n [] l = refl
pairs_cons n (m ∷ k) l =
    let e : ◌≡◌ {A = ℕ} (cond (eqb m n) 1 0) (cond (eqb n m) 1 0) = ap (λ (t : Bool). cond t 1 0) (eqb_sym m n) in
    omega (arith, pairs_cons n k l)

-- with itself, and with each of the others both ways
pairs_more : (n : ℕ) (l : List ℕ) → equal_pairs_lem (n ∷ l) (n ∷ l) ≡ suc (times n l + times n l + equal_pairs_lem l l)
pairs_more n l =
    let e : ◌≡◌ {A = ℕ} (cond (eqb n n) 1 0) 1 = ap (λ (t : Bool). cond t 1 0) (eq-eqb n n refl) in
    omega (arith, pairs_cons n l l)

pairs_least : (l : List ℕ) → length l ≤ equal_pairs_lem l l
pairs_least [] = omega arith
pairs_least (n ∷ l) = omega (arith, pairs_more n l, pairs_least l)

distinct_pairs : (l : List ℕ) → eqb (equal_pairs_lem l l) (length l) ≡ proper any eqb l
distinct_pairs [] = refl
distinct_pairs (n ∷ l) = go (some (eqb n) l) refl (proper any eqb l) (distinct_pairs l)
  where
    go
        : (t : Bool) → some (eqb n) l ≡ t → (p : Bool) → eqb (equal_pairs_lem l l) (length l) ≡ p
        → eqb (equal_pairs_lem (n ∷ l) (n ∷ l)) (length (n ∷ l)) ≡ (not t && p)
    go true e p q = ne_eqb (equal_pairs_lem (n ∷ l) (n ∷ l)) (length (n ∷ l)) (λ z. omega (arith, pairs_more n l, pairs_least l, times-some n l e))
    go false e true q = eq-eqb (equal_pairs_lem (n ∷ l) (n ∷ l)) (length (n ∷ l)) (omega (arith, pairs_more n l, times_none n l e, eqb-true (equal_pairs_lem l l) (length l) q))
    go false e false q = ne_eqb (equal_pairs_lem (n ∷ l) (n ∷ l)) (length (n ∷ l)) (λ z. eqb-false (equal_pairs_lem l l) (length l) q (omega (arith, pairs_more n l, times_none n l e)))

-- each is fit, and they are distinct
apart : (l : List ℕ) → (not (some is_unfit l) && proper any eqb l) ≡ proper fit eqb l
apart [] = refl
apart (n ∷ l) = go (is_unfit n) (some is_unfit l) (not (some (eqb n) l)) (proper any eqb l) (proper fit eqb l) (apart l)
  where
    go : (a b c d e : Bool) → (not b && d) ≡ e → (not (a || b) && (c && d)) ≡ (not a && (c && e))
    go true b c d e h = refl
    go false true c d e h = rw (sym h) (none c)
      where
        none : (x : Bool) → false ≡ (x && false)
        none true = refl
        none false = refl
    go false false c d e h = ap (λ (x : Bool). c && x) h

pub numbers_fit : (l : List ℕ) → length l ≡ 16 → numbers_fit_lem l ≡ proper fit eqb l
unfolding numbers_fit_lem
numbers_fit l e = rw (sym e) (ap (λ (x : Bool). not (some is_unfit l) && x) (distinct_pairs l) ∙ apart l)

-- ---- counted one after another: no sum is too large

pub times_most : (n : ℕ) (l : List ℕ) → times n l ≤ length l
times_most n [] = omega arith
times_most n (m ∷ l) = go (eqb n m) (times_most n l)
  where
    go : (t : Bool) → times n l ≤ length l → cond t 1 0 + times n l ≤ suc (length l)
    go true h = omega arith
    go false h = omega arith
