-- Comparing the integrity field with ==, and what equal means.
-- Assumes nothing.
use mathlib.Core.Path.{◌≡◌, ◌∙◌, refl, ap, ap₂}
use mathlib.Core.Bool.{Bool, true, false, ◌&&◌}
use mathlib.Core.List.{List, [], ◌∷◌}
use Prim.Native.Nat.{ℕ}
use native.Mathlib.Omega.{arith}
use lib.Dec.{eqb}
use borrow.Author.Tests.{eq-eqb, eqb-true}
use Rattle.std.specs.Cmp.Lexicographic.{pointwise}
use Rattle.integrity.specs.Integrity.{same}

-- what == says of slices
pub by_octets : (xs ys : List ℕ) → pointwise eqb xs ys ≡ same xs ys
unfolding same
by_octets [] [] = refl
by_octets [] (y ∷ ys) = refl
by_octets (x ∷ xs) [] = refl
by_octets (x ∷ xs) (y ∷ ys) = ap (λ (b : Bool). eqb x y && b) (by_octets xs ys)

pub same_refl : (xs : List ℕ) → same xs xs ≡ true
unfolding same
same_refl [] = refl
same_refl (x ∷ xs) = ap (λ (b : Bool). b && same xs xs) (eq-eqb x x refl) ∙ same_refl xs

left_true : (a b : Bool) → (a && b) ≡ true → a ≡ true
left_true true b e = refl
left_true false b e = e

pub right_true : (a b : Bool) → (a && b) ≡ true → b ≡ true
right_true true b e = e
right_true false b e = let z : ◌≡◌ {A = ℕ} 0 1 = cc in absurd (omega arith)

-- nothing but an equal list is the same
pub same-equal : (xs ys : List ℕ) → same xs ys ≡ true → xs ≡ ys
unfolding same
same-equal [] [] e = refl
same-equal [] (y ∷ ys) e = let z : ◌≡◌ {A = ℕ} 0 1 = cc in absurd (omega arith)
same-equal (x ∷ xs) [] e = let z : ◌≡◌ {A = ℕ} 0 1 = cc in absurd (omega arith)
same-equal (x ∷ xs) (y ∷ ys) e =
    ap₂ ◌∷◌ (eqb-true x y (left_true (eqb x y) (same xs ys) e)) (same-equal xs ys (right_true (eqb x y) (same xs ys) e))
