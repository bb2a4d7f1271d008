-- Lists whose elements are in range and distinct stay so: where one more comes in, and where one goes.
-- Assumes nothing.
use Prim.Native.Nat.{ℕ, zero, suc, ◌+◌, ◌-◌, ◌≤◌, ◌<◌}
use mathlib.Core.Path.{◌≡◌, ◌∙◌, refl, sym, ap}
use mathlib.Core.List.{List, [], ◌∷◌, ◌++◌}
use mathlib.Core.Bool.{Bool, true, false, ◌&&◌, ◌||◌, not, cond, false≢true}
use native.Mathlib.Omega.{arith}
use lib.ListN.{length, get_or, take, drop, set}
use lib.Seq.{take-append-le}
use Rattle.std.specs.Prelude.{Some, ℕ}
use Rattle.ids.specs.Places.{place_from, some, is_held}
use Rattle.link.specs.Lists.{close_up}
use Rattle.validity.specs.Ranges.{proper, every}
use Rattle.validity.proofs.Tests.{both, join, neither, nor, not_so, so_not}

-- ---- a place is held where one of them passes

pub found_some : {A : Type 0} (f : A → Bool) (i : ℕ) (l : List A) → is_held (place_from f i l) ≡ some f l
found_some f i [] = refl
found_some f i (a ∷ l) = go (f a) (found_some f (i + 1) l)
  where
    go
        : (b : Bool) → is_held (place_from f (i + 1) l) ≡ some f l
        → is_held (cond b (Some i) (place_from f (i + 1) l)) ≡ (b || some f l)
    go true e = refl
    go false e = e

-- ---- one more at the end

some_snoc : {A : Type 0} (f : A → Bool) (l : List A) (a : A) → some f l ≡ false → f a ≡ false → some f (l ++ (a ∷ [])) ≡ false
some_snoc f [] a p q = rw q
some_snoc f (x ∷ l) a p q = let n = neither (f x) (some f l) p in nor (f x) _ n.0 (some_snoc f l a n.1 q)

module _ {A : Type 0} (ok : A → Bool) (same : A → A → Bool) (symmetric : (x y : A) → same x y ≡ same y x) where
  pub proper-snoc
      : (l : List A) (a : A) → proper ok same l ≡ true → ok a ≡ true → some (same a) l ≡ false → proper ok same (l ++ (a ∷ [])) ≡ true
  proper-snoc [] a p o n = rw o
  proper-snoc (x ∷ l) a p o n =
      let q = both (ok x) (not (some (same x) l) && proper ok same l) p in
      let r = both (not (some (same x) l)) (proper ok same l) q.1 in
      let m = neither (same a x) (some (same a) l) n in
      join (ok x) _ q.0
      (join (not (some (same x) (l ++ (a ∷ [])))) _
      (so_not _ (some_snoc (same x) l a (not_so _ r.0) (symmetric x a ∙ m.0)))
      (proper-snoc l a r.1 o m.1))

-- ---- one less

abbrev pub without : {A : Type 0} → ℕ → List A → List A
without i l = take i l ++ drop (suc i) l

some-without : {A : Type 0} (f : A → Bool) (i : ℕ) (l : List A) → some f l ≡ false → some f (without i l) ≡ false
some-without f zero [] p = refl
some-without f (suc i) [] p = refl
some-without f zero (x ∷ l) p = (neither (f x) (some f l) p).1
some-without f (suc i) (x ∷ l) p = let n = neither (f x) (some f l) p in nor (f x) _ n.0 (some-without f i l n.1)

pub proper-without
    : {A : Type 0} (ok : A → Bool) (same : A → A → Bool) (i : ℕ) (l : List A) → proper ok same l ≡ true → proper ok same (without i l) ≡ true
proper-without ok same zero [] p = refl
proper-without ok same (suc i) [] p = refl
proper-without ok same zero (x ∷ l) p = (both (not (some (same x) l)) _ (both (ok x) _ p).1).1
proper-without ok same (suc i) (x ∷ l) p =
    let q = both (ok x) (not (some (same x) l) && proper ok same l) p in
    let r = both (not (some (same x) l)) (proper ok same l) q.1 in
    join (ok x) _ q.0
    (join (not (some (same x) (without i l))) _ (so_not _ (some-without (same x) i l (not_so _ r.0))) (proper-without ok same i l r.1))

-- what a list that closes up holds in its first places
pub closed_up
    : {A : Type 0} (blank : A) (i n : ℕ) (l : List A) → i < n → n ≤ length l → take (n - 1) (close_up blank i l) ≡ without i (take n l)
closed_up blank i zero l h k = absurd (omega arith)
closed_up blank i (suc n) [] h k = absurd (omega arith)
closed_up blank zero (suc n) (x ∷ l) h k =
    let e : suc n - 1 ≡ n = omega arith in
    rw e (take-append-le n l (blank ∷ []) (omega arith))
closed_up blank (suc i) (suc zero) (x ∷ l) h k = absurd (omega arith)
closed_up {A} blank (suc i) (suc (suc n)) (x ∷ l) h k =
    let e : suc (suc n) - 1 ≡ suc n = omega arith in
    let g : suc i + 1 ≡ suc (i + 1) = omega arith in
    let m : suc n - 1 ≡ n = omega arith in
    rw (e, g) (ap (λ (r : List A). x ∷ r) (rw m at (closed_up blank i (suc n) l (omega arith) (omega arith))))
