-- Places in a list found one after another.
-- Assumes nothing.
use Prim.Native.Nat.{ℕ, suc, min, ◌+◌, ◌≤◌, ◌<◌}
use mathlib.Core.Path.{◌≡◌, ◌∙◌, ap, sym}
use mathlib.Core.List.{List, [], ◌∷◌}
use mathlib.Core.Bool.{Bool, true, false, cond}
use native.Mathlib.Omega.{arith}
use native.Mathlib.Numerals.{add-one}
use lib.ListN.{length, get_or, take, drop, length-take, drop_of_length-le}
use lib.Seq.{slice, get_or-take, drop-cons}
use Rattle.std.specs.Prelude.{None, Some}
use Rattle.ids.specs.Places.{place_from}

-- one turn of the look through the first n of a list
module _ {A : Type 0} (f : A → Bool) (i n : ℕ) (l : List A) (d : A) (h : i < n) (k : i < length l) where
  pub slice_next : slice i n l ≡ get_or l i d ∷ slice (suc i) n l
  slice_next =
      let e : i < length (take n l) = simp length-take (omega arith) in
      drop-cons (take n l) i d e ∙ ap (λ (a : A). a ∷ slice (suc i) n l) (get_or-take n l i d h)

  pub place_here : f (get_or l i d) ≡ true → Some i ≡ place_from f i (slice i n l)
  place_here e = rw (slice_next, e)

  pub place-next : f (get_or l i d) ≡ false → place_from f (i + 1) (slice (i + 1) n l) ≡ place_from f i (slice i n l)
  place-next e = rw (slice_next, e) (ap (λ (j : ℕ). place_from f (i + 1) (slice j n l)) (add-one i))

pub slice_past {ℓ} : {A : Type ℓ} (i n : ℕ) (l : List A) → min n (length l) ≤ i → slice i n l ≡ []
slice_past i n l h = drop_of_length-le (take n l) {i = i} (simp length-take (omega arith))

pub place_none
    : {A : Type 0} (f : A → Bool) (i n : ℕ) (l : List A) → min n (length l) ≤ i → None ≡ place_from f i (slice i n l)
place_none f i n l h = rw (slice_past i n l h)

-- a place that is found lies in the list
pub place-below : {A : Type 0} (f : A → Bool) (j : ℕ) (l : List A) (i : ℕ) → place_from f j l ≡ Some i → i < j + length l
place-below f j [] i e = let z : ◌≡◌ {A = ℕ} 0 1 = cc in omega arith
place-below f j (a ∷ l) i e = go (f a) e (place-below f (j + 1) l i)
  where
    go : (b : Bool) → cond b (Some j) (place_from f (j + 1) l) ≡ Some i → (place_from f (j + 1) l ≡ Some i → i < j + 1 + length l) → i < j + length (a ∷ l)
    go true e k = let z : j ≡ i = cc in omega arith
    go false e k = let z : i < j + 1 + length l = k e in omega arith

-- .. and in the first n of the list it came from
pub place-held
    : {A : Type 0} (f : A → Bool) (n : ℕ) (l : List A) (i : ℕ) → place_from f 0 (take n l) ≡ Some i → (i < n) × (i < length l)
place-held f n l i e =
    let h = place-below f 0 (take n l) i e in
    let k = simp length-take at h in
    (omega arith, omega arith)

-- one turn of the look through a whole list, whose element there is x
module _ {A : Type 0} (f : A → Bool) (i : ℕ) (l : List A) (x : A) (h : i < length l) (e : x ≡ get_or l i x) where
  pub place_hit : f x ≡ true → Some i ≡ place_from f i (drop i l)
  place_hit t = rw (drop-cons l i x h, sym e, t)

  pub place_miss : f x ≡ false → place_from f (i + 1) (drop (i + 1) l) ≡ place_from f i (drop i l)
  place_miss t = rw (drop-cons l i x h, sym e, t) (ap (λ (j : ℕ). place_from f (i + 1) (drop j l)) (add-one i))

pub place_past : {A : Type 0} (f : A → Bool) (i : ℕ) (l : List A) → length l ≤ i → None ≡ place_from f i (drop i l)
place_past f i l h = rw (drop_of_length-le l {i = i} h)
