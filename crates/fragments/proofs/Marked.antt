-- What the sum of the marks says of the first place.
-- Assumes nothing.
use mathlib.Core.Path.{◌≡◌, refl, ap, ◌∙◌}
use mathlib.Core.Bool.{Bool, true, false, cond}
use mathlib.Core.List.{List, [], ◌∷◌}
use Prim.Native.Nat.{ℕ, ◌+◌, ◌-◌, ◌≤◌, ◌<◌}
use native.Mathlib.Omega.{arith}
use Rattle.std.specs.Prelude.{None, Some}
use Rattle.ids.specs.Places.{place_from}
use Rattle.fragments.specs.Marks.{marks}

module _ {A : Type 0} (f : A → Bool) where
  pub marks_none : (l : List A) (i : ℕ) → marks f i l < 256 → (marks f i l ≡ 0) × (place_from f i l ≡ None)
  marks_none [] i h = (refl, refl)
  marks_none (a ∷ l) i h = go (f a) (marks_none l (i + 1)) h
    where
      go : (b : Bool) → (marks f (i + 1) l < 256 → (marks f (i + 1) l ≡ 0) × (place_from f (i + 1) l ≡ None)) → cond b (256 + i) 0 + marks f (i + 1) l < 256
          → (cond b (256 + i) 0 + marks f (i + 1) l ≡ 0) × (cond b (Some i) (place_from f (i + 1) l) ≡ None)
      go true k h = absurd (omega arith)
      go false k h = let n = k (omega arith) in (omega (arith, n.0), n.1)

  -- one mark alone is that of the first place
  pub marks-one : (l : List A) (i : ℕ) → 256 ≤ marks f i l → marks f i l < 512 → place_from f i l ≡ Some (marks f i l - 256)
  marks-one [] i h k = absurd (omega arith)
  marks-one (a ∷ l) i h k = go (f a) (marks-one l (i + 1)) h k
    where
      m : ℕ
      m = marks f (i + 1) l

      go : (b : Bool) → (256 ≤ m → m < 512 → place_from f (i + 1) l ≡ Some (m - 256)) → 256 ≤ cond b (256 + i) 0 + m → cond b (256 + i) 0 + m < 512
          → cond b (Some i) (place_from f (i + 1) l) ≡ Some (cond b (256 + i) 0 + m - 256)
      go true n h k = ap Some (omega (arith, (marks_none l (i + 1) (omega arith)).0))
      go false n h k = n (omega arith) (omega arith) ∙ ap Some (omega arith)
