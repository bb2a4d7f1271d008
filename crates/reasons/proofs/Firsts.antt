-- The first of a list whose fact holds is one.
-- Assumes nothing.
use mathlib.Core.Path.{◌≡◌, ◌∙◌, sym}
use mathlib.Core.Logic.{inl, inr}
use mathlib.Core.List.{List, [], ◌∷◌}
use Rattle.entries.specs.declared.Verdict.{Verdict}
use Rattle.reasons.specs.Facts.{First}

pub first_once : (F : Verdict → Type 0) (l : List Verdict) (v w : Verdict) → First F l v → First F l w → v ≡ w
first_once F [] v w x y = absurd x
first_once F (u ∷ l) v w (inl x) (inl y) = x.0 ∙ sym y.0
first_once F (u ∷ l) v w (inl x) (inr y) = absurd (y.0 x.1)
first_once F (u ∷ l) v w (inr x) (inl y) = absurd (x.0 y.1)
first_once F (u ∷ l) v w (inr x) (inr y) = first_once F l v w x.1 y.1
