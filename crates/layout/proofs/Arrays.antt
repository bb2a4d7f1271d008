-- An array whose elements are read one after another.
-- Assumes nothing.
use mathlib.Core.Path.{◌≡◌, sym, ap, ap₂, subst, ◌∙◌}
use mathlib.Core.List.{List, ◌∷◌}
use Prim.Native.Nat.{ℕ, zero, suc, ◌+◌, ◌*◌}
use native.Mathlib.Numerals.{add-one}
use native.Mathlib.Omega.{arith}
use denote.Param.Members.{Mut}
use lib.ListN.{length, drop, drop_of_length-le}
use lib.Seq.{drop-cons, drop-drop}
use Rattle.std.specs.Fn.{Called}
use Rattle.std.specs.Array.{IsFromFnResultFrom, IsFromFnResult}
use Rattle.layout.specs.Rows.{part, many}

module _ {F A : Type 0} (g : Mut F (ℕ × Unit {0}) A) (of : List ℕ → A) (w : ℕ) (c : List ℕ) (f : F)
    (step : (i : ℕ) (y : A) (q : F) → Called g f (i, tt) y q → (y ≡ of (part (w * i) w c)) × (q ≡ f)) where
  from : (n i : ℕ) (ys : List A) → length ys ≡ i + n → IsFromFnResultFrom g f ys i n → drop i ys ≡ many of w n (drop (w * i) c)
  from zero i ys e h = drop_of_length-le ys {i = i} (omega arith)
  from (suc n) i ys e (q, y, at, call, rest) =
      let s = step i y q call in
      let m : w * (i + 1) ≡ w * i + w = omega arith in
      drop-cons ys i y (omega arith)
      ∙ ap₂ ◌∷◌ (at.0 ∙ s.0)
      (ap (λ (k : ℕ). drop k ys) (sym (add-one i))
      ∙ from n (i + 1) ys (omega arith) (subst (λ (z : F). IsFromFnResultFrom g z ys (i + 1) n) s.1 rest)
      ∙ ap (many of w n) (ap (λ (k : ℕ). drop k c) m ∙ sym (drop-drop w (w * i) c)))

  pub many-called : (n : ℕ) (ys : List A) → IsFromFnResult g f ys n → ys ≡ many of w n c
  many-called n ys h =
      let z : w * 0 ≡ 0 = omega arith in
      from n 0 ys (omega (arith, h.long)) h.each ∙ ap (λ (k : ℕ). many of w n (drop k c)) z
