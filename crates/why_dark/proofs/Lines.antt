-- Structures, named and told one after another.
-- Assumes nothing.
use mathlib.Core.Path.{◌≡◌, refl, sym, ap, ◌∙◌}
use mathlib.Core.Bool.{true, false, cond}
use Rattle.std.specs.Prelude.{◌==◌}
use mathlib.Core.List.{List, [], ◌++◌}
use Prim.Native.Nat.{ℕ, suc, ◌+◌, ◌*◌, ◌-◌, ◌≤◌, ◌<◌}
use native.Mathlib.Omega.{arith}
use native.Mathlib.Numerals.{add-one}
use lib.ListN.{length, take, drop, get_or, length-drop, drop_of_length-le, get_or-eq_default}
use lib.Seq.{drop-cons, take_all}
use Rattle.text.specs.Texts.{Added, added}
use Rattle.text.proofs.Adding.{added_next, added_none}
use Rattle.xgem.specs.Reads.{Found, short}
use Rattle.xgtc.specs.declared.allocation.Allocation.{Allocation}
use Rattle.xgtc.specs.Reads.{read_allocation_lem}
use Rattle.why_dark.specs.Words.{names, name_of, no_structures, labelled}
use Rattle.why_dark.specs.Report.{line_of, structure, lines_from, lines}

past : (n k : ℕ) → k ≤ n → (n ≡ k → ⊥) → suc k ≤ n
past n k h e = omega (arith, h, e)

-- there are eleven names
module _ (n : ℕ) (a : n ≡ 0 → ⊥) (b : n ≡ 1 → ⊥) (c : n ≡ 2 → ⊥) (d : n ≡ 3 → ⊥) (e : n ≡ 4 → ⊥) (f : n ≡ 5 → ⊥) (g : n ≡ 6 → ⊥) (h : n ≡ 7 → ⊥)
    (i : n ≡ 8 → ⊥) (j : n ≡ 9 → ⊥) (k : n ≡ 10 → ⊥) where
  pub nameless : name_of n ≡ []
  unfolding name_of
  nameless =
      let four : 4 ≤ n = past n 3 (past n 2 (past n 1 (past n 0 (omega arith) a) b) c) d in
      let eight : 8 ≤ n = past n 7 (past n 6 (past n 5 (past n 4 four e) f) g) h in
      get_or-eq_default names [] (past n 10 (past n 9 (past n 8 eight i) j) k)

-- a number told is what it is
pub told_as : (label l : List ℕ) (at n m : ℕ) (y : Added) → y ≡ added l at (labelled label n) → n ≡ m → y ≡ added l at (labelled label m)
told_as label l at n m y e h = e ∙ ap (λ k. added l at (labelled label k)) h

-- ---- a structure by its number

pub structure-past : (f : List ℕ) (i : ℕ) → length f < 4 + 8 * i → short ≡ structure f i
unfolding structure
structure-past f i h = ap read_allocation_lem (sym (drop_of_length-le f {i = 4 + 8 * i} (omega arith)))

pub structure-ahead : (f : List ℕ) (i : ℕ) (found : Found Allocation)
    → found ≡ read_allocation_lem (take (length f - (4 + 8 * i)) (drop (4 + 8 * i) f))
    → found ≡ structure f i
unfolding structure
structure-ahead f i found e = e ∙ ap read_allocation_lem (take_all (length f - (4 + 8 * i)) (drop (4 + 8 * i) f) (simp length-drop (omega arith)))

-- ---- one line after another

-- a turn of the loop
pub lines-turn : (f l : List ℕ) (i : ℕ) (found : Found Allocation) (x y all : Added) → i < length l → found ≡ structure f i
    → y ≡ added x.text x.place (line_of i (get_or l i 0) found)
    → added x.text x.place (lines_from f i (drop i l)) ≡ all
    → added y.text y.place (lines_from f (i + 1) (drop (i + 1) l)) ≡ all
lines-turn f l i found x y all h s e g =
    let line : List ℕ = line_of i (get_or l i 0) (structure f i) in
    added_next x.text x.place line (lines_from f (i + 1) (drop (i + 1) l)) y _
    (e ∙ ap (λ z. added x.text x.place (line_of i (get_or l i 0) z)) s)
    refl
    ∙ ap (λ k. added x.text x.place (line ++ lines_from f (i + 1) (drop k l))) (add-one i)
    ∙ ap (λ z. added x.text x.place (lines_from f i z)) (sym (drop-cons l i 0 h))
    ∙ g

-- the loop's end
pub lines_end : (f l : List ℕ) (i : ℕ) (x all : Added) → length l ≤ i → added x.text x.place (lines_from f i (drop i l)) ≡ all → x ≡ all
lines_end f l i x all h g = added_none x ∙ ap (λ z. added x.text x.place (lines_from f i z)) (sym (drop_of_length-le l {i = i} h)) ∙ g

-- ---- none, or some

pub none_told : (f l : List ℕ) → (length l == 0) ≡ true → no_structures ≡ lines f l
none_told f l h = ap (λ b. cond b no_structures (lines_from f 0 l)) (sym h)

pub some-told : (f l : List ℕ) → (length l == 0) ≡ false → lines_from f 0 l ≡ lines f l
some-told f l h = ap (λ b. cond b no_structures (lines_from f 0 l)) (sym h)
