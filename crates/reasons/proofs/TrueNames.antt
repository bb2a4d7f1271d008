-- Every structure of a map has its true name, and no other naming is true.
-- Assumes nothing.
use Prim.Native.Nat.{ℕ, suc, ◌<◌}
use mathlib.Core.Path.{◌≡◌, ◌∙◌, refl, sym, ap₂}
use mathlib.Core.List.{List, [], ◌∷◌}
use native.Mathlib.Omega.{arith}
use lib.ListN.{length, get_or}
use Rattle.entries.specs.declared.Own.{Own}
use Rattle.entries.specs.declared.Verdict.{Verdict}
use Rattle.entries.specs.declared.Verdict.TheVariants.{Silent}
use Rattle.series.specs.Series.{entry_count}
use Rattle.bwmap.specs.Verdicts.{verdicts}
use Rattle.reasons.specs.Facts.{Fact, in_order_lem}
use Rattle.reasons.specs.Names.{Naming, name_at, TrueName, TrueNames}
use Rattle.reasons.proofs.Firsts.{first_once}
use Rattle.reasons.proofs.Every.{names-every, names_dark}
use Rattle.reasons.proofs.Walked.{walk_true}

pub true_names : TrueNames verdicts
true_names =
    record {
      every = names-every;
      exact = λ own m carried i lies v. (told own m carried i lies v, given own m carried i lies v);
      dark = λ own m carried h. names_dark own m h carried;
    }
  where
    holds : (own : Own) (m : List ℕ) (carried i : ℕ) → i < entry_count m → TrueName own m carried i (name_at verdicts own m carried i)
    holds own m carried i lies = walk_true own m carried i (omega (arith, names-every own m carried))

    told : (own : Own) (m : List ℕ) (carried i : ℕ) → i < entry_count m → (v : Verdict) → name_at verdicts own m carried i ≡ v → TrueName own m carried i v
    told own m carried i lies v e = rw (← e) (holds own m carried i lies)

    given : (own : Own) (m : List ℕ) (carried i : ℕ) → i < entry_count m → (v : Verdict) → TrueName own m carried i v → name_at verdicts own m carried i ≡ v
    given own m carried i lies v f = first_once (Fact own m carried i) in_order_lem (name_at verdicts own m carried i) v (holds own m carried i lies) f

-- ---- and no other naming is true

same_elements : (l k : List Verdict) → length l ≡ length k → ((i : ℕ) → i < length l → get_or l i Silent ≡ get_or k i Silent) → l ≡ k
same_elements [] [] e f = refl
same_elements [] (w ∷ k) e f =
    let z : ⊥ = omega arith in
    absurd z
same_elements (v ∷ l) [] e f =
    let z : ⊥ = omega arith in
    absurd z
same_elements (v ∷ l) (w ∷ k) e f = ap₂ ◌∷◌ (f 0 (omega arith)) (same_elements l k (omega arith) (λ i h. f (suc i) (omega arith)))

pub names_once : (f g : Naming) → TrueNames f → TrueNames g → (own : Own) (m : List ℕ) (carried : ℕ) → f own m carried ≡ g own m carried
names_once f g x y own m carried = same_elements (f own m carried) (g own m carried) (x.every own m carried ∙ sym (y.every own m carried)) same
  where
    same : (i : ℕ) → i < length (f own m carried) → name_at f own m carried i ≡ name_at g own m carried i
    same i h =
        let lies : i < entry_count m = omega (arith, x.every own m carried) in
        sym ((y.exact own m carried i lies (name_at f own m carried i)).1 ((x.exact own m carried i lies (name_at f own m carried i)).0 refl))
