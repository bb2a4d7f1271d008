-- A number is one name's: no two names have the same. So the numbers that are given are those of the true names.
-- Assumes nothing.
use Prim.Native.Nat.{ℕ, zero, suc, ◌<◌}
use mathlib.Core.Path.{◌≡◌, ◌∙◌, refl, sym, ap}
use mathlib.Core.Bool.{cond}
use mathlib.Core.List.{List, [], ◌∷◌}
use lib.Dec.{eqb}
use lib.ListN.{length, get_or}
use Rattle.entries.specs.declared.Own.{Own}
use Rattle.entries.specs.declared.Verdict.{Verdict}
use Rattle.entries.specs.declared.Verdict.TheVariants.{Planned, Unreadable, StartTimeUnfit, DbruWithoutRoom, Foreign, ContinuingNothing, Seventeenth, TooLong, Overlapping, AfterTheLast, Silent}
use Rattle.entries.specs.Names.{name_number}
use Rattle.series.specs.Series.{entry_count}
use Rattle.bwmap.specs.Verdicts.{verdicts}
use Rattle.reasons.specs.Names.{name_at, TrueName}
use Rattle.bwmap.specs.Names.{name_numbers, names_of}
use Rattle.reasons.specs.Numbers.{TrueNumbers}
use Rattle.reasons.proofs.TrueNames.{true_names}

-- the name of a number
abbrev name_by : ℕ → Verdict
name_by n =
    cond (eqb n 0) Planned (cond (eqb n 1) Unreadable (cond (eqb n 2) StartTimeUnfit (cond (eqb n 3) DbruWithoutRoom (cond (eqb n 4) Foreign (cond (eqb n 5) ContinuingNothing (cond (eqb n 6) Seventeenth (cond (eqb n 7) TooLong (cond (eqb n 8) Overlapping (cond (eqb n 9) AfterTheLast Silent)))))))))

by_number : (v : Verdict) → name_by (name_number v) ≡ v
by_number Planned = refl
by_number Unreadable = refl
by_number StartTimeUnfit = refl
by_number DbruWithoutRoom = refl
by_number Foreign = refl
by_number ContinuingNothing = refl
by_number Seventeenth = refl
by_number TooLong = refl
by_number Overlapping = refl
by_number AfterTheLast = refl
by_number Silent = refl

pub name_number_once : (v w : Verdict) → name_number v ≡ name_number w → v ≡ w
name_number_once v w e = sym (by_number v) ∙ ap name_by e ∙ by_number w

-- ---- the numbers that are given

numbers-length : (l : List Verdict) → length (name_numbers l) ≡ length l
numbers-length [] = refl
numbers-length (v ∷ l) = ap suc (numbers-length l)

number_at : (l : List Verdict) (i : ℕ) (v : Verdict) → get_or (name_numbers l) i (name_number v) ≡ name_number (get_or l i v)
number_at [] i v = refl
number_at (w ∷ l) zero v = refl
number_at (w ∷ l) (suc i) v = number_at l i v

pub true_numbers : TrueNumbers names_of
true_numbers =
    record {
      every = λ own m carried. numbers-length (verdicts own m carried) ∙ true_names.every own m carried;
      exact = λ own m carried i lies v. (told own m carried i lies v, given own m carried i lies v);
    }
  where
    told
        : (own : Own) (m : List ℕ) (carried i : ℕ) → i < entry_count m → (v : Verdict) → get_or (names_of own m carried) i (name_number Silent) ≡ name_number v
        → TrueName own m carried i v
    told own m carried i lies v e =
        (true_names.exact own m carried i lies v).0 (name_number_once (name_at verdicts own m carried i) v (sym (number_at (verdicts own m carried) i Silent) ∙ e))

    given
        : (own : Own) (m : List ℕ) (carried i : ℕ) → i < entry_count m → (v : Verdict) → TrueName own m carried i v
        → get_or (names_of own m carried) i (name_number Silent) ≡ name_number v
    given own m carried i lies v t = number_at (verdicts own m carried) i Silent ∙ ap name_number ((true_names.exact own m carried i lies v).1 t)
