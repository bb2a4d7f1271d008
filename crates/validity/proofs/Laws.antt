-- The tests of all places, one turn at a time.
-- Assumes nothing.
use Prim.Native.Nat.{ℕ, zero, suc, ◌+◌, ◌-◌, ◌<◌}
use mathlib.Core.Path.{◌≡◌, ◌∙◌, refl, sym, ap, ap₂}
use mathlib.Core.List.{List, ◌++◌, append-nil}
use mathlib.Core.Bool.{Bool, true, false, not, ◌&&◌, ◌||◌, cond, and_assoc}
use native.Mathlib.Omega.{arith}
use native.Mathlib.Numerals.{add-one}
use lib.ListN.{length, get_or, drop, drop_of_length-le}
use lib.Seq.{sets, sets-eq, drop-cons}
use lib.Dec.{eqb, leb}
use borrow.Author.Tests.{le-leb, eqb-true}
use Rattle.ids.specs.declared.PortId.{PortId}
use Rattle.ids.specs.Ids.{same_port}
use Rattle.ports.specs.Limits.{sdu_bytes}
use Rattle.ports.specs.Ports.{no_port}
use Rattle.validity.specs.Ranges.{every, numbers_from, times, equal_pairs_lem, partial_fits, slot_fits, partials_fit_lem, length_fits_lem, empty_fits}
use Rattle.validity.proofs.Places.{numbers-length}

-- ---- every number from i below n passes a test

pub every_turn
    : (f : ℕ → Bool) (i n : ℕ) (all fits : Bool) → i < n → fits ≡ f i
    → ((all && fits) && every f (i + 1) (n - (i + 1))) ≡ (all && every f i (n - i))
every_turn f i n all fits h e =
    let k : n - i ≡ suc (n - (i + 1)) = omega arith in
    rw (k, e) (and_assoc all (f i) (every f (i + 1) (n - (i + 1))))

-- ---- numbers counted from i on

pub pairs_turn
    : (k l : List ℕ) (i sum found : ℕ) → i < length k → found ≡ times (get_or k i 0) l
    → (sum + found) + equal_pairs_lem (drop (i + 1) k) l ≡ sum + equal_pairs_lem (drop i k) l
pairs_turn k l i sum found h e = rw (add-one i, drop-cons k i 0 h, e) (omega arith)

-- ---- the numbers of places set from i on

module _ {A : Type 0} (used : ℕ → A → Bool) (ok : A → Bool) (number : A → ℕ) where
  pub numbers_start : (ids : List A) (l : List ℕ) → length l ≡ length ids → sets l 0 (numbers_from used ok number 0 ids) ≡ numbers_from used ok number 0 ids
  numbers_start ids l e =
      let n : length (numbers_from used ok number 0 ids) ≡ length ids = numbers-length used ok number 0 ids in
      sets-eq (numbers_from used ok number 0 ids) l 0 (omega arith)
      ∙ ap (λ (r : List ℕ). numbers_from used ok number 0 ids ++ r) (drop_of_length-le l {i = 0 + length (numbers_from used ok number 0 ids)} (omega arith))
      ∙ append-nil (numbers_from used ok number 0 ids)

-- ---- a partial fits where its length does and its slot, if empty, has none

partial-both : (b : ℕ) (w e : Bool) → partial_fits b w e ≡ (partial_fits b w false && (not e || eqb b 0))
unfolding partial_fits
partial-both b w e = go w e (eqb b 0) (leb b sdu_bytes) (λ h. le-leb b sdu_bytes (omega (arith, eqb-true b 0 h)))
  where
    kept : (x : Bool) → x ≡ (x && true)
    kept true = refl
    kept false = refl

    go : (w e t u : Bool) → (t ≡ true → u ≡ true) → cond (w || e) t u ≡ (cond (w || false) t u && (not e || t))
    go true true true u h = refl
    go true true false u h = refl
    go true false t u h = kept t
    go false true true u h = rw (h refl)
    go false true false true h = refl
    go false true false false h = refl
    go false false t u h = kept u

slot_both
    : (ids : List PortId) (lengths : List ℕ) (waiting : List Bool) (i : ℕ)
    → slot_fits ids lengths waiting (i + 1) ≡ (length_fits_lem lengths waiting (i + 1) && empty_fits ids lengths i)
unfolding slot_fits length_fits_lem empty_fits
slot_both ids lengths waiting i =
    rw (add-one i) (partial-both (get_or lengths (suc i) 0) (get_or waiting (suc i) false) (same_port (get_or ids i no_port) no_port))

every-both
    : (f g h : ℕ → Bool) → ((i : ℕ) → f (i + 1) ≡ (g (i + 1) && h i)) → (i k : ℕ)
    → every f (i + 1) k ≡ (every g (i + 1) k && every h i k)
every-both f g h e i zero = refl
every-both f g h e i (suc k) =
    ap₂ ◌&&◌ (e i) (every-both f g h e (i + 1) k)
    ∙ swap (g (i + 1)) (h i) (every g (i + 1 + 1) k) (every h (i + 1) k)
  where
    swap : (a b c d : Bool) → ((a && b) && (c && d)) ≡ ((a && c) && (b && d))
    swap true true c d = refl
    swap true false true d = refl
    swap true false false d = refl
    swap false b c d = refl

-- slot 0 is never empty
pub partials_both
    : (ids : List PortId) (lengths : List ℕ) (waiting : List Bool)
    → partials_fit_lem ids lengths waiting ≡ (every (length_fits_lem lengths waiting) 0 17 && every (empty_fits ids lengths) 0 16)
unfolding partials_fit_lem slot_fits length_fits_lem
partials_both ids lengths waiting =
    ap (λ (x : Bool). length_fits_lem lengths waiting 0 && x)
    (every-both (slot_fits ids lengths waiting) (length_fits_lem lengths waiting) (empty_fits ids lengths) (slot_both ids lengths waiting) 0 16)
    ∙ sym (and_assoc (length_fits_lem lengths waiting 0) (every (length_fits_lem lengths waiting) 1 16) (every (empty_fits ids lengths) 0 16))
