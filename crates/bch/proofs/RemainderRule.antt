-- The rule of the 63 remainders, by one test that antt computes: each entry is the one before it, doubled.
-- Assumes nothing.
use mathlib.Core.Path.{◌≡◌, ap, sym, ◌∙◌}
use mathlib.Core.Bool.{Bool, true, ◌&&◌}
use mathlib.Core.List.{List, [], ◌∷◌}
use Prim.Native.Nat.{ℕ, zero, suc, ◌+◌, ◌<◌}
use native.Mathlib.Nat.{add-zero, zero-add, add-suc, suc-add, le_of_suc-le-suc, not-suc-le-zero}
use lib.Dec.{T, eqb, eqb→eq}
use lib.ListN.{length, get_or}
use Rattle.bch.specs.Code.{double, place}
use Rattle.bch.specs.Tables.{Remainders}
use Rattle.bch.proofs.Both.{left, right}

-- each entry is p, and then p doubled
abbrev doubling : ℕ → List ℕ → Bool
doubling p [] = true
doubling p (x ∷ xs) = eqb x p && doubling (double p) xs

from : (xs : List ℕ) (i : ℕ) → T (doubling (place i) xs) → (k : ℕ) → k < length xs → get_or xs k 0 ≡ place (i + k)
unfolding place
from [] i t k h = absurd (not-suc-le-zero h)
from (x ∷ xs) i t zero h = eqb→eq x (place i) (left (eqb x (place i)) (doubling (place (suc i)) xs) t) ∙ ap place (sym (add-zero i))
from (x ∷ xs) i t (suc k) h =
    from xs (suc i) (right (eqb x (place i)) (doubling (place (suc i)) xs) t) k (le_of_suc-le-suc h)
    ∙ ap place (suc-add i k ∙ sym (add-suc i k))

abbrev pub remainders : List ℕ
remainders =
    0x001 ∷ 0x002 ∷ 0x004 ∷ 0x008 ∷ 0x010 ∷ 0x020 ∷ 0x040 ∷ 0x080 ∷ 0x100 ∷ 0x200 ∷ 0x400 ∷ 0x800 ∷
    0x539 ∷ 0xa72 ∷ 0x1dd ∷ 0x3ba ∷ 0x774 ∷ 0xee8 ∷ 0x8e9 ∷ 0x4eb ∷ 0x9d6 ∷ 0x695 ∷ 0xd2a ∷ 0xf6d ∷
    0xbe3 ∷ 0x2ff ∷ 0x5fe ∷ 0xbfc ∷ 0x2c1 ∷ 0x582 ∷ 0xb04 ∷ 0x331 ∷ 0x662 ∷ 0xcc4 ∷ 0xcb1 ∷ 0xc5b ∷
    0xd8f ∷ 0xe27 ∷ 0x977 ∷ 0x7d7 ∷ 0xfae ∷ 0xa65 ∷ 0x1f3 ∷ 0x3e6 ∷ 0x7cc ∷ 0xf98 ∷ 0xa09 ∷ 0x12b ∷
    0x256 ∷ 0x4ac ∷ 0x958 ∷ 0x789 ∷ 0xf12 ∷ 0xb1d ∷ 0x303 ∷ 0x606 ∷ 0xc0c ∷ 0xd21 ∷ 0xf7b ∷ 0xbcf ∷
    0x2a7 ∷ 0x54e ∷ 0xa9c ∷
    []

pub rule : Remainders remainders
unfolding place
rule k h = from remainders 0 tt k h ∙ ap place (zero-add k)
