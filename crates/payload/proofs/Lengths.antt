-- The lengths of the partials: their sum, and that each stays within its slot.
-- Assumes nothing.
use mathlib.Core.Path.{◌≡◌}
use mathlib.Core.Bool.{true}
use mathlib.Core.List.{List, [], ◌∷◌}
use Prim.Native.Nat.{ℕ, zero, suc, ◌+◌, ◌*◌, ◌≤◌, ◌<◌, zero-le}
use native.Mathlib.Nat.{le_of_suc-le-suc, not-suc-le-zero}
use native.Mathlib.Omega.{arith}
use borrow.Author.Tests.{leb-true}
use lib.Dec.{leb}
use lib.ListN.{length, get_or, set}
use Rattle.bch.proofs.Both.{and_left, and_right}
use Rattle.ports.specs.Limits.{slot_bytes}
use Rattle.payload.specs.Walk.{all_within_lem}
use Rattle.payload.specs.Bounds.{total}

-- the sum of the partials
pub total-set : (l : List ℕ) (i v : ℕ) → i < length l → total (set l i v) + get_or l i 0 ≡ total l + v
unfolding total
total-set [] i v h = absurd (not-suc-le-zero h)
total-set (x ∷ xs) zero v h = omega arith
total-set (x ∷ xs) (suc i) v h = omega (arith, total-set xs i v (le_of_suc-le-suc h))

pub one_of_total : (l : List ℕ) (i : ℕ) → get_or l i 0 ≤ total l
unfolding total
one_of_total [] i = zero-le
one_of_total (x ∷ xs) zero = omega arith
one_of_total (x ∷ xs) (suc i) = omega (arith, one_of_total xs i)

pub lengths_set : (l : List ℕ) (i v : ℕ) → v ≤ slot_bytes → ((j : ℕ) → get_or l j 0 ≤ slot_bytes) → (j : ℕ) → get_or (set l i v) j 0 ≤ slot_bytes
lengths_set [] i v h k j = k j
lengths_set (x ∷ xs) zero v h k zero = h
lengths_set (x ∷ xs) zero v h k (suc j) = k (suc j)
lengths_set (x ∷ xs) (suc i) v h k zero = k zero
lengths_set (x ∷ xs) (suc i) v h k (suc j) = lengths_set xs i v h (λ m. k (suc m)) j

pub each_within : (l : List ℕ) → all_within_lem l ≡ true → (i : ℕ) → get_or l i 0 ≤ slot_bytes
each_within [] e i = zero-le
each_within (n ∷ l) e zero = leb-true n slot_bytes (and_left (leb n slot_bytes) (all_within_lem l) e)
each_within (n ∷ l) e (suc i) = each_within l (and_right (leb n slot_bytes) (all_within_lem l) e) i

pub total_le : (l : List ℕ) → ((i : ℕ) → get_or l i 0 ≤ slot_bytes) → total l ≤ length l * slot_bytes
unfolding total
total_le [] h = zero-le
total_le (n ∷ l) h = omega (arith, h 0, total_le l (λ i. h (suc i)))
