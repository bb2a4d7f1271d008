-- Where a run stops, and what stands behind it.
-- Assumes nothing.
use Prim.Native.Nat.{ℕ, zero, suc, ◌≤◌, zero-le}
use mathlib.Core.Path.{◌≡◌, refl}
use mathlib.Core.List.{List, [], ◌∷◌}
use native.Mathlib.Omega.{arith}
use lib.ListN.{length, drop}
use Rattle.xgtc.specs.declared.allocation.Allocation.{Allocation}
use Rattle.entries.specs.declared.Verdict.{Verdict}
use Rattle.entries.specs.declared.Standing.{Standing}
use Rattle.entries.specs.declared.Standing.TheVariants.{Apart, Head, More}
use Rattle.series.specs.Series.{run, series_of}

pub run_nil : (k : ℕ) → run k [] ≡ []
run_nil zero = refl
run_nil (suc k) = refl

pub run_head : (k : ℕ) (a : Allocation) (l : List Standing) → run k (Head a ∷ l) ≡ []
run_head zero a l = refl
run_head (suc k) a l = refl

pub run-apart : (k : ℕ) (v : Verdict) (l : List Standing) → run k (Apart v ∷ l) ≡ []
run-apart zero v l = refl
run-apart (suc k) v l = refl

pub run_length : (k : ℕ) (l : List Standing) → (length (run k l) ≤ length l) × (length (run k l) ≤ k)
run_length zero l = (zero-le, zero-le)
run_length (suc k) [] = (zero-le, zero-le)
run_length (suc k) (Apart v ∷ l) = (zero-le, zero-le)
run_length (suc k) (Head a ∷ l) = (zero-le, zero-le)
run_length (suc k) (More a ∷ l) =
    let ih = run_length k l in
    (omega arith, omega arith)

-- what continues a series begins none
pub series-drop : (k : ℕ) (l : List Standing) → series_of (drop (length (run k l)) l) ≡ series_of l
series-drop zero l = refl
series-drop (suc k) [] = refl
series-drop (suc k) (Apart v ∷ l) = refl
series-drop (suc k) (Head a ∷ l) = refl
series-drop (suc k) (More a ∷ l) = series-drop k l
