-- A test that every place of a range passes, and each of them.
-- Assumes nothing.
use Prim.Native.Nat.{ℕ, zero, suc, ◌+◌, ◌<◌}
use mathlib.Core.Path.{◌≡◌, refl}
use mathlib.Core.Bool.{Bool, true}
use native.Mathlib.Omega.{arith}
use Rattle.validity.specs.Ranges.{every}
use Rattle.validity.proofs.Tests.{both, join}

module _ (f : ℕ → Bool) where
  pub every_get : (i k : ℕ) → every f i k ≡ true → (d : ℕ) → d < k → f (i + d) ≡ true
  every_get i zero e d q = absurd (omega arith)
  every_get i (suc k) e zero q =
      let z : i + 0 ≡ i = omega arith in
      rw z (both (f i) (every f (i + 1) k) e).0
  every_get i (suc k) e (suc d) q =
      let z : i + suc d ≡ i + 1 + d = omega arith in
      rw z (every_get (i + 1) k (both (f i) (every f (i + 1) k) e).1 d (omega arith))

  pub every_make : (i k : ℕ) → ((d : ℕ) → d < k → f (i + d) ≡ true) → every f i k ≡ true
  every_make i zero h = refl
  every_make i (suc k) h =
      let z : i + 0 ≡ i = omega arith in
      join (f i) _ (rw z at (h 0 (omega arith)))
      (every_make (i + 1) k (λ d q. let w : i + 1 + d ≡ i + suc d = omega arith in rw w (h (suc d) (omega arith))))
