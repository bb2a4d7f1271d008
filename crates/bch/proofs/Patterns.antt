-- A single one has the check value of its place.
-- Assumes nothing.
use mathlib.Core.Path.{◌≡◌, sym, ap, ◌∙◌}
use Prim.Native.Nat.{ℕ, zero, suc, ◌+◌, ◌*◌, ◌^◌, ◌<◌}
use native.Mathlib.Nat.{one-mul, zero-mul, pow-suc, add-zero, add-suc, suc-add, zero-add, le_of_suc-le-suc, not-suc-le-zero, mul-div_cancel, mul-mod_left}
use native.Mathlib.Omega.{arith}
use lib.Dec.{lit<}
use lib.Bits.{xor_zero_r}
use Rattle.bch.specs.Code.{remainder_from, double, place, remainder}
use Rattle.bch.proofs.Linear.{rem_zero}

rem_power : (n k i : ℕ) → i < n → remainder_from n (place k) (1 * 2 ^ i) ≡ place (k + i)
unfolding remainder_from place
rem_power zero k i h = absurd (not-suc-le-zero h)
rem_power (suc n) k zero h =
    rw (one-mul (place k), rem_zero n (double (place k)), xor_zero_r (place k), add-zero k)
rem_power (suc n) k (suc i) h =
    let e : 1 * 2 ^ suc i ≡ 1 * 2 ^ i * 2 = omega (arith, pow-suc 2 i) in
    rw (e, mul-mod_left (1 * 2 ^ i) 2, mul-div_cancel (1 * 2 ^ i) (lit< tt), zero-mul (place k))
    (rem_power n (suc k) i (le_of_suc-le-suc h) ∙ ap place (suc-add k i ∙ sym (add-suc k i)))

pub rem_one : (i : ℕ) → i < 63 → remainder (1 * 2 ^ i) ≡ place i
unfolding place
rem_one i h = rem_power 63 0 i h ∙ ap place (zero-add i)
