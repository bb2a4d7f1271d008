-- A remainder has twelve bits.
-- Assumes nothing.
use mathlib.Core.Path.{◌≡◌}
use Prim.Native.Nat.{ℕ, zero, suc, ◌+◌, ◌-◌, ◌*◌, ◌/◌, ◌%◌, ◌^◌, ◌<◌}
use native.Mathlib.Nat.{zero-mul, one-mul}
use native.Mathlib.Decide.{dec_lt}
use native.Mathlib.Omega.{arith}
use borrow.Author.Tests.{lt-ltb, le-ltb}
use lib.Dec.{lit<}
use lib.Bits.{xor_lt, xor_block}
use Rattle.bch.specs.Code.{double, place, remainder_from, remainder}
use Rattle.bch.proofs.Xor.{bit}

pub double_lt : (p : ℕ) → p < 4096 → double p < 4096
double_lt p h = go (dec_lt (p * 2) 4096)
  where
    go : Dec (p * 2 < 4096) → double p < 4096
    go (yes l) = rw (lt-ltb (p * 2) 4096 l) l
    go (no n) =
        let r : ℕ = p * 2 - 4096 in
        let e : p * 2 ≡ 1 * 2 ^ 12 + r = omega arith in
        rw (le-ltb (p * 2) 4096 (omega arith), e, xor_block 12 1 1 r 0x539 (omega arith) (lit< tt)) (omega (arith, xor_lt 12 r 0x539 (omega arith) (lit< tt)))

pub place_lt : (k : ℕ) → place k < 4096
unfolding place
place_lt zero = lit< tt
place_lt (suc k) = double_lt (place k) (place_lt k)

pub bit_times_lt : (b p : ℕ) → b < 2 → p < 4096 → b * p < 4096
bit_times_lt zero p hb h = rw (zero-mul p) (lit< tt)
bit_times_lt (suc zero) p hb h = rw (one-mul p) h
bit_times_lt (suc (suc b)) p hb h = absurd (omega arith)

pub rem_lt : (n p w : ℕ) → p < 4096 → remainder_from n p w < 4096
unfolding remainder_from
rem_lt zero p w h = lit< tt
rem_lt (suc n) p w h = xor_lt 12 (w % 2 * p) (remainder_from n (double p) (w / 2)) (bit_times_lt (w % 2) p (bit w) h) (rem_lt n (double p) (w / 2) (double_lt p h))

pub remainder_lt : (w : ℕ) → remainder w < 4096
remainder_lt w = rem_lt 63 1 w (lit< tt)
