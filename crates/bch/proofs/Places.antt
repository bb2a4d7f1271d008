-- The places that an entry of the table of flips names, as bits of a word.
-- Assumes nothing.
use mathlib.Core.Path.{◌≡◌, sym, ap, ap₂, ◌∙◌, subst}
use mathlib.Core.Bool.{Bool, true, false, cond}
use Prim.Native.Nat.{ℕ, suc, ◌+◌, ◌*◌, ◌/◌, ◌^◌, ◌≤◌, ◌<◌}
use native.Mathlib.Nat.{add-zero, pow-suc}
use native.Mathlib.Decide.{dec_lt}
use native.Mathlib.Omega.{arith}
use borrow.Author.Tests.{lt-ltb}
use lib.Dec.{ltb, lit<, lit≤}
use lib.Pow.{pow_pos, pow-lt, shl_exact}
use lib.Bits.{bit_xor, xor_lt}
use lib.Count.{ones, ones_cat, ones-ones}
use lib.ListN.{get_or}
use Rattle.bch.specs.Code.{remainder}
use Rattle.bch.specs.Tables.{first_place_lem, second_place, bit_of, bits_of}
use Rattle.bch.proofs.Xor.{xor_half}
use Rattle.bch.proofs.Ones.{ones_xor_le}
use Rattle.bch.proofs.Linear.{rem_zero, rem_xor}
use Rattle.bch.proofs.Patterns.{rem_one}
use Rattle.bch.proofs.RemainderRule.{remainders, rule}

-- the remainder of a place, and how many bits it is: 63 is none
abbrev pub remainder_of_lem : ℕ → ℕ
remainder_of_lem k = cond (ltb k 63) (get_or remainders k 0) 0

abbrev count_of : ℕ → ℕ
count_of k = cond (ltb k 63) 1 0

record Placed (k : ℕ) : Type 0 where
  within : bit_of k < 2 ^ 64
  one : ones (bit_of k) ≡ count_of k
  leaves : remainder (bit_of k / 2) ≡ remainder_of_lem k

placed : (k : ℕ) → k < 64 → Placed k
placed k h = go (dec_lt k 63)
  where
    go : Dec (k < 63) → Placed k
    go (yes l) =
        let e : bit_of k ≡ 1 * 2 ^ suc k = shl_exact {a = 2} 2 k 64 (lit< tt) (omega arith) ∙ omega (arith, pow-suc 2 k) in
        let half : 1 * 2 ^ suc k / 2 ≡ 1 * 2 ^ k = omega (arith, pow-suc 2 k) in
        record {
          within = rw e (omega (arith, pow-lt {i = suc k} {j = 64} (omega arith)));
          one = rw (e, lt-ltb k 63 l) (ap ones (sym (add-zero (1 * 2 ^ suc k))) ∙ ones_cat (suc k) 1 0 (pow_pos (suc k)) ∙ ap₂ ◌+◌ (ones-ones 1) (ones-ones 0));
          leaves = rw (e, half, lt-ltb k 63 l) (rem_one k l ∙ sym (rule k l));
        }
    go (no l) =
        let e : k ≡ 63 = omega arith in
        subst Placed (sym e) (record { within = lit< tt; one = ones-ones 0; leaves = rem_zero 63 1 })

count_le : (k : ℕ) → count_of k ≤ 1
count_le k = go (ltb k 63)
  where
    go : (b : Bool) → cond b 1 0 ≤ 1
    go true = lit≤ tt
    go false = lit≤ tt

module _ (v : ℕ) where
  abbrev i : ℕ
  i = first_place_lem v

  abbrev j : ℕ
  j = second_place v

  first : Placed i
  first = placed i (omega arith)

  second : Placed j
  second = placed j (omega arith)

  pub bits_within : bits_of v < 2 ^ 64
  bits_within = xor_lt 64 (bit_of i) (bit_of j) first.within second.within

  pub bits_few : ones (bits_of v) ≤ 2
  bits_few = omega (arith, ones_xor_le (bit_of i) (bit_of j), first.one, second.one, count_le i, count_le j)

  pub bits_leave : remainder (bits_of v / 2) ≡ bit_xor (remainder_of_lem i) (remainder_of_lem j)
  bits_leave = ap remainder (xor_half (bit_of i) (bit_of j)) ∙ rem_xor 63 1 (bit_of i / 2) (bit_of j / 2) ∙ ap₂ bit_xor first.leaves second.leaves
