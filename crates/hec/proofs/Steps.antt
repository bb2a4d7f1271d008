-- The steps of the code that reads, over plain variables: what its tests show of the definitions.
-- Assumes nothing.
use mathlib.Core.Path.{◌≡◌, ap, ◌∙◌}
use native.Mathlib.Omega.{arith}
use Prim.Native.Nat.{ℕ, ◌+◌, ◌/◌, ◌%◌, ◌^◌, ◌≤◌, ◌<◌}
use borrow.Author.Tests.{le-leb, lt-leb, lt-ltb, le-ltb}
use lib.Bits.{bit_xor}
use Rattle.hec.specs.Reads.{Reading, word, unreadable}
use Rattle.bch.specs.Tables.{bits_of, counts_of}
use Rattle.hec.specs.Mends.{last_bit, mended_as, sent}

-- of 64 bits that were read, the 32 that were sent
pub sent_word : (v : ℕ) (x : Reading) → x ≡ word v → v < 2 ^ 32 → sent x ≡ word v
sent_word v x e h = ap sent e ∙ rw (lt-ltb v (2 ^ 32) h)

pub not_sent : (v : ℕ) (x : Reading) → x ≡ word v → 2 ^ 32 ≤ v → sent x ≡ unreadable
not_sent v x e h = ap sent e ∙ rw (le-ltb v (2 ^ 32) h)

-- the entry v for the syndrome s: how many code bits, and the bit of the parity
module _ (v w s : ℕ) where
  pub too_many : 2 < v / 4096 + s / 4096 % 2 → unreadable ≡ mended_as v w s
  too_many l = rw (lt-leb (counts_of v + last_bit v s) 2 (omega (arith, l)))

  last_is : (v / 4096 + s / 4096 % 2) % 2 ≡ last_bit v s
  last_is = omega arith

  pub few-enough : v / 4096 + s / 4096 % 2 ≤ 2 → word (bit_xor w (bit_xor (bits_of v) ((v / 4096 + s / 4096 % 2) % 2))) ≡ mended_as v w s
  few-enough l =
      ap (λ b. word (bit_xor w (bit_xor (bits_of v) b))) last_is
      ∙ rw (le-leb (counts_of v + last_bit v s) 2 (omega (arith, l)))
