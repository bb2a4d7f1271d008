-- `hec::protect::remainder_of` meets its contract: the sum is that over the bits that were passed, and left holds the others.
use Prim.Native.Nat.{◌-◌}
use mathlib.Core.Path.{◌≡◌}
use lib.Bits.{bit_xor}
use Rattle.bch.specs.Code.{place, remainder_from, remainder}
use Rattle.hec.proofs.protect.remainder_of.Given as goal

abbrev pub invariant-loop-value : goal.invariant-loop-value
invariant-loop-value l = bit_xor l.sum (remainder_from (63 - l.value-index) (place l.value-index) l.left) ≡ remainder l.code
