-- `hec::protect::syndrome` meets its contract.
use Prim.Native.Nat.{◌/◌}
use native.Mathlib.Omega.{arith}
use Rattle.bch.proofs.Range.{remainder_lt}
use Rattle.hec.proofs.protect.syndrome.Goals as goal

pub overflow_add-result : goal.overflow_add-result
overflow_add-result c = omega (arith, c.remainder_of.ensures, remainder_lt (c.args.word / 2))
