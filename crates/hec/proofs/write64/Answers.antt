-- `hec::write64` meets its contract, by the law of `protected` at 51 data bits.
use Prim.Native.Nat.{◌%◌, ◌^◌}
use native.Mathlib.Omega.{arith}
use Rattle.hec.proofs.Protected.{protected-written}
use Rattle.hec.proofs.write64.Goals as goal

pub returns : goal.returns
returns c = rw c.protected.ensures (protected-written 51 (c.args.bits % 2 ^ 51) (omega arith) (omega arith))
