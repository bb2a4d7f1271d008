-- `hec::write32` meets its contract, by the law of `protected` at 19 data bits.
use Prim.Native.Nat.{◌%◌, ◌^◌}
use native.Mathlib.Omega.{arith}
use Rattle.hec.proofs.Protected.{protected-written}
use Rattle.hec.proofs.write32.Goals as goal

pub overflow_cast-result : goal.overflow_cast-result
overflow_cast-result c = omega (arith, c.protected.ensures, (protected-written 19 (c.args.bits % 2 ^ 19) (omega arith) (omega arith)).true.fits)

pub returns : goal.returns
returns c = rw c.protected.ensures (protected-written 19 (c.args.bits % 2 ^ 19) (omega arith) (omega arith))
