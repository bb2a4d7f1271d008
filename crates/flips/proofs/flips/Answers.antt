-- `flips::flips` meets its contract, by the rule of the table.
use Prim.Native.Nat.{◌%◌}
use native.Mathlib.Omega.{arith}
use Rattle.flips.proofs.FlipRule.{rule, flips}
use Rattle.flips.proofs.flips.Goals as goal

pub returns : goal.returns
unfolding flips
returns c = rule (c.args.syndrome % 4096) (omega arith)
