-- `boundary::counting::put_count` meets its contract.
use mathlib.Core.List.{[], ◌∷◌}
use native.Mathlib.Omega.{arith}
use lib.Seq.{sets-eq}
use Rattle.boundary.proofs.counting.put_count.Goals as goal

pub returns : goal.returns
returns c = sets-eq (c.args.n ∷ []) c.args.counts.now 0 (omega arith)
