-- `boundary::arrivals::put_counts` meets its contract.
use native.Mathlib.Omega.{arith}
use mathlib.Core.List.{[], ◌∷◌}
use lib.ListN.{length-set}
use lib.Seq.{sets-eq}
use Rattle.boundary.proofs.arrivals.put_counts.Goals as goal

pub bounds-counts-1 : goal.bounds-counts-1
bounds-counts-1 c = simp length-set (omega arith)

pub bounds-counts-2 : goal.bounds-counts-2
bounds-counts-2 c = simp length-set (omega arith)

pub returns : goal.returns
returns c = sets-eq (c.args.c.records ∷ (c.args.c.replies ∷ (c.args.c.bytes ∷ []))) c.args.counts.now 0 (omega arith)
