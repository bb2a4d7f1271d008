-- `boundary::arrivals::put_place` meets its contract.
use native.Mathlib.Omega.{arith}
use mathlib.Core.List.{[], ◌∷◌}
use lib.ListN.{length-set}
use lib.Seq.{sets-eq}
use Rattle.boundary.proofs.arrivals.put_place.Goals as goal

pub bounds-place-1 : goal.bounds-place-1
bounds-place-1 c = simp length-set (omega arith)

pub returns : goal.returns
returns c = sets-eq (c.args.at ∷ (c.args.bytes ∷ [])) c.args.place.now 0 (omega arith)
