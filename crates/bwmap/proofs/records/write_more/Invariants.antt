-- `bwmap::records::write_more` meets its contract.
use mathlib.Core.Path.{◌≡◌}
use Prim.Native.Nat.{◌+◌, ◌-◌, ◌*◌, ◌≤◌}
use lib.ListN.{length}
use lib.Seq.{sets}
use Rattle.plan.specs.Plan.{more_numbers}
use Rattle.bwmap.specs.Turns.{allocations_from}
use Rattle.bwmap.proofs.records.write_more.Given as goal

abbrev pub invariant-loop-k : goal.invariant-loop-k
invariant-loop-k l = (l.k ≤ l.count) × (length l.plan ≡ length l.initial.plan) × (sets l.plan (l.at + 4 * l.k) (more_numbers l.h (allocations_from l.map (l.from + l.k) (l.count - l.k))) ≡ sets l.initial.plan l.at (more_numbers l.h (allocations_from l.map l.from l.count)))
