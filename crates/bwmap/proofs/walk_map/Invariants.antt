-- `bwmap::walk_map` meets its contract.
use mathlib.Core.Path.{◌≡◌}
use Prim.Native.Nat.{◌-◌}
use lib.ListN.{length}
use Rattle.series.specs.Series.{entry_count}
use Rattle.bwmap.specs.Turns.{to_come, starting, Small}
use Rattle.bwmap.proofs.walk_map.Given as goal

abbrev pub invariant-loop-w : goal.invariant-loop-w
invariant-loop-w l = Small l.w × (length l.plan ≡ length l.initial.plan) × (to_come l.own l.map l.plan l.w ≡ to_come l.own l.map l.initial.plan (starting l.carried))

abbrev pub decreases-loop-w : goal.decreases-loop-w
decreases-loop-w l = entry_count l.map - l.w.at
