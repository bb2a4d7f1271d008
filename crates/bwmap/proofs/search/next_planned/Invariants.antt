-- `bwmap::search::next_planned` meets its contract.
use Prim.Native.Nat.{◌≤◌}
use Rattle.series.specs.Series.{entry_count}
use Rattle.series.specs.Opens.{Modest}
use Rattle.bwmap.specs.Turns.{Stage}
use Rattle.bwmap.proofs.search.next_planned.Given as goal

abbrev pub invariant-loop-i : goal.invariant-loop-i
invariant-loop-i l = (l.from ≤ l.i) × (l.i ≤ entry_count l.map) × Modest l.s × Stage l.own l.map l.around l.from l.i l.s
