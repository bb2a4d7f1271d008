-- `bwmap::names::name_entries` meets its contract.
use mathlib.Core.Path.{◌≡◌}
use Prim.Native.Nat.{◌≤◌}
use lib.ListN.{length}
use lib.Seq.{sets}
use Rattle.series.specs.Series.{entry_count}
use Rattle.bwmap.specs.Names.{names_of}
use Rattle.bwmap.specs.Courses.{named_from, Steady}
use Rattle.bwmap.proofs.names.name_entries.Given as goal

abbrev pub invariant-loop-i : goal.invariant-loop-i
invariant-loop-i l = (l.i ≤ entry_count l.map) × (length l.names ≡ length l.initial.names) × Steady l.w l.i × (named_from l.own l.map l.names l.i l.w ≡ sets l.initial.names 0 (names_of l.own l.map l.carried))
