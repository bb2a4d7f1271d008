-- Less than a record is kept.
use Rattle.std.proofs.Common.{◌≤◌}
use Rattle.trace.proofs.main.Given as goal

abbrev pub invariant-loop-turn : goal.invariant-loop-turn
invariant-loop-turn l = l.kept ≤ 1023
