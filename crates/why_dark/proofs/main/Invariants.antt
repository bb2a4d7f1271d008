-- The input is not filled beyond its end.
use Rattle.std.proofs.Common.{◌≤◌}
use Rattle.why_dark.proofs.main.Given as goal

abbrev pub invariant-loop-turn : goal.invariant-loop-turn
invariant-loop-turn l = l.filled ≤ 135641
