-- `messages::inert::past_inert` meets its contract.
use mathlib.Core.Path.{◌≡◌}
use Prim.Native.Nat.{◌-◌, ◌/◌, ◌≤◌}
use lib.ListN.{length}
use Rattle.messages.specs.Inert.{past_inert_lem}
use Rattle.std.proofs.Common.{max}
use Rattle.messages.proofs.inert.past_inert.Given as goal

abbrev pub invariant-loop-i : goal.invariant-loop-i
invariant-loop-i l = (l.n ≡ length l.messages / 48) × (past_inert_lem l.onu l.full l.messages l.i (l.n - l.i) ≡ past_inert_lem l.onu l.full l.messages l.from (l.n - l.from)) × (l.i ≤ max l.from l.n)
