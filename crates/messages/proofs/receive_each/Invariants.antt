-- `messages::receive_each` meets its contract.
use mathlib.Core.Path.{◌≡◌}
use Prim.Native.Nat.{◌<◌, ◌^◌, ◌-◌, ◌/◌, ◌≤◌}
use lib.ListN.{length}
use Rattle.messages.specs.Receiving.{messages_from, received_each_by}
use Rattle.messages.specs.Checking.{verdict_at, Known}
use Rattle.messages.proofs.receive_each.Given as goal

abbrev pub invariant-loop-i : goal.invariant-loop-i
invariant-loop-i l = (l.n ≡ length l.messages / 48) × (received_each_by l.usual l.installed l.next (messages_from l.messages l.i (l.n - l.i)) ≡ received_each_by l.usual l.installed l.initial.next (messages_from l.messages l.first (l.n - l.first))) × (l.n < 2 ^ 64) × (l.base ≤ l.i) × (Known (verdict_at l.usual l.installed l.messages) l.base l.marks)

abbrev pub decreases-loop-i : goal.decreases-loop-i
decreases-loop-i l = l.n - l.i
