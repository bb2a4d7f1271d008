-- `replies::write_each` meets its contract.
use mathlib.Core.Path.{◌≡◌}
use Prim.Native.Nat.{◌-◌, ◌*◌, ◌≤◌, ◌<◌, ◌^◌}
use lib.ListN.{length}
use Rattle.replies.specs.Replies.{Keyed, replies_from}
use Rattle.replies.proofs.write_each.Given as goal

abbrev pub invariant-loop-i : goal.invariant-loop-i
invariant-loop-i l = (length l.replies ≡ length l.initial.replies) × (48 * l.n ≤ length l.initial.replies) × (l.n < 2 ^ 63) × (l.i ≤ l.n) × (Keyed l.usual l.installed l.next.link.key) × (replies_from l.next l.delay l.replies l.i (l.n - l.i) ≡ replies_from l.initial.next l.delay l.initial.replies 0 l.n)
