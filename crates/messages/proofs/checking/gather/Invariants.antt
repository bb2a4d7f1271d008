-- `messages::checking::gather` meets its contract.
use mathlib.Core.Path.{◌≡◌}
use Prim.Native.Nat.{◌+◌, ◌/◌, ◌≤◌}
use lib.ListN.{length}
use Rattle.messages.specs.Checking.{Gathered}
use Rattle.messages.proofs.checking.gather.Given as goal

abbrev pub invariant-loop-p : goal.invariant-loop-p
invariant-loop-p l = (Gathered l.usual l.messages l.base l.i l.places l.count) × (length l.places ≡ 8) × (l.end ≤ l.base + 64) × (l.end ≤ length l.messages / 48) × (l.base ≤ l.p)
