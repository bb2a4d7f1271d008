-- `bench_exports::message_checks::count_genuine` meets its contract: the count so far, with that of the messages still to come.
use mathlib.Core.Path.{◌≡◌}
use Prim.Native.Nat.{◌+◌, ◌-◌, ◌/◌, ◌≤◌}
use lib.ListN.{length}
use Rattle.messages.specs.Receiving.{messages_from, messages_in}
use Rattle.bench_exports.specs.Messages.{genuine_count_by}
use Rattle.bench_exports.proofs.message_checks.count_genuine.Given as goal

abbrev pub invariant-loop-i : goal.invariant-loop-i
invariant-loop-i l = (l.sum + genuine_count_by l.usual l.installed (messages_from l.messages l.i (length l.messages / 48 - l.i)) ≡ genuine_count_by l.usual l.installed (messages_in l.messages)) × (l.sum ≤ l.i)
