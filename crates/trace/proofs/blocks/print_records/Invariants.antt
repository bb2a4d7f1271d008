-- `trace::blocks::print_records` meets its contract.
use Rattle.std.proofs.Common.{◌≡◌, ℕ, ◌-◌, ◌*◌, ◌≤◌, List, length, drop}
use Rattle.trace.specs.declared.records.Printed.{Printed}
use Rattle.trace.specs.Records.{records}
use Rattle.trace.specs.Runs.{Shown}
use Rattle.trace.proofs.OneByOne.{shown_from}
use Rattle.trace.proofs.blocks.print_records.Given as goal

abbrev pub showing : Printed → List ℕ → List ℕ → List ℕ → List ℕ → List ℕ → Shown
showing p memory plan replies deliveries text =
    record {
      at = record { run = p.run; lent = record { memory = memory; plan = plan; replies = replies; deliveries = deliveries } };
      text = text;
      place = p.place;
    }

-- what is still to come shows what all of it showed from the start
abbrev pub invariant-loop-i : goal.invariant-loop-i
invariant-loop-i l = (l.p.place ≤ 126 * l.i)
    × (shown_from (showing l.p l.memory l.plan l.replies l.deliveries l.text) (records (l.count - l.i) (drop (l.i * 1024) l.input))
    ≡ shown_from (showing l.initial.p l.initial.memory l.initial.plan l.initial.replies l.initial.deliveries l.initial.text) (records l.count l.input))
    × (length l.memory ≡ length l.initial.memory)
    × (length l.plan ≡ length l.initial.plan)
    × (length l.replies ≡ length l.initial.replies)
    × (length l.deliveries ≡ length l.initial.deliveries)
    × (length l.text ≡ length l.initial.text)
