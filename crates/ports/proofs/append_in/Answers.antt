-- `ports::append_in` meets its contract.
use borrow.Author.Tests.{lt-ltb, le-ltb}
use Rattle.ports.specs.Limits.{slots}
use Rattle.ports.proofs.append_in.Goals as goal

pub returns-then-slot-lt-SLOTS : goal.returns-then-slot-lt-SLOTS
returns-then-slot-lt-SLOTS c = λ ids waiting. rw (lt-ltb c.args.slot slots c.if-slot-lt-SLOTS.true)

pub returns-else-slot-lt-SLOTS : goal.returns-else-slot-lt-SLOTS
returns-else-slot-lt-SLOTS c = λ ids waiting. rw (le-ltb c.args.slot slots c.if-slot-lt-SLOTS.false)
