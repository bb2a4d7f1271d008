-- `trace::blocks::turn` meets its contract.
use Rattle.std.proofs.Common.{arith}
use Rattle.trace.specs.Runs.{At}
use Rattle.trace.proofs.Turns.{turned_made}
use Rattle.trace.proofs.blocks.turn.Goals as goal

pub overflow_mul-used : goal.overflow_mul-used
overflow_mul-used c = omega (arith, c.requires.0, c.ranges.filled.fits)

pub print_records-p-requires : goal.print_records-p-requires
print_records-p-requires c = (omega (arith, c.requires.0), c.requires.1)

pub move_to_front-requires : goal.move_to_front-requires
move_to_front-requires c = (omega arith, c.requires.0)

pub shape_of-input : goal.shape_of-input
shape_of-input c = c.move_to_front.auto.input

pub shape_of-memory : goal.shape_of-memory
shape_of-memory c = c.print_records-p.auto.memory

pub shape_of-plan : goal.shape_of-plan
shape_of-plan c = c.print_records-p.auto.plan

pub shape_of-replies : goal.shape_of-replies
shape_of-replies c = c.print_records-p.auto.replies

pub shape_of-deliveries : goal.shape_of-deliveries
shape_of-deliveries c = c.print_records-p.auto.deliveries

pub shape_of-text : goal.shape_of-text
shape_of-text c = c.print_records-p.auto.text

pub returns : goal.returns
returns c =
    let a = c.args in
    let p : At = record { run = a.run; lent = record { memory = a.memory.now; plan = a.plan.now; replies = a.replies.now; deliveries = a.deliveries.now } } in
    (turned_made p a.input.now a.text.now _ a.filled _ c.requires.0 c.print_records-p.ensures.0 c.move_to_front.ensures, omega arith, c.print_records-p.ensures.1)
