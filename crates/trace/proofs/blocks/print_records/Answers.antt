-- `trace::blocks::print_records` meets its contract.
use Rattle.std.proofs.Common.{refl, ◌∙◌, arith}
use Rattle.trace.proofs.OneByOne.{block_start, block-turn, block_end}
use Rattle.trace.proofs.blocks.print_records.Invariants.{showing}
use Rattle.trace.proofs.blocks.print_records.Goals as goal

pub loop-i-init : goal.loop-i-init
loop-i-init c =
    let a = c.args in
    let s = showing (record { run = a.run; place = 0 }) a.memory.now a.plan.now a.replies.now a.deliveries.now a.text.now in
    (omega arith, block_start a.input.now a.count s, refl, refl, refl, refl, refl)

pub overflow_mul-from : goal.overflow_mul-from
overflow_mul-from c = omega (arith, c.loop-i-test.true, c.requires.0)

pub overflow_add-to : goal.overflow_add-to
overflow_add-to c = omega (arith, c.loop-i-test.true, c.requires.0)

pub slice_bounds-print_record-count : goal.slice_bounds-print_record-count
slice_bounds-print_record-count c = omega (arith, c.loop-i-test.true, c.requires.0)

pub print_record-p-requires : goal.print_record-p-requires
print_record-p-requires c = omega (arith, c.loop-i.invariant.0, c.loop-i.invariant.6, c.requires.1, c.loop-i-test.true)

pub loop-i-preserved : goal.loop-i-preserved
loop-i-preserved c =
    let l = c.loop-i in
    let k = c.print_record-p.auto in (
      omega (arith, c.print_record-p.ensures.1, l.invariant.0),
      block-turn c.args.input.now c.args.count l.i (showing l.p l.memory l.plan l.replies l.deliveries l.text) _ c.loop-i-test.true (omega (arith, l.invariant.0, l.invariant.6, c.requires.1, c.loop-i-test.true)) c.print_record-p.ensures.0 ∙ l.invariant.1,
      k.memory ∙ l.invariant.2,
      k.plan ∙ l.invariant.3,
      k.replies ∙ l.invariant.4,
      k.deliveries ∙ l.invariant.5,
      k.text ∙ l.invariant.6,
    )

pub shape_of-memory : goal.shape_of-memory
shape_of-memory c = c.loop-i.invariant.2

pub shape_of-plan : goal.shape_of-plan
shape_of-plan c = c.loop-i.invariant.3

pub shape_of-replies : goal.shape_of-replies
shape_of-replies c = c.loop-i.invariant.4

pub shape_of-deliveries : goal.shape_of-deliveries
shape_of-deliveries c = c.loop-i.invariant.5

pub shape_of-text : goal.shape_of-text
shape_of-text c = c.loop-i.invariant.6

pub returns : goal.returns
returns c =
    let l = c.loop-i in (
      block_end c.args.input.now c.args.count l.i (showing l.p l.memory l.plan l.replies l.deliveries l.text) _ c.loop-i-test.false l.invariant.1,
      omega (arith, l.invariant.0),
    )
