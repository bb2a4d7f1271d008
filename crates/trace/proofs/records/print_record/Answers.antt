-- `trace::records::print_record` meets its contract.
use Rattle.std.proofs.Common.{arith}
use Rattle.frame.specs.Given.{lending}
use Rattle.trace.specs.Runs.{At}
use Rattle.trace.proofs.Steps.{stopped_step, lost_step, frame_step, bad_step, frame_whole}
use Rattle.trace.proofs.records.print_record.Goals.{Start}
use Rattle.trace.proofs.records.print_record.Goals as goal

abbrev at-start : Start → At
at-start c =
    let a = c.args in
    record { run = a.run; lent = lending a.memory.now a.plan.now a.replies.now a.deliveries.now }

pub returns-then-run : goal.returns-then-run
returns-then-run c =
    let a = c.args in
    (stopped_step (at-start (goal.at.returns-then-run c).Start) a.octets.now a.text.now a.place c.if-run.true, omega arith)

pub slice_bounds-frame-start : goal.slice_bounds-frame-start
slice_bounds-frame-start c = omega (arith, frame_whole c.args.octets.now c.kind_of.result c.kind_of.ensures c.in-Frame.is)

pub slice_bounds-frame-count : goal.slice_bounds-frame-count
slice_bounds-frame-count c = omega (arith, frame_whole c.args.octets.now c.kind_of.result c.kind_of.ensures c.in-Frame.is)

pub print_outcome-requires-in-Frame : goal.print_outcome-requires-in-Frame
print_outcome-requires-in-Frame c = c.requires

pub returns-in-Lost : goal.returns-in-Lost
returns-in-Lost c =
    let a = c.args in
    let e = c.print_outcome.ensures in
    (lost_step (at-start (goal.at.returns-in-Lost c).Start) a.octets.now c.kind_of.result c.if-run.false c.kind_of.ensures a.text.now _ a.place _ _ c.in-Lost.is c.lost-o.result c.none.result c.lost-o.ensures c.none.ensures e.0 e.1 e.2, e.3)

pub returns-in-Frame : goal.returns-in-Frame
returns-in-Frame c =
    let a = c.args in
    let e = c.print_outcome-in-Frame.ensures in
    (frame_step (at-start (goal.at.returns-in-Frame c).Start) a.octets.now c.kind_of.result c.if-run.false c.kind_of.ensures a.text.now _ a.place _ _ c.in-Frame.is c.frame-r.result _ c.frame-r.ensures e.0 e.1 e.2, e.3)

pub returns-in-Bad : goal.returns-in-Bad
returns-in-Bad c =
    let a = c.args in
    let e = c.put_bad-next.ensures in
    (bad_step (at-start (goal.at.returns-in-Bad c).Start) a.octets.now c.kind_of.result c.if-run.false c.kind_of.ensures a.text.now _ a.place _ _ c.in-Bad.is c.stop.ensures e.0 e.1, e.2)
