-- `frame::handle` meets its contract.
use Prim.Native.Nat.{◌-◌}
use native.Mathlib.Omega.{arith}
use lib.ListN.{length, drop, length-take, length-drop}
use Rattle.frame.specs.Given.{Arrival, Lent, arriving, lending}
use Rattle.frame.proofs.Laws.{Room, room, from-ends}
use Rattle.frame.proofs.handle.Goals.{Start}
use Rattle.frame.proofs.handle.Goals as goal

abbrev arrived : Start → Arrival
arrived c = arriving c.args.frame.now c.args.random_delay

abbrev buffers : Start → Lent
buffers c = lending c.args.memory.now c.args.plan.now c.args.replies.now c.args.deliveries.now

fitting : (c : Start) → Room (arrived c) (buffers c)
fitting c = room (arrived c) (buffers c) c.requires.2

pub plan_bursts-p-requires : goal.plan_bursts-p-requires
plan_bursts-p-requires c = (fitting (goal.at.plan_bursts-p-requires c).Start).plan

pub slice_bounds-receive_payload-count : goal.slice_bounds-receive_payload-count
slice_bounds-receive_payload-count c = omega (arith, c.header_end-end.ensures, c.requires.1)

pub receive_payload-r-requires : goal.receive_payload-r-requires
receive_payload-r-requires c =
    let f = c.args.frame.now in
    let e = c.header_end-end.result in
    (c.requires.0, (fitting (goal.at.receive_payload-r-requires c).Start).memory, omega (arith, (fitting (goal.at.receive_payload-r-requires c).Start).deliveries, length-take (length f - e) (drop e f), length-drop e f))

pub slice_bounds-receive_all-count : goal.slice_bounds-receive_all-count
slice_bounds-receive_all-count c = omega (arith, c.map_end-map.ensures, c.header_end-end.ensures)

pub shape_of-memory : goal.shape_of-memory
shape_of-memory c = c.memory-1.given

pub shape_of-plan : goal.shape_of-plan
shape_of-plan c = c.plan-1.given

pub shape_of-replies : goal.shape_of-replies
shape_of-replies c = c.replies-1.given

pub returns : goal.returns
returns c =
    let a = c.args in
    from-ends a.s a.h (arrived (goal.at.returns c).Start) (buffers (goal.at.returns c).Start)
    c.map_end-map.result c.header_end-end.result c.map_end-map.ensures c.header_end-end.ensures
    c.plan_bursts-p.result _ _ _ _ c.reply_all-sent.result c.receive_payload-r.result c.with_ports.result c.with_carried-found.result c.receive_all-acted.result c.is_ranging.result c.frame_end.result c.answer_to.result (fitting (goal.at.returns c).Start)
    c.plan_bursts-p.ensures.0 c.plan_bursts-p.ensures.1 c.reply_all-sent.ensures c.receive_payload-r.ensures c.with_ports.ensures c.with_carried-found.ensures c.receive_all-acted.ensures c.is_ranging.ensures c.frame_end.ensures c.answer_to.ensures
