-- `payload::walk::walk_frames` meets its contract: at each turn what is still to come leaves what the whole payload leaves.
use mathlib.Core.Path.{◌≡◌, sym, ap, ◌∙◌}
use mathlib.Core.List.{List}
use Prim.Native.Nat.{ℕ, ◌+◌, ◌-◌}
use native.Mathlib.Omega.{arith}
use lib.ListN.{length, take, drop, length-take, length-drop}
use Rattle.ports.specs.Ports.{ports_of}
use Rattle.payload.specs.declared.walk.Received.{Received}
use Rattle.payload.specs.declared.frames.Next.TheVariants.{Frame}
use Rattle.payload.specs.Frames.{next_of}
use Rattle.payload.specs.Memory.{Receiver, receiver_of}
use Rattle.payload.specs.Walk.{Walked, ended_by}
use Rattle.payload.proofs.Steps.{ready_less}
use Rattle.payload.proofs.Walks.{At, Numbers, numbers_of, at-start, at_done, at_lost, at_turn, rest_part}
use Rattle.payload.proofs.walk.walk_frames.Goals.{After-next_frame-next, At-loop-lengths, In-Frame, Start}
use Rattle.payload.proofs.walk.walk_frames.Goals as goal

abbrev walked : List ℕ → List ℕ → Received → Walked
walked memory deliveries r = record { receiver = receiver_of r.ports r.bytes memory deliveries; delineation = r.delineation }

-- what the walk starts from, and what it has made of it
start : (c : Start) → Receiver
start c = receiver_of c.args.ports 0 c.args.memory.now c.args.deliveries.now

so_far : (c : At-loop-lengths) → Receiver
so_far c = receiver_of (ports_of c.args.ports.ids c.loop-lengths.lengths c.loop-lengths.waiting) c.loop-lengths.bytes c.loop-lengths.memory c.loop-lengths.deliveries

-- what the code finds next is what the parse finds
next : (c : After-next_frame-next) → c.next_frame-next.result ≡ next_of (drop c.loop-lengths.at c.args.payload.now)
next c =
    c.next_frame-next.ensures.0 ∙ ap next_of (rest_part c.args.payload.now c.loop-lengths.at)

-- the frame that was found, and its numbers
framed : (c : In-Frame) → next_of (drop c.loop-lengths.at c.args.payload.now) ≡ Frame c.in-Frame.x
framed c = sym (c.next_frame-next.ensures.0 ∙ ap next_of (rest_part c.args.payload.now c.loop-lengths.at)) ∙ c.in-Frame.is

numbers : (c : In-Frame) → Numbers c.args.payload.now c.loop-lengths.at c.in-Frame.x.pli
numbers c =
    let i = rw c.in-Frame.is at c.next_frame-next.ensures.1 in
    numbers_of c.args.payload.now c.loop-lengths.at c.in-Frame.x.pli i.0 i.1 c.loop-lengths.invariant.0.inside c.loop-lengths.invariant.1

pub loop-lengths-init : goal.loop-lengths-init
unfolding start
loop-lengths-init c = (at-start c.args.own c.args.place c.args.payload.now (start (goal.at.loop-lengths-init c).Start) c.requires, omega arith)

pub slice_bounds-next_frame-count : goal.slice_bounds-next_frame-count
slice_bounds-next_frame-count c = omega (arith, c.loop-lengths.invariant.0.inside)

pub shape_of-memory-in-Done : goal.shape_of-memory-in-Done
shape_of-memory-in-Done c = c.loop-lengths.invariant.0.memory

pub shape_of-deliveries-in-Done : goal.shape_of-deliveries-in-Done
shape_of-deliveries-in-Done c = c.loop-lengths.invariant.0.deliveries

pub returns-in-Done : goal.returns-in-Done
unfolding start so_far
returns-in-Done c =
    ap (walked c.loop-lengths.memory c.loop-lengths.deliveries) (rw c.of.ensures at c.kept.ensures)
    ∙ at_done c.args.own c.args.place c.args.payload.now (start (goal.at.returns-in-Done c).Start) (so_far (goal.at.returns-in-Done c).At-loop-lengths) c.loop-lengths.at c.loop-lengths.invariant.0 (sym (next (goal.at.returns-in-Done c).After-next_frame-next) ∙ c.in-Done.is)

pub shape_of-memory-in-Lost : goal.shape_of-memory-in-Lost
shape_of-memory-in-Lost c = c.loop-lengths.invariant.0.memory

pub shape_of-deliveries-in-Lost : goal.shape_of-deliveries-in-Lost
shape_of-deliveries-in-Lost c = c.loop-lengths.invariant.0.deliveries

pub returns-in-Lost : goal.returns-in-Lost
unfolding ended_by start so_far
returns-in-Lost c =
    ap (walked c.loop-lengths.memory c.loop-lengths.deliveries) (rw c.of-in-Lost.ensures at c.lost.ensures)
    ∙ at_lost c.args.own c.args.place c.args.payload.now (start (goal.at.returns-in-Lost c).Start) (so_far (goal.at.returns-in-Lost c).At-loop-lengths) c.loop-lengths.at c.loop-lengths.invariant.0 (sym (next (goal.at.returns-in-Lost c).After-next_frame-next) ∙ c.in-Lost.is)

pub overflow_add-body : goal.overflow_add-body
overflow_add-body c = omega (arith, numbers (goal.at.overflow_add-body c).In-Frame)

pub overflow_cast-end : goal.overflow_cast-end
overflow_cast-end c = omega (arith, numbers (goal.at.overflow_cast-end c).In-Frame)

pub overflow_add-end : goal.overflow_add-end
overflow_add-end c = omega (arith, numbers (goal.at.overflow_add-end c).In-Frame)

pub slice_bounds-take_frame-count : goal.slice_bounds-take_frame-count
slice_bounds-take_frame-count c = omega (arith, numbers (goal.at.slice_bounds-take_frame-count c).In-Frame)

pub take_frame-bytes-requires : goal.take_frame-bytes-requires
unfolding so_far
take_frame-bytes-requires c =
    let pay = c.args.payload.now in
    let at = c.loop-lengths.at in
    let n = numbers (goal.at.take_frame-bytes-requires c).In-Frame in
    let pli = c.in-Frame.x.pli in
    let size : length (take (at + 8 + pli - (at + 8)) (drop (at + 8) pay)) ≡ pli = omega (arith, length-take (at + 8 + pli - (at + 8)) (drop (at + 8) pay), length-drop (at + 8) pay) in
    record {
      ready = ready_less (so_far (goal.at.take_frame-bytes-requires c).At-loop-lengths) (length pay - at) _ c.loop-lengths.invariant.0.ready (omega arith);
      body_len_bound = omega arith;
    }

pub overflow_add-at : goal.overflow_add-at
overflow_add-at c = omega (arith, numbers (goal.at.overflow_add-at c).In-Frame, c.payload_size-size.ensures)

pub loop-lengths-smaller : goal.loop-lengths-smaller
loop-lengths-smaller c = omega (arith, numbers (goal.at.loop-lengths-smaller c).In-Frame, c.payload_size-size.ensures)

pub loop-lengths-preserved : goal.loop-lengths-preserved
unfolding start so_far
loop-lengths-preserved c = (
  rw c.payload_size-size.ensures
      (at_turn c.args.own c.args.place c.args.payload.now (start (goal.at.loop-lengths-preserved c).Start) (so_far (goal.at.loop-lengths-preserved c).At-loop-lengths) c.loop-lengths.at c.loop-lengths.invariant.0 c.in-Frame.x (framed (goal.at.loop-lengths-preserved c).In-Frame) _ c.take_frame-bytes.ensures),
  c.loop-lengths.invariant.1,
)
