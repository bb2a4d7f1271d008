-- `stretches::search::next_delivery` meets its contract: no frame up to the present one has delivered.
use mathlib.Core.Path.{◌≡◌, sym, ap, ◌∙◌}
use native.Mathlib.Omega.{arith}
use borrow.Author.Rules.{rules}
use lib.ListN.{length, drop}
use Rattle.ports.specs.declared.Ports.{Ports}
use Rattle.ports.specs.Limits.{added_ports}
use Rattle.ports.specs.Ports.{ports_of}
use Rattle.payload.specs.declared.frames.Next.TheVariants.{Frame}
use Rattle.payload.specs.Frames.{next_of}
use Rattle.payload.proofs.Walks.{Numbers, numbers_of, rest_part}
use Rattle.stretches.proofs.Listing.{passed_start, passed-done, passed_lost, passed_on, passed-met}
use Rattle.stretches.proofs.search.next_delivery.Goals.{After-next_frame, At-loop-x, In-Frame, Start}
use Rattle.stretches.proofs.search.next_delivery.Goals as goal

ids : (c : Start) → length c.args.ids ≡ added_ports
ids c = search rules

-- the ports at first, and as they are by now
abbrev before : (c : Start) → Ports
before c = ports_of c.args.ids c.args.lengths.now c.args.waiting.now

abbrev so_far : (c : At-loop-x) → Ports
so_far c = ports_of c.args.ids c.loop-x.lengths c.loop-x.waiting

-- what the code finds next is what the parse finds
next : (c : After-next_frame) → c.next_frame.result ≡ next_of (drop c.loop-x.at c.args.frame.now)
next c = c.next_frame.ensures.0 ∙ ap next_of (rest_part c.args.frame.now c.loop-x.at)

-- the frame that was found, and its numbers
framed : (c : In-Frame) → next_of (drop c.loop-x.at c.args.frame.now) ≡ Frame c.in-Frame.x
framed c = sym (c.next_frame.ensures.0 ∙ ap next_of (rest_part c.args.frame.now c.loop-x.at)) ∙ c.in-Frame.is

numbers : (c : In-Frame) → Numbers c.args.frame.now c.loop-x.at c.in-Frame.x.pli
numbers c =
    let i = rw c.in-Frame.is at c.next_frame.ensures.1 in
    numbers_of c.args.frame.now c.loop-x.at c.in-Frame.x.pli i.0 i.1 c.loop-x.invariant.0.inside c.loop-x.invariant.1

pub loop-x-init : goal.loop-x-init
loop-x-init c = (passed_start c.args.own c.args.frame.now (before (goal.at.loop-x-init c).Start) c.args.from (ids (goal.at.loop-x-init c).Start) c.requires, omega arith)

pub slice_bounds-next_frame-count : goal.slice_bounds-next_frame-count
slice_bounds-next_frame-count c = omega (arith, c.loop-x.invariant.0.inside)

pub returns-in-Done : goal.returns-in-Done
returns-in-Done c = passed-done c.args.own c.args.frame.now (before (goal.at.returns-in-Done c).Start) c.args.from (so_far (goal.at.returns-in-Done c).At-loop-x) c.loop-x.at c.loop-x.invariant.0 (sym (next (goal.at.returns-in-Done c).After-next_frame) ∙ c.in-Done.is)

pub returns-in-Lost : goal.returns-in-Lost
returns-in-Lost c = passed_lost c.args.own c.args.frame.now (before (goal.at.returns-in-Lost c).Start) c.args.from (so_far (goal.at.returns-in-Lost c).At-loop-x) c.loop-x.at c.loop-x.invariant.0 (sym (next (goal.at.returns-in-Lost c).After-next_frame) ∙ c.in-Lost.is)

pub overflow_add-body : goal.overflow_add-body
overflow_add-body c = omega (arith, numbers (c))

pub overflow_add-at : goal.overflow_add-at
overflow_add-at c = omega (arith, numbers (goal.at.overflow_add-at c).In-Frame, c.payload_size.ensures)

pub loop-x-smaller : goal.loop-x-smaller
loop-x-smaller c = omega (arith, numbers (goal.at.loop-x-smaller c).In-Frame, c.payload_size.ensures)

pub loop-x-preserved : goal.loop-x-preserved
loop-x-preserved c = (rw c.payload_size.ensures (passed_on c.args.own c.args.frame.now (before (goal.at.loop-x-preserved c).Start) c.args.from (so_far (goal.at.loop-x-preserved c).At-loop-x) c.loop-x.at c.loop-x.invariant.0 c.in-Frame.x (framed (goal.at.loop-x-preserved c).In-Frame) _ c.take-brought.ensures.0 _ c.take-brought.ensures.1 c.in-None.is), c.loop-x.invariant.1)

pub returns-in-Some : goal.returns-in-Some
returns-in-Some c = rw c.payload_size.ensures (passed-met c.args.own c.args.frame.now (before (goal.at.returns-in-Some c).Start) c.args.from (so_far (goal.at.returns-in-Some c).At-loop-x) c.loop-x.at c.loop-x.invariant.0 c.in-Frame.x (framed (goal.at.returns-in-Some c).In-Frame) _ c.take-brought.ensures.0 _ c.take-brought.ensures.1 _ c.in-Some.is)
