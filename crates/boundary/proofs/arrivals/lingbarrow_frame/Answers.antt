-- `boundary::arrivals::lingbarrow_frame` meets its contract.
use Rattle.frame.specs.Given.{Arrival, Lent, arriving, lending}
use borrow.Author.Tests.{le-leb, lt-leb}
use Rattle.boundary.specs.Frames.{frame_on}
use Rattle.boundary.proofs.Laws.{is-held, is_unread, no_room, frame-held, frame-unread}
use Rattle.boundary.proofs.arrivals.lingbarrow_frame.Goals.{Start}
use Rattle.boundary.proofs.arrivals.lingbarrow_frame.Goals as goal

abbrev arrived : Start → Arrival
arrived c = arriving c.args.frame.now c.args.random_delay

abbrev buffers : Start → Lent
buffers c = lending c.args.memory.now c.args.plan.now c.args.replies.now c.args.deliveries.now

pub returns-then-counts-lt-COUNTS : goal.returns-then-counts-lt-COUNTS
unfolding frame_on
returns-then-counts-lt-COUNTS c = rw (lt-leb _ _ c.if-counts-lt-COUNTS.true) (λ j. record { answer = no_room c.args.state.now c.args.frame.now c.args.counts.now 3 _ c.if-counts-lt-COUNTS.true c.opened.ensures j; state = c.args.state.now; counts = c.args.counts.now; lent = lending c.args.memory.now c.args.plan.now c.args.replies.now c.args.deliveries.now })

pub returns-in-Ok : goal.returns-in-Ok
unfolding frame_on
returns-in-Ok c = rw (le-leb _ _ c.if-counts-lt-COUNTS.false) (frame-held c.args.state.now (arrived (goal.at.returns-in-Ok c).Start) c.args.counts.now (buffers (goal.at.returns-in-Ok c).Start) c.in-Ok.s c.frame-r.result _ _ _ _ (is-held c.args.state.now c.read_state.result c.read_state.ensures _ c.in-Ok.is) c.frame-r.ensures c.put_back.ensures.0 c.put_back.ensures.1 c.put_counts.ensures)

pub returns-in-Err : goal.returns-in-Err
unfolding frame_on
returns-in-Err c = rw (le-leb _ _ c.if-counts-lt-COUNTS.false) (frame-unread c.args.state.now (arrived (goal.at.returns-in-Err c).Start) c.args.counts.now (buffers (goal.at.returns-in-Err c).Start) _ _ _ c.none.result (is_unread c.args.state.now c.read_state.result c.read_state.ensures _ c.in-Err.is) c.unread.ensures c.none.ensures c.put_counts-in-Err.ensures)
