-- `boundary::arrivals::lingbarrow_stretch` meets its contract.
use borrow.Author.Tests.{le-leb, lt-leb}
use Rattle.boundary.specs.Frames.{place_on}
use Rattle.boundary.proofs.Laws.{is-held, is_unread, no_room, place-held, place-unread}
use Rattle.boundary.proofs.arrivals.lingbarrow_stretch.Goals as goal

pub returns-then-place-lt-PLACE : goal.returns-then-place-lt-PLACE
unfolding place_on
returns-then-place-lt-PLACE c = rw (lt-leb _ _ c.if-place-lt-PLACE.true) (λ j. record { answer = no_room c.args.state.now c.args.frame.now c.args.place.now 2 _ c.if-place-lt-PLACE.true c.opened.ensures j; place = c.args.place.now })

pub returns-in-Ok : goal.returns-in-Ok
unfolding place_on
returns-in-Ok c = rw (le-leb _ _ c.if-place-lt-PLACE.false) (place-held c.args.state.now c.args.frame.now c.args.k c.args.place.now c.in-Ok.s c.stretch_place-p.result _ _ (is-held c.args.state.now c.read_state.result c.read_state.ensures _ c.in-Ok.is) c.stretch_place-p.ensures c.number.ensures c.put_place.ensures)

pub returns-in-Err : goal.returns-in-Err
unfolding place_on
returns-in-Err c = rw (le-leb _ _ c.if-place-lt-PLACE.false) (place-unread c.args.state.now c.args.frame.now c.args.k c.args.place.now _ _ _ (is_unread c.args.state.now c.read_state.result c.read_state.ensures _ c.in-Err.is) c.unread.ensures c.put_place-in-Err.ensures)
