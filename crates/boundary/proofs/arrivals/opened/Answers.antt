-- `boundary::arrivals::opened` meets its contract.
use Rattle.boundary.proofs.Laws.{is-held, is_unread, opened-held, opened_unread}
use Rattle.boundary.proofs.arrivals.opened.Goals as goal

pub returns-in-Ok : goal.returns-in-Ok
returns-in-Ok c = opened-held c.args.state.now c.args.frame.now _ c.in-Ok.s c.in_range.result c.open.result _ (is-held c.args.state.now c.read_state.result c.read_state.ensures _ c.in-Ok.is) c.in_range.ensures c.open.ensures c.answer_by.ensures

pub returns-in-Err : goal.returns-in-Err
returns-in-Err c = opened_unread c.args.state.now c.args.frame.now _ _ _ (is_unread c.args.state.now c.read_state.result c.read_state.ensures _ c.in-Err.is) c.unread.ensures
