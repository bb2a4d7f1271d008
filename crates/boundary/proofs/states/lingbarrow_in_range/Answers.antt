-- `boundary::states::lingbarrow_in_range` meets its contract.
use Rattle.boundary.proofs.Laws.{is-held, is_unread, range-held, range_unread}
use Rattle.boundary.proofs.states.lingbarrow_in_range.Goals as goal

pub returns-in-Ok : goal.returns-in-Ok
returns-in-Ok c = range-held c.args.state.now c.in-Ok.s _ (is-held c.args.state.now c.read_state.result c.read_state.ensures _ c.in-Ok.is) c.asked.ensures

pub returns-in-Err : goal.returns-in-Err
returns-in-Err c = range_unread c.args.state.now _ _ (is_unread c.args.state.now c.read_state.result c.read_state.ensures _ c.in-Err.is) c.unread.ensures
