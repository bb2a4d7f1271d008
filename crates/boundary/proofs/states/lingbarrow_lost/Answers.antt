-- `boundary::states::lingbarrow_lost` meets its contract.
use Rattle.boundary.specs.Calls.{lost_on}
use Rattle.boundary.proofs.Laws.{is-held, is_unread, call-held, call_unread}
use Rattle.engine.specs.Lods.{lost_left}
use Rattle.boundary.proofs.states.lingbarrow_lost.Goals as goal

pub returns-in-Ok : goal.returns-in-Ok
unfolding lost_on
returns-in-Ok c = call-held c.args.state.now (lost_left) c.in-Ok.s c.lost.result _ _ (is-held c.args.state.now c.read_state.result c.read_state.ensures _ c.in-Ok.is) c.lost.ensures c.settle.ensures.0 c.settle.ensures.1

pub returns-in-Err : goal.returns-in-Err
unfolding lost_on
returns-in-Err c = call_unread c.args.state.now (lost_left) _ _ (is_unread c.args.state.now c.read_state.result c.read_state.ensures _ c.in-Err.is) c.unread.ensures
