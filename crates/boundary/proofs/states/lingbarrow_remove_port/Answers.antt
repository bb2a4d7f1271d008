-- `boundary::states::lingbarrow_remove_port` meets its contract.
use Rattle.station.specs.declared.Station.{Station}
use Rattle.boundary.specs.Calls.{remove_on}
use Rattle.boundary.proofs.Laws.{is-held, is_unread, call-held, call_unread}
use Rattle.host.specs.Host.{after_remove}
use Rattle.boundary.proofs.states.lingbarrow_remove_port.Goals as goal

pub returns-in-Ok : goal.returns-in-Ok
unfolding remove_on
returns-in-Ok c = call-held c.args.state.now (λ (s : Station). after_remove s (record { 0 = c.args.port })) c.in-Ok.s c.remove_port.result _ _ (is-held c.args.state.now c.read_state.result c.read_state.ensures _ c.in-Ok.is) c.remove_port.ensures c.settle.ensures.0 c.settle.ensures.1

pub returns-in-Err : goal.returns-in-Err
unfolding remove_on
returns-in-Err c = call_unread c.args.state.now (λ (s : Station). after_remove s (record { 0 = c.args.port })) _ _ (is_unread c.args.state.now c.read_state.result c.read_state.ensures _ c.in-Err.is) c.unread.ensures
