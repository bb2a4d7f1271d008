-- `boundary::states::lingbarrow_give_key` meets its contract.
use mathlib.Core.Path.{ap, sym, ◌∙◌}
use Rattle.station.specs.declared.Station.{Station}
use Rattle.station.specs.declared.Outcome.{Outcome}
use Rattle.answers.specs.Answers.{answer_number}
use Rattle.boundary.specs.Calls.{key_left, key_on}
use Rattle.boundary.proofs.Laws.{is-held, is_unread, call-held, call_kept, call_unread, key_short, key_whole}
use Rattle.boundary.proofs.states.lingbarrow_give_key.Goals as goal

pub returns-then-key-lt-KEY_OCTETS : goal.returns-then-key-lt-KEY_OCTETS
unfolding key_on
returns-then-key-lt-KEY_OCTETS c =
    let key = c.args.key.now in
    let s = c.in-Ok.s in
    let e = key_short s key c.if-key-lt-KEY_OCTETS.true in
    call_kept c.args.state.now (λ (s : Station). key_left s key) s _ (is-held c.args.state.now c.read_state.result c.read_state.ensures _ c.in-Ok.is) (c.asked.ensures ∙ sym (ap (λ (o : Outcome). answer_number o.answer) e)) (ap (λ (o : Outcome). o.station) e)

pub returns-else-key-lt-KEY_OCTETS : goal.returns-else-key-lt-KEY_OCTETS
unfolding key_on
returns-else-key-lt-KEY_OCTETS c =
    let key = c.args.key.now in
    let s = c.in-Ok.s in
    call-held c.args.state.now (λ (s : Station). key_left s key) s c.give_key.result _ _ (is-held c.args.state.now c.read_state.result c.read_state.ensures _ c.in-Ok.is) (key_whole s key c.first.result c.give_key.result c.if-key-lt-KEY_OCTETS.false c.first.ensures c.give_key.ensures) c.settle.ensures.0 c.settle.ensures.1

pub returns-in-Err : goal.returns-in-Err
unfolding key_on
returns-in-Err c = call_unread c.args.state.now (λ (s : Station). key_left s c.args.key.now) _ _ (is_unread c.args.state.now c.read_state.result c.read_state.ensures _ c.in-Err.is) c.unread.ensures
