-- `boundary::stretching::lingbarrow_stretches` meets its contract.
use mathlib.Core.Path.{ap}
use Rattle.engine.specs.Stretch.{stretch_places_lem}
use Rattle.boundary.specs.Lists.{stretches}
use Rattle.boundary.proofs.Laws.{is-held, is_unread}
use Rattle.boundary.proofs.Lists.{not_counted, List-held, list-unread}
use Rattle.boundary.proofs.stretching.lingbarrow_stretches.Goals as goal

pub returns-then-counts-lt-COUNTS : goal.returns-then-counts-lt-COUNTS
returns-then-counts-lt-COUNTS c =
    let a = c.args in
    not_counted a.state.now a.frame.now (λ s. stretches (stretch_places_lem s a.frame.now a.places.now)) a.places.now a.counts.now _ c.if-counts-lt-COUNTS.true c.opened.ensures

pub returns-in-Ok : goal.returns-in-Ok
returns-in-Ok c =
    let a = c.args in
    List-held a.state.now a.frame.now (λ s. stretches (stretch_places_lem s a.frame.now a.places.now)) a.places.now a.counts.now c.if-counts-lt-COUNTS.false c.in-Ok.s _ _ _ (is-held c.args.state.now c.read_state.result c.read_state.ensures _ c.in-Ok.is) (ap stretches c.stretch_places-p.ensures) c.number.ensures c.put_count.ensures

pub returns-in-Err : goal.returns-in-Err
returns-in-Err c =
    let a = c.args in
    list-unread a.state.now a.frame.now (λ s. stretches (stretch_places_lem s a.frame.now a.places.now)) a.places.now a.counts.now c.if-counts-lt-COUNTS.false _ _ _ (is_unread c.args.state.now c.read_state.result c.read_state.ensures _ c.in-Err.is) c.unread.ensures c.put_count-in-Err.ensures
