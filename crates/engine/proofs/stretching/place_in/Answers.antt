-- `engine::stretching::place_in` meets its contract.
use mathlib.Core.Path.{◌∙◌, sym, ap}
use Rattle.answers.specs.declared.Answer.{Answer}
use Rattle.engine.specs.declared.stretching.StretchPlace.{StretchPlace}
use Rattle.engine.specs.Stretch.{place_in}
use Rattle.engine.proofs.Stretches.{placed}
use Rattle.engine.proofs.stretching.place_in.Goals as goal

pub returns-then-not-is_operating : goal.returns-then-not-is_operating
unfolding place_in
returns-then-not-is_operating c = rw (sym c.is_operating.ensures ∙ c.if-not-is_operating.true) c.empty.ensures

pub returns : goal.returns
returns c =
    let a = c.args in
    let p = c.stretch_place-p.result in
    ap {B = StretchPlace} (λ (x : Answer). record { answer = x; at = p.stretch.at; bytes = p.stretch.bytes }) c.answer_if.ensures
    ∙ placed a.s a.h a.frame.now a.k c.management_port.result c.header_end-end.result p (sym c.is_operating.ensures ∙ c.if-not-is_operating.false) c.management_port.ensures c.header_end-end.ensures c.stretch_place-p.ensures
