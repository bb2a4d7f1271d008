-- `engine::stretching::stretch_place` meets its contract.
use mathlib.Core.Logic.{⊎_elim}
use mathlib.Core.Path.{◌≡◌, ◌∙◌, sym}
use mathlib.Core.Bool.{true}
use Rattle.downstream.specs.declared.Opening.TheVariants.{Refused, Unread}
use Rattle.downstream.proofs.Laws.{opening_is}
use Rattle.engine.specs.Stretch.{stretch_place_lem}
use Rattle.engine.proofs.stretching.stretch_place.Goals as goal

pub returns-in-Refused : goal.returns-in-Refused
unfolding stretch_place_lem
returns-in-Refused c =
    let a = c.args in
    let is = sym (c.open.ensures ∙ opening_is a.s a.frame.now c.in_range-valid.result true c.in_range-valid.ensures) in
    ⊎_elim (λ (e : c.open.result ≡ Refused c.in-Refused.answer). rw (is, e) c.empty.ensures) (λ (e : c.open.result ≡ Unread c.in-Refused.answer). rw (is, e) c.empty.ensures) c.in-Refused.is

pub returns-in-Opened : goal.returns-in-Opened
unfolding stretch_place_lem
returns-in-Opened c = rw (sym (c.open.ensures ∙ opening_is c.args.s c.args.frame.now c.in_range-valid.result true c.in_range-valid.ensures), c.in-Opened.is) c.place_in.ensures
