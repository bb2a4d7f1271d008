-- `engine::stretching::stretch` meets its contract.
use mathlib.Core.Path.{◌∙◌}
use Rattle.engine.proofs.Stretches.{cut_fully}
use Rattle.engine.proofs.stretching.stretch.Goals as goal

pub returns : goal.returns
returns c =
    let a = c.args in
    c.stretch.ensures ∙ cut_fully a.s a.frame.now a.k c.stretch_place-p.result c.stretch_place-p.ensures
