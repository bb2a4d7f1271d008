-- `integrity::with_code` meets its contract.
use mathlib.Core.Path.{◌∙◌}
use Rattle.integrity.proofs.RowByRow.{fresh}
use Rattle.integrity.proofs.with_code.Goals as goal

pub returns : goal.returns
returns c =
    let a = c.args in
    c.cover.ensures ∙ fresh a.code a.m.now c.requires
