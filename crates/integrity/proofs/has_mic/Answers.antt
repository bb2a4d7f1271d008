-- `integrity::has_mic` meets its contract.
use mathlib.Core.Path.{◌∙◌, ap}
use lib.Dec.{eqb}
use lib.Pointwise.{pointwise}
use Rattle.ploam.specs.Layout.{mic_field}
use Rattle.integrity.proofs.Same.{by_octets}
use Rattle.integrity.proofs.has_mic.Goals as goal

pub returns : goal.returns
returns c =
    let field = mic_field c.args.m.now in
    c.eq.ensures ∙ ap (pointwise eqb field) c.as_slice.ensures ∙ by_octets field c.args.mic
