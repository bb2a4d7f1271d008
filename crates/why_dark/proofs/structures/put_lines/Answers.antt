-- `why_dark::structures::put_lines` meets its contract.
use mathlib.Core.Path.{refl, ◌∙◌}
use native.Mathlib.Omega.{arith}
use Rattle.why_dark.proofs.Lines.{lines-turn, lines_end}
use Rattle.why_dark.proofs.structures.put_lines.Goals as goal

pub loop-i-init : goal.loop-i-init
loop-i-init c = (refl, refl)

pub structure-requires : goal.structure-requires
structure-requires c = omega (arith, c.requires, c.loop-i-test.true)

pub loop-i-preserved : goal.loop-i-preserved
loop-i-preserved c = (c.put_line-place.auto.text ∙ c.loop-i.invariant.0, lines-turn _ _ c.loop-i.i _ (record { text = _; place = c.loop-i.place }) _ _ c.loop-i-test.true c.structure.ensures c.put_line-place.ensures c.loop-i.invariant.1)

pub shape_of-text : goal.shape_of-text
shape_of-text c = c.loop-i.invariant.0

pub returns : goal.returns
returns c = lines_end _ _ c.loop-i.i _ _ c.loop-i-test.false c.loop-i.invariant.1
