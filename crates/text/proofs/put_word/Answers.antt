-- `text::put_word` meets its contract.
use mathlib.Core.Path.{refl, ◌∙◌}
use Rattle.text.proofs.Adding.{word-turn, word_end}
use Rattle.text.proofs.put_word.Goals as goal

pub loop-octet-init : goal.loop-octet-init
loop-octet-init c = (refl, refl)

pub loop-octet-preserved : goal.loop-octet-preserved
loop-octet-preserved c = (c.put_octet-place.auto.text ∙ c.loop-octet.invariant.0, word-turn _ c.loop-octet.octet-index (record { text = _; place = c.loop-octet.place }) _ _ c.loop-octet-test.true c.put_octet-place.ensures c.loop-octet.invariant.1)

pub shape_of-text : goal.shape_of-text
shape_of-text c = c.loop-octet.invariant.0

pub returns : goal.returns
returns c = word_end _ c.loop-octet.octet-index _ _ c.loop-octet-test.false c.loop-octet.invariant.1
