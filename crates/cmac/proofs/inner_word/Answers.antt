-- `cmac::inner_word` meets its contract.
use mathlib.Core.Path.{◌∙◌}
use Rattle.cmac.proofs.Blocks.{inner-word}
use Rattle.cmac.proofs.inner_word.Goals as goal

pub returns : goal.returns
returns c = c.join.ensures.made ∙ inner-word c.args.m.now c.args.j c.requires
