-- `cmac::padded_word` meets its contract.
use Rattle.cmac.specs.Tags.{word_at}
use Rattle.cmac.proofs.padded_word.Goals as goal

pub returns : goal.returns
unfolding word_at
returns c = cc
