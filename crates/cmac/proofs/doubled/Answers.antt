-- `cmac::doubled` meets its contract.
use Rattle.cmac.specs.Tags.{doubled_words}
use Rattle.cmac.proofs.doubled.Goals as goal

pub returns : goal.returns
unfolding doubled_words
returns c = cc
