-- `aes::round` meets its contract.
use Rattle.aes.specs.OnWords.{round_on}
use Rattle.aes.proofs.round.Goals as goal

pub returns : goal.returns
unfolding round_on
returns c = cc
