-- `aes::last_round` meets its contract.
use Rattle.aes.specs.OnWords.{last_on}
use Rattle.aes.proofs.last_round.Goals as goal

pub returns : goal.returns
unfolding last_on
returns c = cc
