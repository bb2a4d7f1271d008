-- `aes::next_key` meets its contract.
use Rattle.aes.specs.OnWords.{next_key_on}
use Rattle.aes.proofs.next_key.Goals as goal

-- src/lib.rt:96:1
pub returns : goal.returns
unfolding next_key_on
returns c = cc
