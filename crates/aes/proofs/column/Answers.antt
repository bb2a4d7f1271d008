-- `aes::column` meets its contract.
use Rattle.aes.specs.OnWords.{column_on}
use Rattle.aes.proofs.column.Goals as goal

pub returns : goal.returns
unfolding column_on
returns c = cc
