-- `aes::last_column` meets its contract.
use Rattle.aes.specs.OnWords.{last_column_on}
use Rattle.aes.proofs.last_column.Goals as goal

pub returns : goal.returns
unfolding last_column_on
returns c = cc c.join.ensures.made
