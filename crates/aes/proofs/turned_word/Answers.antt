-- `aes::turned_word` meets its contract.
use Rattle.aes.specs.OnWords.{turned_word_on}
use Rattle.aes.proofs.turned_word.Goals as goal

pub returns : goal.returns
unfolding turned_word_on
returns c = cc c.join.ensures.made
