-- `why_dark::words::put_labelled` meets its contract.
use Rattle.text.proofs.Adding.{added_next}
use Rattle.why_dark.specs.Words.{labelled}
use Rattle.why_dark.proofs.words.put_labelled.Goals as goal

pub returns : goal.returns
unfolding labelled
returns c = added_next _ _ _ _ _ _ c.put_word-b.ensures c.put_decimal.ensures
