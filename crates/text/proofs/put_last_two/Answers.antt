-- `text::put_last_two` meets its contract.
use Rattle.text.proofs.Adding.{added_next}
use Rattle.text.proofs.put_last_two.Goals as goal

pub returns : goal.returns
returns c = added_next _ _ _ _ _ _ c.put_digit-b.ensures c.put_digit.ensures
