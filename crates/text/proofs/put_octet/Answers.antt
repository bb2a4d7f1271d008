-- `text::put_octet` meets its contract.
use Rattle.text.proofs.Adding.{octet-stored, octet-cut}
use Rattle.text.proofs.put_octet.Goals as goal

pub returns-then-at-text : goal.returns-then-at-text
returns-then-at-text c = octet-stored _ _ _ c.if-at-text.true

pub returns : goal.returns
returns c = octet-cut _ _ _ c.if-at-text.false
