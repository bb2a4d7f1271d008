-- `text::put_field` meets its contract.
use mathlib.Core.Path.{sym, ap, ◌∙◌}
use Rattle.text.specs.Texts.{added}
use Rattle.text.specs.Decimals.{field}
use Rattle.text.proofs.Decimals.{decimal-small}
use Rattle.text.proofs.Adding.{added_next}
use Rattle.text.proofs.put_field.Goals as goal

pub returns-then-n-lt10 : goal.returns-then-n-lt10
unfolding field
returns-then-n-lt10 c = added_next _ _ _ _ _ _ (c.put_digit-b.ensures ∙ ap (added _ _) (sym (decimal-small _ c.if-n-lt10.true))) c.put_octet.ensures

pub returns : goal.returns
unfolding field
returns c = added_next _ _ _ _ _ _ c.put_decimal-b.ensures c.put_octet-2.ensures
