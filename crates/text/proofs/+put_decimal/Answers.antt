-- Below ten one digit, below a hundred two, and else what a hundredth has and two more.
use mathlib.Core.Path.{sym, ap, ◌∙◌}
use Rattle.text.specs.Texts.{added}
use Rattle.text.proofs.Decimals.{decimal-small, decimal-two, decimal_more}
use Rattle.text.proofs.Adding.{added_next}
use Rattle.text.proofs.+put_decimal.Goals as goal

pub returns-then-n-lt10 : goal.returns-then-n-lt10
returns-then-n-lt10 t c = c.put_digit.ensures ∙ ap (added _ _) (sym (decimal-small _ c.if-n-lt10.true))

pub returns-then-n-lt100 : goal.returns-then-n-lt100
returns-then-n-lt100 t c = c.put_last_two.ensures ∙ ap (added _ _) (sym (decimal-two _ c.if-n-lt10.false c.if-n-lt100.true))

pub returns : goal.returns
returns t c = added_next _ _ _ _ _ _ c.put_decimal-b.ensures c.put_last_two-2.ensures ∙ ap (added _ _) (sym (decimal_more _ c.if-n-lt100.false))
