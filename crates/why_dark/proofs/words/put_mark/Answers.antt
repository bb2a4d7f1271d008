-- `why_dark::words::put_mark` meets its contract.
use mathlib.Core.Path.{sym, ap, ◌∙◌}
use Rattle.text.specs.Texts.{added}
use Rattle.text.proofs.Adding.{added_none}
use Rattle.why_dark.specs.Words.{marked}
use Rattle.why_dark.proofs.words.put_mark.Goals as goal

pub returns-then-set : goal.returns-then-set
returns-then-set c = c.put_word.ensures ∙ ap (added _ _) (ap (λ b. marked b c.args.name.now) (sym c.if-set.true))

pub returns : goal.returns
returns c = added_none (record { text = _; place = _ }) ∙ ap (added _ _) (ap (λ b. marked b c.args.name.now) (sym c.if-set.false))
