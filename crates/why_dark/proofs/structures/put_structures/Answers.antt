-- `why_dark::structures::put_structures` meets its contract.
use mathlib.Core.Path.{sym, ap, ◌∙◌}
use Rattle.text.specs.Texts.{added}
use Rattle.why_dark.proofs.Lines.{none_told, some-told}
use Rattle.why_dark.proofs.structures.put_structures.Goals as goal

pub returns-then-is_empty : goal.returns-then-is_empty
returns-then-is_empty c = c.put_word.ensures ∙ ap (added _ _) (none_told c.args.frame.now c.args.names.now (sym c.is_empty.ensures ∙ c.if-is_empty.true))

pub returns : goal.returns
returns c = c.put_lines.ensures ∙ ap (added _ _) (some-told c.args.frame.now c.args.names.now (sym c.is_empty.ensures ∙ c.if-is_empty.false))
