-- `why_dark::words::put_name` meets its contract.
use mathlib.Core.Path.{sym, ap, ◌∙◌}
use Rattle.text.specs.Texts.{added}
use Rattle.text.proofs.Adding.{added_none}
use Rattle.why_dark.specs.Words.{name_of}
use Rattle.why_dark.proofs.Lines.{nameless}
use Rattle.why_dark.proofs.words.put_name.Goals as goal

pub returns-in-0 : goal.returns-in-0
unfolding name_of
returns-in-0 c = c.put_word.ensures ∙ ap (added _ _) (ap name_of (sym c.in-0.is))

pub returns-in-1 : goal.returns-in-1
unfolding name_of
returns-in-1 c = c.put_word-in-1.ensures ∙ ap (added _ _) (ap name_of (sym c.in-1.is))

pub returns-in-2 : goal.returns-in-2
unfolding name_of
returns-in-2 c = c.put_word-in-2.ensures ∙ ap (added _ _) (ap name_of (sym c.in-2.is))

pub returns-in-3 : goal.returns-in-3
unfolding name_of
returns-in-3 c = c.put_word-in-3.ensures ∙ ap (added _ _) (ap name_of (sym c.in-3.is))

pub returns-in-4 : goal.returns-in-4
unfolding name_of
returns-in-4 c = c.put_word-in-4.ensures ∙ ap (added _ _) (ap name_of (sym c.in-4.is))

pub returns-in-5 : goal.returns-in-5
unfolding name_of
returns-in-5 c = c.put_word-in-5.ensures ∙ ap (added _ _) (ap name_of (sym c.in-5.is))

pub returns-in-6 : goal.returns-in-6
unfolding name_of
returns-in-6 c = c.put_word-in-6.ensures ∙ ap (added _ _) (ap name_of (sym c.in-6.is))

pub returns-in-7 : goal.returns-in-7
unfolding name_of
returns-in-7 c = c.put_word-in-7.ensures ∙ ap (added _ _) (ap name_of (sym c.in-7.is))

pub returns-in-8 : goal.returns-in-8
unfolding name_of
returns-in-8 c = c.put_word-in-8.ensures ∙ ap (added _ _) (ap name_of (sym c.in-8.is))

pub returns-in-9 : goal.returns-in-9
unfolding name_of
returns-in-9 c = c.put_word-in-9.ensures ∙ ap (added _ _) (ap name_of (sym c.in-9.is))

pub returns-in-10 : goal.returns-in-10
unfolding name_of
returns-in-10 c = c.put_word-in-10.ensures ∙ ap (added _ _) (ap name_of (sym c.in-10.is))

pub returns-in_default : goal.returns-in_default
returns-in_default c = added_none (record { text = _; place = _ }) ∙ ap (added _ _) (sym (nameless _ c.in_default.in_default-own.rest.0.0.0.0.0.0.0.0.0.0.1 c.in_default.in_default-own.rest.0.0.0.0.0.0.0.0.0.1 c.in_default.in_default-own.rest.0.0.0.0.0.0.0.0.1 c.in_default.in_default-own.rest.0.0.0.0.0.0.0.1 c.in_default.in_default-own.rest.0.0.0.0.0.0.1 c.in_default.in_default-own.rest.0.0.0.0.0.1 c.in_default.in_default-own.rest.0.0.0.0.1 c.in_default.in_default-own.rest.0.0.0.1 c.in_default.in_default-own.rest.0.0.1 c.in_default.in_default-own.rest.0.1 c.in_default.in_default-own.rest.1))
