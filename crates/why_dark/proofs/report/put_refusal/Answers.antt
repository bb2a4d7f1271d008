-- `why_dark::report::put_refusal` meets its contract.
use mathlib.Core.Path.{◌∙◌}
use Rattle.text.proofs.Adding.{added-four}
use Rattle.why_dark.specs.Report.{refusal}
use Rattle.why_dark.proofs.Lines.{told_as}
use Rattle.why_dark.proofs.report.put_refusal.Goals as goal

pub returns : goal.returns
unfolding refusal
returns c = added-four _ _ _ _ _ _ _ _ _ _ (told_as _ _ _ _ _ _ c.put_labelled-b.ensures (c.from.ensures ∙ c.number.ensures)) c.put_word-c.ensures c.put_meaning-d.ensures c.put_octet.ensures
