-- `why_dark::words::put_meaning` meets its contract.
use mathlib.Core.Path.{sym, ap, ◌∙◌}
use Rattle.text.specs.Texts.{added}
use Rattle.text.proofs.Adding.{added_none}
use Rattle.why_dark.specs.Words.{meaning}
use Rattle.why_dark.proofs.words.put_meaning.Goals as goal

pub returns-in-Done : goal.returns-in-Done
returns-in-Done c = added_none (record { text = _; place = _ }) ∙ ap (added _ _) (ap meaning (sym c.in-Done.is))

pub returns-in-StateOutOfRange : goal.returns-in-StateOutOfRange
returns-in-StateOutOfRange c = c.put_word.ensures ∙ ap (added _ _) (ap meaning (sym c.in-StateOutOfRange.is))

pub returns-in-FrameLengthUnfit : goal.returns-in-FrameLengthUnfit
returns-in-FrameLengthUnfit c = c.put_word-in-FrameLengthUnfit.ensures ∙ ap (added _ _) (ap meaning (sym c.in-FrameLengthUnfit.is))

pub returns-in-BufferTooShort : goal.returns-in-BufferTooShort
returns-in-BufferTooShort c = c.put_word-in-BufferTooShort.ensures ∙ ap (added _ _) (ap meaning (sym c.in-BufferTooShort.is))

pub returns-in-HlendUnreadable : goal.returns-in-HlendUnreadable
returns-in-HlendUnreadable c = c.put_word-in-HlendUnreadable.ensures ∙ ap (added _ _) (ap meaning (sym c.in-HlendUnreadable.is))

pub returns-in-HeaderTooLong : goal.returns-in-HeaderTooLong
returns-in-HeaderTooLong c = c.put_word-in-HeaderTooLong.ensures ∙ ap (added _ _) (ap meaning (sym c.in-HeaderTooLong.is))

pub returns-in-DelineationLost : goal.returns-in-DelineationLost
returns-in-DelineationLost c = added_none (record { text = _; place = _ }) ∙ ap (added _ _) (ap meaning (sym c.in-DelineationLost.is))

pub returns-in-PortOutOfRange : goal.returns-in-PortOutOfRange
returns-in-PortOutOfRange c = added_none (record { text = _; place = _ }) ∙ ap (added _ _) (ap meaning (sym c.in-PortOutOfRange.is))

pub returns-in-PortHeldOrNotHeld : goal.returns-in-PortHeldOrNotHeld
returns-in-PortHeldOrNotHeld c = added_none (record { text = _; place = _ }) ∙ ap (added _ _) (ap meaning (sym c.in-PortHeldOrNotHeld.is))

pub returns-in-SlotsTaken : goal.returns-in-SlotsTaken
returns-in-SlotsTaken c = added_none (record { text = _; place = _ }) ∙ ap (added _ _) (ap meaning (sym c.in-SlotsTaken.is))

pub returns-in-KeyRefused : goal.returns-in-KeyRefused
returns-in-KeyRefused c = added_none (record { text = _; place = _ }) ∙ ap (added _ _) (ap meaning (sym c.in-KeyRefused.is))

pub returns-in-NotWritten : goal.returns-in-NotWritten
returns-in-NotWritten c = added_none (record { text = _; place = _ }) ∙ ap (added _ _) (ap meaning (sym c.in-NotWritten.is))
