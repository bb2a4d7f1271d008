-- `why_dark::report::put_report` meets its contract.
use mathlib.Core.Path.{ap, ◌∙◌}
use Rattle.text.specs.Texts.{added}
use Rattle.why_dark.proofs.Frames.{held-long, long-told, held-told, unread_told}
use Rattle.why_dark.proofs.report.put_report.Goals as goal

pub returns-then-input-gt-MOST_INPUT : goal.returns-then-input-gt-MOST_INPUT
returns-then-input-gt-MOST_INPUT c = c.put_word.ensures ∙ ap (added _ _) (long-told c.args.input.now c.if-input-gt-MOST_INPUT.true)

pub slice_bounds-put_frame-start : goal.slice_bounds-put_frame-start
slice_bounds-put_frame-start c = held-long c.args.input.now c.read_state.result _ c.read_state.ensures c.in-Ok.is

pub slice_bounds-put_frame-count : goal.slice_bounds-put_frame-count
slice_bounds-put_frame-count c = held-long c.args.input.now c.read_state.result _ c.read_state.ensures c.in-Ok.is

pub returns-in-Ok : goal.returns-in-Ok
returns-in-Ok c = c.put_frame.ensures ∙ ap (added _ _) (held-told c.args.input.now c.read_state.result c.read_state.ensures c.if-input-gt-MOST_INPUT.false _ c.in-Ok.is)

pub returns-in-Err : goal.returns-in-Err
returns-in-Err c = c.put_unread.ensures ∙ ap (added _ _) (unread_told c.args.input.now c.read_state.result c.read_state.ensures c.if-input-gt-MOST_INPUT.false _ c.in-Err.is)
