-- `why_dark::report::put_frame` meets its contract.
use mathlib.Core.Path.{sym, ap, ◌∙◌}
use native.Mathlib.Omega.{arith}
use lib.Seq.{length-take-le}
use Rattle.text.specs.Texts.{added}
use Rattle.why_dark.proofs.Frames.{frame_refused, frame-named, named-few}
use Rattle.why_dark.proofs.report.put_frame.Goals as goal

pub returns-then-number-ne-DONE : goal.returns-then-number-ne-DONE
returns-then-number-ne-DONE c = c.put_refusal.ensures ∙ ap (added _ _) (frame_refused c.args.s c.args.frame.now c.why_dark-named.result c.why_dark-named.new.names c.why_dark-named.ensures (λ z. c.if-number-ne-DONE.true (c.number.ensures ∙ z)))

pub slice_bounds-names-end : goal.slice_bounds-names-end
slice_bounds-names-end c = omega (arith, named-few c.args.s c.args.frame.now c.why_dark-named.result c.why_dark-named.new.names c.why_dark-named.ensures, c.why_dark-named.auto.names)

pub slice_bounds-put_structures-end : goal.slice_bounds-put_structures-end
slice_bounds-put_structures-end c = sym (length-take-le c.why_dark-named.result.count c.why_dark-named.new.names (omega (arith, named-few c.args.s c.args.frame.now c.why_dark-named.result c.why_dark-named.new.names c.why_dark-named.ensures, c.why_dark-named.auto.names)))

pub put_structures-requires : goal.put_structures-requires
put_structures-requires c = omega (arith, named-few c.args.s c.args.frame.now c.why_dark-named.result c.why_dark-named.new.names c.why_dark-named.ensures, length-take-le c.why_dark-named.result.count c.why_dark-named.new.names (omega (arith, named-few c.args.s c.args.frame.now c.why_dark-named.result c.why_dark-named.new.names c.why_dark-named.ensures, c.why_dark-named.auto.names)))

pub returns : goal.returns
returns c = c.put_structures.ensures ∙ ap (added _ _) (frame-named c.args.s c.args.frame.now c.why_dark-named.result c.why_dark-named.new.names c.why_dark-named.ensures (sym c.number.ensures ∙ c.if-number-ne-DONE.false))
