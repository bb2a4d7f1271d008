-- `trace::records::print_outcome` meets its contract.
use Rattle.std.proofs.Common.{◌+◌, length, ap, ◌∙◌, refl}
use Rattle.payload.specs.Memory.{put}
use Rattle.trace.proofs.Steps.{line_made}
use Rattle.trace.proofs.records.print_outcome.Goals as goal

pub put_line-next-requires : goal.put_line-next-requires
put_line-next-requires c = c.requires

pub shape_of-text : goal.shape_of-text
shape_of-text c = c.put_line-next.auto.text

pub returns : goal.returns
returns c =
    let a = c.args in
    let put-line = c.put_line-next in
    let e = line_made a.run.number a.o a.c _ _ _ _ _ (c.from.ensures ∙ c.number.ensures) (c.from-2.ensures ∙ c.number-2.ensures) refl refl refl in (
      c.onward.ensures,
      put-line.ensures.0 ∙ ap (put a.text.now a.place) e,
      put-line.ensures.1 ∙ ap (λ l. a.place + length l) e,
      put-line.ensures.2,
    )
