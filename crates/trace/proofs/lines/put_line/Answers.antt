-- `trace::lines::put_line` meets its contract.
use Rattle.trace.proofs.LineParts.{line-put}
use Rattle.trace.proofs.lines.put_line.Goals as goal

pub returns : goal.returns
returns c = line-put _ _ _ _ _ _ _ _ _ _ _ _ _ _ c.requires c.ranges.number.fits c.ranges.answer.fits c.ranges.state.fits c.ranges.records.fits c.ranges.replies.fits c.ranges.bytes.fits c.put_field-b.ensures c.put_field-c.ensures c.put_field-d.ensures c.put_field-e.ensures c.put_field-f.ensures c.put_field.ensures
