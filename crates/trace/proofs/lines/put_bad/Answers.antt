-- `trace::lines::put_bad` meets its contract.
use Rattle.trace.proofs.LineParts.{bad_put}
use Rattle.trace.proofs.lines.put_bad.Goals as goal

pub returns : goal.returns
returns c = bad_put _ _ _ _ _ c.requires c.ranges.number.fits c.put_field-b.ensures c.put_word.ensures
