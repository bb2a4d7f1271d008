-- `why_dark::structures::put_marks` meets its contract.
use Rattle.text.proofs.Adding.{added-three}
use Rattle.why_dark.specs.Report.{marks_of_lem}
use Rattle.why_dark.proofs.structures.put_marks.Goals as goal

pub returns : goal.returns
unfolding marks_of_lem
returns c = added-three _ _ _ _ _ _ _ _ c.put_mark-b.ensures c.put_mark-c.ensures c.put_mark.ensures
