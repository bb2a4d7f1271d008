-- `why_dark::structures::put_numbers` meets its contract.
use Rattle.text.proofs.Adding.{added-four}
use Rattle.why_dark.specs.Report.{numbers_of_lem}
use Rattle.why_dark.proofs.Lines.{told_as}
use Rattle.why_dark.proofs.structures.put_numbers.Goals as goal

pub returns : goal.returns
unfolding numbers_of_lem
returns c =
    added-four _ _ _ _ _ _ _ _ _ _
    (told_as _ _ _ _ _ _ c.put_labelled-b.ensures c.from.ensures)
    (told_as _ _ _ _ _ _ c.put_labelled-c.ensures c.from-2.ensures)
    (told_as _ _ _ _ _ _ c.put_labelled-d.ensures c.from-3.ensures)
    (told_as _ _ _ _ _ _ c.put_labelled.ensures c.from-4.ensures)
