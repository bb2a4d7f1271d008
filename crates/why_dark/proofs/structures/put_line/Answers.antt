-- `why_dark::structures::put_line` meets its contract.
use Rattle.text.proofs.Adding.{added-four}
use Rattle.why_dark.specs.Report.{line_of}
use Rattle.why_dark.proofs.structures.put_line.Goals as goal

pub returns : goal.returns
unfolding line_of
returns c = added-four _ _ _ _ _ _ _ _ _ _ c.put_field-b.ensures c.put_name-c.ensures c.put_fields-d.ensures c.put_octet.ensures
