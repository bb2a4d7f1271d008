-- `why_dark::structures::structure` meets its contract.
use Rattle.why_dark.proofs.Lines.{structure-past, structure-ahead}
use Rattle.why_dark.proofs.structures.structure.Goals as goal

pub returns-then-frame-from : goal.returns-then-frame-from
returns-then-frame-from c = structure-past _ _ c.if-frame-from.true

pub returns : goal.returns
returns c = structure-ahead _ _ _ c.read_entry.ensures
