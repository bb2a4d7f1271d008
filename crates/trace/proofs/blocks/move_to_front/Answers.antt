-- `trace::blocks::move_to_front` meets its contract.
use Rattle.std.proofs.Common.{◌∙◌}
use Rattle.trace.proofs.Moves.{moved_front}
use Rattle.trace.proofs.blocks.move_to_front.Goals as goal

pub returns : goal.returns
returns c = c.copy_within.ensures.after ∙ moved_front _ _ _ c.requires.0 c.requires.1
