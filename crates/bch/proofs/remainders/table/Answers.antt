-- The table's rule.
use Rattle.bch.proofs.RemainderRule.{rule}
use Rattle.bch.proofs.remainders.table.Goals as goal

pub returns : goal.returns
returns c = rule
