-- `mixcolumns::row3` meets its contract, by the rule of the table.
use Rattle.mixcolumns.proofs.RowRules.{row3}
use Rattle.mixcolumns.proofs.row3.Goals as goal

pub returns : goal.returns
returns c = row3 c.args.x
