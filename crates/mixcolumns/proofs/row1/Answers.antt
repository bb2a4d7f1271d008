-- `mixcolumns::row1` meets its contract, by the rule of the table.
use Rattle.mixcolumns.proofs.RowRules.{row1}
use Rattle.mixcolumns.proofs.row1.Goals as goal

pub returns : goal.returns
returns c = row1 c.args.x
