-- `mixcolumns::row2` meets its contract, by the rule of the table.
use Rattle.mixcolumns.proofs.RowRules.{row2}
use Rattle.mixcolumns.proofs.row2.Goals as goal

pub returns : goal.returns
returns c = row2 c.args.x
