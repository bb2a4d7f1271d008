-- `mixcolumns::row0` meets its contract, by the rule of the table.
use Rattle.mixcolumns.proofs.RowRules.{row0}
use Rattle.mixcolumns.proofs.row0.Goals as goal

pub returns : goal.returns
returns c = row0 c.args.x
