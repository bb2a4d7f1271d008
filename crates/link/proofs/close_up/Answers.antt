-- `link::close_up` meets its contract.
use borrow.Author.Rules.{rules}
use Rattle.link.proofs.Closing.{closed}
use Rattle.link.proofs.close_up.Goals as goal

pub returns : goal.returns
returns g c = rw c.copy_within.ensures.after (closed c.args.blank c.args.list c.args.i g.row.N (search rules) c.requires)
