-- `fragments::slot_in` meets its contract: there are sixteen added ports, so a place is below sixteen.
use Rattle.std.proofs.Common.{rules}
use Rattle.fragments.proofs.Decided.{added-below}
use Rattle.fragments.proofs.slot_in.Goals as goal

pub behind-requires : goal.behind-requires
behind-requires c = rw c.place_in.ensures (added-below c.args.ids c.args.port (search rules))
