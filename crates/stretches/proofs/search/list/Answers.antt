-- `stretches::search::list` meets its contract.
use Rattle.stretches.proofs.Listing.{set-two}
use Rattle.stretches.proofs.search.list.Goals as goal

pub returns : goal.returns
returns c = set-two c.args.places.now c.args.i c.args.t.at c.args.t.bytes c.requires
