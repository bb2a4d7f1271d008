-- `ports::Ports::deliver` meets its contract.
use mathlib.Core.Path.{◌≡◌, ◌∙◌}
use lib.ListN.{length}
use Rattle.ports.specs.Limits.{slots}
use Rattle.ports.proofs.Changes.{deliver_anywhere}
use borrow.Author.Rules.{rules}
use Rattle.ports.proofs.Ports.deliver.Goals.{Start}
use Rattle.ports.proofs.Ports.deliver.Goals as goal

count : (c : Start) → length c.args.self.lengths ≡ slots
count c = search rules

pub returns : goal.returns
returns c =
    let a = c.args in
    c.deliver_in.ensures a.self.ids a.self.waiting ∙ deliver_anywhere a.self a.slot (count (goal.at.returns c).Start)
