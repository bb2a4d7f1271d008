-- `ports::Ports::append` meets its contract.
use mathlib.Core.Path.{◌≡◌, ◌∙◌}
use lib.ListN.{length}
use Rattle.ports.specs.Limits.{slots}
use Rattle.ports.proofs.Changes.{append_anywhere}
use borrow.Author.Rules.{rules}
use Rattle.ports.proofs.Ports.append.Goals.{Start}
use Rattle.ports.proofs.Ports.append.Goals as goal

count : (c : Start) → length c.args.self.lengths ≡ slots
count c = search rules

pub returns : goal.returns
returns c =
    let a = c.args in
    c.append_in.ensures a.self.ids a.self.waiting ∙ append_anywhere a.self a.slot (count (goal.at.returns c).Start) a.bytes
