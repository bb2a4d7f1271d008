-- `messages::checking::check` meets its contract.
use Rattle.messages.proofs.Verdicts.{checked}
use Rattle.messages.proofs.checking.check.Goals as goal

pub returns : goal.returns
returns c =
    let a = c.args in
    checked a.usual a.installed _ a.messages.now _ c.chosen-key.ensures a.base a.i _ _ _ _ _ c.gather-count.ensures c.rights-found.ensures c.enter.ensures c.requires.0.known
