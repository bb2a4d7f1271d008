-- `stretches::stretch_place` meets its contract: of a list of two numbers that are 0, the first entry, where there is one.
use Rattle.stretches.proofs.Listing.{one-listed}
use Rattle.stretches.proofs.stretch_place.Goals as goal

pub returns : goal.returns
returns c =
    let a = c.args in
    one-listed a.own a.frame.now a.ports a.begins a.k _ _ c.stretch_places-p.ensures
