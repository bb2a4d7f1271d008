-- `stretches::stretch_places` meets its contract.
use Rattle.stretches.proofs.Listing.{nothing-behind}
use Rattle.stretches.proofs.stretch_places.Goals as goal

pub returns-then-frame-begins : goal.returns-then-frame-begins
returns-then-frame-begins c =
    let a = c.args in
    nothing-behind a.own a.frame.now a.ports a.begins a.first a.places.now c.if-frame-begins.true
