-- `bwmap::search::read_at` meets its contract.
use mathlib.Core.Path.{◌∙◌, ap}
use Rattle.entries.specs.Standings.{standing}
use Rattle.bwmap.proofs.Reading.{read-entry}
use Rattle.bwmap.proofs.search.read_at.Goals as goal

pub returns : goal.returns
returns c =
    let a = c.args in
    c.standing_ahead.ensures ∙ ap (standing a.own) (read-entry a.map.now a.i)
