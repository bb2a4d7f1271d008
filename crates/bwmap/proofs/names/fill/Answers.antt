-- `bwmap::names::fill` meets its contract.
use Rattle.std.proofs.Common.{arith, length-take, length-drop}
use Rattle.bwmap.proofs.Courses.{filled}
use Rattle.bwmap.proofs.names.fill.Goals as goal

pub returns : goal.returns
returns c =
    let a = c.args in
    filled a.at a.count _ _ a.name a.names.now _ c.requires (omega arith) (simp (length-take, length-drop) (omega arith)) (c.fill.ensures.after (λ y e. e))
