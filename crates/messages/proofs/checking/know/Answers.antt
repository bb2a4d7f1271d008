-- `messages::checking::know` meets its contract.
use Rattle.messages.proofs.Verdicts.{known_already}
use Rattle.messages.proofs.checking.know.Goals as goal

pub check-requires : goal.check-requires
check-requires c =
    let p = c.requires in
    let w = c.window-start.ensures in
    (record { past = w.0.0; there = p.there; known = w.1 _ p.known }, w.0.1)

pub returns-else-marks-i-eq-NOT_ASKED : goal.returns-else-marks-i-eq-NOT_ASKED
returns-else-marks-i-eq-NOT_ASKED c = known_already _ _ _ _ c.window-start.ensures.0 (c.window-start.ensures.1 _ c.requires.known) c.if-marks-i-eq-NOT_ASKED.false
