-- `messages::considered` meets its contract.
use mathlib.Core.Path.{◌∙◌, sym}
use Rattle.messages.proofs.Considering.{none-considered, right-considered, wrong-considered, short_considered}
use Rattle.messages.proofs.considered.Goals as goal

pub returns-then-is_ignored : goal.returns-then-is_ignored
returns-then-is_ignored c =
    let a = c.args in
    (none-considered a.usual a.installed a.s a.messages.now a.i _ c.read.ensures _ _ c.in-Some.is c.decide-effect.ensures (sym c.is_ignored.ensures ∙ c.if-is_ignored.true), c.requires.past, c.requires.known)

pub returns-then-marks-i-eq-RIGHT : goal.returns-then-marks-i-eq-RIGHT
returns-then-marks-i-eq-RIGHT c =
    let a = c.args in
    let k = c.know-base.ensures in
    (right-considered a.usual a.installed a.s a.messages.now a.i _ c.read.ensures _ _ c.in-Some.is c.decide-effect.ensures _ k.told c.if-marks-i-eq-RIGHT.true, k.within.0, k.known)

pub returns-else-marks-i-eq-RIGHT : goal.returns-else-marks-i-eq-RIGHT
returns-else-marks-i-eq-RIGHT c =
    let a = c.args in
    let k = c.know-base.ensures in
    (wrong-considered a.usual a.installed a.s a.messages.now a.i _ c.read.ensures _ _ c.in-Some.is c.decide-effect.ensures _ _ k.told c.if-marks-i-eq-RIGHT.false c.ignored.ensures, k.within.0, k.known)

pub returns-in-None : goal.returns-in-None
returns-in-None c =
    let a = c.args in
    (short_considered a.usual a.installed a.s a.messages.now a.i _ c.read.ensures _ c.in-None.is c.ignored-in-None.ensures, c.requires.past, c.requires.known)
