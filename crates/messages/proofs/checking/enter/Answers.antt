-- `messages::checking::enter` meets its contract.
use mathlib.Core.Path.{◌∙◌}
use native.Mathlib.Omega.{arith}
use Rattle.messages.proofs.Verdicts.{enter-turn, enter_end}
use Rattle.messages.proofs.checking.enter.Goals as goal

pub loop-j-preserved : goal.loop-j-preserved
loop-j-preserved c =
    let a = c.args in
    let l = c.loop-j in
    (omega arith, enter-turn a.base a.places.now a.found.now a.count l.j l.marks c.loop-j-test.true ∙ l.invariant.1)

pub returns : goal.returns
returns c =
    let a = c.args in
    let l = c.loop-j in
    enter_end a.base a.places.now a.found.now a.count l.j l.marks c.loop-j-test.false ∙ l.invariant.1
