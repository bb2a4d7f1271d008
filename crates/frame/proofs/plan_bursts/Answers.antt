-- `frame::plan_bursts` meets its contract.
use mathlib.Core.Path.{◌∙◌}
use Rattle.frame.specs.Frame.{own_of}
use Rattle.frame.proofs.Laws.{planned_fully}
use Rattle.frame.proofs.plan_bursts.Goals as goal

pub returns : goal.returns
returns c =
    let a = c.args in
    let p = planned_fully (own_of a.s) a.map.now a.s.carried a.plan.now c.plan_map.result _ c.requires (rw c.own_of.ensures at c.plan_map.ensures) in
    (c.plan_of.ensures ∙ p.0, p.1)
