-- `bwmap::plan_map` meets its contract.
use mathlib.Core.Path.{◌∙◌, sym}
use borrow.Author.Tests.{le-leb}
use Rattle.series.specs.Series.{planned_of}
use Rattle.bwmap.proofs.Steps.{from_start, finish, silent-plan}
use Rattle.bwmap.proofs.plan_map.Goals as goal

pub returns-then-is_silent : goal.returns-then-is_silent
returns-then-is_silent c =
    let a = c.args in
    rw (le-leb _ _ c.if-plan-lt-PLAN_NUMBERS.false)
    (silent-plan a.own a.map.now a.plan.now a.carried c.from-end.result c.carried_over.result (sym c.is_silent.ensures ∙ c.if-is_silent.true) c.from-end.ensures c.carried_over.ensures)

pub returns : goal.returns
returns c =
    let a = c.args in
    rw (le-leb _ _ c.if-plan-lt-PLAN_NUMBERS.false)
    (finish a.plan.now _ c.walk_map-w.result a.carried c.carried_over-2.result (planned_of a.own a.map.now a.carried) c.walk_map-w.ensures.0 c.if-plan-lt-PLAN_NUMBERS.false (c.walk_map-w.ensures.1 ∙ from_start a.own a.map.now a.plan.now a.carried) c.carried_over-2.ensures)
