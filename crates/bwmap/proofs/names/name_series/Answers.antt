-- `bwmap::names::name_series` meets its contract.
use mathlib.Core.Path.{◌∙◌, sym}
use native.Mathlib.Omega.{arith}
use Rattle.bwmap.proofs.Courses.{moved, unmoved, few-before, series-named}
use Rattle.bwmap.proofs.names.name_series.Goals as goal

pub overflow_add-result-then-is_planned : goal.overflow_add-result-then-is_planned
overflow_add-result-then-is_planned c =
    let a = c.args in
    omega (arith, few-before a.around a.s c.judge-verdict.result c.judge-verdict.ensures (sym c.is_planned.ensures ∙ c.if-is_planned.true))

pub returns-then-is_planned : goal.returns-then-is_planned
returns-then-is_planned c =
    let a = c.args in
    (moved a.around a.s c.judge-verdict.result c.judge-verdict.ensures c.requires.1 (sym c.is_planned.ensures ∙ c.if-is_planned.true), series-named a.around a.s c.judge-verdict.result c.judge-verdict.ensures a.names.now _ a.i c.number.result c.number.ensures c.fill.ensures)

pub returns-else-is_planned : goal.returns-else-is_planned
returns-else-is_planned c =
    let a = c.args in
    (unmoved a.around a.s c.judge-verdict.result c.judge-verdict.ensures c.requires.1 (sym c.is_planned.ensures ∙ c.if-is_planned.false), series-named a.around a.s c.judge-verdict.result c.judge-verdict.ensures a.names.now _ a.i c.number.result c.number.ensures c.fill.ensures)
