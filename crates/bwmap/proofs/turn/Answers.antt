-- `bwmap::turn` meets its contract.
use native.Mathlib.Omega.{arith}
use Rattle.bwmap.proofs.Steps.{move-past}
use Rattle.bwmap.proofs.Opens.{sizes, plan-next, marked}
use Rattle.bwmap.proofs.turn.Goals as goal

pub overflow_sub-at : goal.overflow_sub-at
overflow_sub-at c =
    let a = c.args in
    omega (arith, sizes a.own a.map.now a.plan.now a.w _ _ (rw c.in-Some.is at c.next_planned.ensures))

pub overflow_sub-more : goal.overflow_sub-more
overflow_sub-more c =
    let a = c.args in
    omega (arith, sizes a.own a.map.now a.plan.now a.w _ _ (rw c.in-Some.is at c.next_planned.ensures))

pub allocation_at-h-requires : goal.allocation_at-h-requires
allocation_at-h-requires c =
    let a = c.args in
    omega (arith, sizes a.own a.map.now a.plan.now a.w _ _ (rw c.in-Some.is at c.next_planned.ensures))

pub overflow_add-at : goal.overflow_add-at
overflow_add-at c =
    let a = c.args in
    omega (arith, sizes a.own a.map.now a.plan.now a.w _ _ (rw c.in-Some.is at c.next_planned.ensures))

pub write_series-requires : goal.write_series-requires
write_series-requires c =
    let a = c.args in
    let t = sizes a.own a.map.now a.plan.now a.w _ _ (rw c.in-Some.is at c.next_planned.ensures) in
    (omega (arith, t), omega (arith, t, c.requires.1, c.requires.2.room))

pub overflow_add-result-in-Some : goal.overflow_add-result-in-Some
overflow_add-result-in-Some c =
    let a = c.args in
    omega (arith, sizes a.own a.map.now a.plan.now a.w _ _ (rw c.in-Some.is at c.next_planned.ensures), c.requires.2.room)

pub overflow_add-result-in-Some-2 : goal.overflow_add-result-in-Some-2
overflow_add-result-in-Some-2 c =
    let a = c.args in
    omega (arith, sizes a.own a.map.now a.plan.now a.w _ _ (rw c.in-Some.is at c.next_planned.ensures), c.requires.2.sent, (marked _ _ c.from.ensures).1)

pub overflow_add-result-in-Some-3 : goal.overflow_add-result-in-Some-3
overflow_add-result-in-Some-3 c =
    let a = c.args in
    omega (arith, sizes a.own a.map.now a.plan.now a.w _ _ (rw c.in-Some.is at c.next_planned.ensures))

pub overflow_add-result-in-Some-4 : goal.overflow_add-result-in-Some-4
overflow_add-result-in-Some-4 c =
    let a = c.args in
    omega (arith, sizes a.own a.map.now a.plan.now a.w _ _ (rw c.in-Some.is at c.next_planned.ensures))

pub returns-in-Some : goal.returns-in-Some
returns-in-Some c =
    let a = c.args in
    let s = c.requires.2 in
    let d = rw c.in-Some.is at c.next_planned.ensures in
    let t = sizes a.own a.map.now a.plan.now a.w _ _ d in
    (record { few = omega (arith, t); room = omega (arith, t, s.room); sent = omega (arith, s.sent, (marked _ _ c.from.ensures).1); low = omega (arith, t) }, t.3, t.4, plan-next a.own a.map.now a.plan.now a.w _ _ d c.allocation_at-h.result c.allocation_at-h.ensures _ _ c.write_series.ensures (marked _ _ c.from.ensures).0)

pub returns-in-None : goal.returns-in-None
returns-in-None c =
    let a = c.args in
    let s = c.requires.2 in
    let n = rw c.in-None.is at c.next_planned.ensures in
    (record { few = s.few; room = s.room; sent = s.sent; low = omega (arith, s.low) }, c.requires.0, omega arith, move-past a.own a.map.now a.plan.now a.w n)
