-- `bwmap::search::next_planned` meets its contract.
use mathlib.Core.Path.{◌≡◌, ◌∙◌, refl, sym}
use Prim.Native.Nat.{◌+◌, ◌≤◌}
use native.Mathlib.Omega.{arith}
use Rattle.series.specs.Series.{entry_count}
use Rattle.bwmap.specs.Turns.{Stage, between}
use Rattle.series.proofs.Opens.{closed-modest}
use Rattle.bwmap.proofs.Opens.{reached, none_left, ended, head-stops, apart-stops, more-stops, Open-next, pass-stray, pass-by, go-further}
use Rattle.bwmap.proofs.search.next_planned.Goals.{in-Head+else-fits, in-More+then-goes_on, in-More+else-goes_on+else-fits-2, in-Apart+else-fits-3}
use Rattle.bwmap.proofs.search.next_planned.Goals as goal

pub loop-i-init : goal.loop-i-init
loop-i-init c = (omega arith, c.requires, closed-modest _ c.closed-s.ensures, between c.closed-s.ensures refl)

pub returns-then-fits : goal.returns-then-fits
returns-then-fits c =
    let a = c.args in
    let l = c.loop-i in
    reached a.own a.map.now a.around a.from l.i l.s l.invariant.3 (head-stops a.own a.map.now a.around a.from l.i l.s _ c.loop-i-test.true c.read_at.ensures c.in-Head.h c.in-Head.is) (sym c.fits.ensures ∙ c.if-fits.true) l.invariant.2.start l.invariant.1

pub returns-then-fits-2 : goal.returns-then-fits-2
returns-then-fits-2 c =
    let a = c.args in
    let l = c.loop-i in
    reached a.own a.map.now a.around a.from l.i l.s l.invariant.3 (more-stops a.own a.map.now a.around a.from l.i l.s _ c.loop-i-test.true c.read_at.ensures (sym c.goes_on.ensures ∙ c.if-goes_on.false)) (sym c.fits-else-goes_on.ensures ∙ c.if-fits-2.true) l.invariant.2.start l.invariant.1

pub returns-then-fits-3 : goal.returns-then-fits-3
returns-then-fits-3 c =
    let a = c.args in
    let l = c.loop-i in
    reached a.own a.map.now a.around a.from l.i l.s l.invariant.3 (apart-stops a.own a.map.now a.around a.from l.i l.s _ c.loop-i-test.true c.read_at.ensures _ c.in-Apart.is) (sym c.fits-in-Apart.ensures ∙ c.if-fits-3.true) l.invariant.2.start l.invariant.1

pub loop-i-preserved : goal.loop-i-preserved
loop-i-preserved c =
    let a = c.args in
    let l = c.loop-i in
    let on : l.i + 1 ≤ entry_count a.map.now = omega (arith, c.loop-i-test.true) in
    let from : a.from ≤ l.i + 1 = omega (arith, l.invariant.0) in
    elim c.match-read_at.branch [
      | in-Head+else-fits w ↦ rw w.s-is (from, on, w.opened-s.ensures.1, Open-next a.own a.map.now a.around a.from l.i l.s _ c.loop-i-test.true c.read_at.ensures w.in-Head.h _ w.in-Head.is w.opened-s.ensures.0 l.invariant.0 l.invariant.3 (sym w.fits.ensures ∙ w.if-fits.false))
      | in-More+then-goes_on w ↦ rw w.s-is (from, on, w.joined-s.ensures.1, go-further a.own a.map.now a.around a.from l.i l.s _ c.loop-i-test.true c.read_at.ensures w.in-More.a _ w.in-More.is w.joined-s.ensures.0 (sym w.goes_on.ensures ∙ w.if-goes_on.true) l.invariant.3)
      | in-More+else-goes_on+else-fits-2 w ↦ rw w.s-is (from, on, closed-modest _ w.closed-s-else-goes_on.ensures, pass-stray a.own a.map.now a.around a.from l.i l.s _ c.loop-i-test.true c.read_at.ensures w.in-More.a _ w.in-More.is w.closed-s-else-goes_on.ensures (sym w.goes_on.ensures ∙ w.if-goes_on.false) l.invariant.3 (sym w.fits-else-goes_on.ensures ∙ w.if-fits-2.false))
      | in-Apart+else-fits-3 w ↦ rw w.s-is (from, on, closed-modest _ w.closed-s-in-Apart.ensures, pass-by a.own a.map.now a.around a.from l.i l.s _ c.loop-i-test.true c.read_at.ensures _ _ w.in-Apart.is w.closed-s-in-Apart.ensures l.invariant.3 (sym w.fits-in-Apart.ensures ∙ w.if-fits-3.false))
    ]

pub returns-then-fits-4 : goal.returns-then-fits-4
returns-then-fits-4 c =
    let a = c.args in
    let l = c.loop-i in
    let n = entry_count a.map.now in
    let e : l.i ≡ n = omega (arith, l.invariant.1) in
    let stage : Stage a.own a.map.now a.around a.from n l.s = rw (← e) l.invariant.3 in
    reached a.own a.map.now a.around a.from n l.s stage (ended a.own a.map.now a.around a.from n l.s (omega arith)) (sym c.fits-2.ensures ∙ c.if-fits-4.true) l.invariant.2.start (omega arith)

pub returns : goal.returns
returns c =
    let a = c.args in
    let l = c.loop-i in
    none_left a.own a.map.now a.around a.from l.i l.s l.invariant.3 c.loop-i-test.false (sym c.fits-2.ensures ∙ c.if-fits-4.false)
