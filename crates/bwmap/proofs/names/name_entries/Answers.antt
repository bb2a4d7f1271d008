-- `bwmap::names::name_entries` meets its contract.
use mathlib.Core.Path.{◌≡◌, ◌∙◌, refl, ap, sym}
use Prim.Native.Nat.{ℕ}
use native.Mathlib.Omega.{arith}
use borrow.Author.Rules.{rules}
use Rattle.bwmap.proofs.Courses.{from-outset, all_named, names-put}
use Rattle.series.specs.Series.{entry_count}
use Rattle.bwmap.specs.Courses.{ended}
use Rattle.bwmap.proofs.names.name_entries.Goals as goal

pub loop-i-init : goal.loop-i-init
loop-i-init c =
    let a = c.args in
    let t = from-outset a.own a.map.now a.names.now _ a.carried _ _ refl c.from.ensures c.closed.ensures in
    (search rules, refl, t.0, t.1)

pub returns : goal.returns
returns c =
    let a = c.args in
    let l = c.loop-i in
    let e : l.i ≡ entry_count a.map.now = omega (arith, l.invariant.0) in
    all_named a.own a.map.now l.names _ l.i l.w c.loop-i-test.false l.invariant.2 (c.end_series.ensures.1 ∙ ap (λ (j : ℕ). ended l.names j l.w.around l.w.series) (sym e)) ∙ l.invariant.3 ∙ names-put a.own a.map.now a.names.now a.carried c.requires
