-- `bench_exports::message_checks::count_genuine` meets its contract: the count so far, with that of the messages still to come.
use mathlib.Core.Path.{◌≡◌, ◌∙◌, ap}
use native.Mathlib.Omega.{arith}
use native.Mathlib.Nat.{sub-zero}
use Prim.Native.Nat.{ℕ, ◌+◌, ◌-◌, ◌*◌}
use lib.ListN.{take, drop}
use Rattle.integrity.specs.Integrity.{genuine_by}
use Rattle.bench_exports.specs.Messages.{one_if_lem}
use Rattle.bench_exports.proofs.Counted.{counted, counted_all, counted_one}
use Rattle.bench_exports.proofs.message_checks.count_genuine.Goals as goal

pub loop-i-init : goal.loop-i-init
loop-i-init c = (rw sub-zero (omega arith), omega arith)

pub overflow_add-sum : goal.overflow_add-sum
overflow_add-sum c = omega (arith, (counted_one _ _ c.from-sum.ensures).1, c.loop-i.invariant.1)

pub loop-i-preserved : goal.loop-i-preserved
loop-i-preserved c =
    let a = c.args in
    let l = c.loop-i in
    let e : 48 * l.i + 48 - 48 * l.i ≡ 48 = omega arith in
    let g = c.genuine.ensures ∙ ap (λ (k : ℕ). genuine_by a.usual a.installed (take k (drop (48 * l.i) a.messages.now))) e in
    let one = counted_one _ _ c.from-sum.ensures in (
      counted a.usual a.installed a.messages.now _ l.i l.sum _ c.loop-i-test.true (one.0 ∙ ap one_if_lem g) ∙ l.invariant.0,
      omega (arith, one.1, l.invariant.1),
    )

pub returns : goal.returns
returns c =
    let a = c.args in
    let l = c.loop-i in
    counted_all a.usual a.installed a.messages.now _ l.i l.sum c.loop-i-test.false ∙ l.invariant.0
