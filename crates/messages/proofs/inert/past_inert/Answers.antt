-- `messages::inert::past_inert` meets its contract.
use mathlib.Core.Path.{◌≡◌, ◌∙◌, sym, ap}
use mathlib.Core.Bool.{true, false}
use native.Mathlib.Omega.{arith}
use Prim.Native.Nat.{ℕ, ◌+◌, ◌-◌, ◌*◌}
use lib.ListN.{take, drop}
use Rattle.ploam.specs.Layout.{message_at}
use Rattle.messages.specs.Inert.{inert}
use Rattle.messages.proofs.PassingOver.{past-turn, past-found, past_end}
use Rattle.messages.proofs.inert.past_inert.Goals as goal

pub returns-then-not-is_inert : goal.returns-then-not-is_inert
returns-then-not-is_inert c =
    let a = c.args in
    let l = c.loop-i in
    let e : 48 * l.i + 48 - 48 * l.i ≡ 48 = omega arith in
    let r : inert a.onu a.full (message_at a.messages.now l.i) ≡ false = ap (λ (k : ℕ). inert a.onu a.full (take k (drop (48 * l.i) a.messages.now))) (sym e) ∙ sym c.is_inert.ensures ∙ c.if-not-is_inert.true in
    past-found a.onu a.full a.messages.now _ l.i c.loop-i-test.true r ∙ l.invariant.1

pub loop-i-preserved : goal.loop-i-preserved
loop-i-preserved c =
    let a = c.args in
    let l = c.loop-i in
    let e : 48 * l.i + 48 - 48 * l.i ≡ 48 = omega arith in
    let r : inert a.onu a.full (message_at a.messages.now l.i) ≡ true = ap (λ (k : ℕ). inert a.onu a.full (take k (drop (48 * l.i) a.messages.now))) (sym e) ∙ sym c.is_inert.ensures ∙ c.if-not-is_inert.false in
    (l.invariant.0, past-turn a.onu a.full a.messages.now _ l.i c.loop-i-test.true r ∙ l.invariant.1, omega arith)

pub returns : goal.returns
returns c =
    let a = c.args in
    let l = c.loop-i in
    let e : c.max.result ≡ l.i = omega (arith, c.max.ensures, l.invariant.2) in
    e ∙ past_end a.onu a.full a.messages.now _ l.i c.loop-i-test.false ∙ l.invariant.1
