-- `messages::receive_each` meets its contract.
use mathlib.Core.Path.{◌≡◌, refl, sym, ◌∙◌}
use native.Mathlib.Omega.{arith}
use Prim.Native.Nat.{◌/◌}
use lib.ListN.{length}
use Rattle.effects.specs.Changes.{applied}
use Rattle.messages.proofs.Receiving.{each_end}
use Rattle.messages.proofs.PassingOver.{turn_on, turn-passed}
use Rattle.messages.proofs.Verdicts.{none_known}
use Rattle.messages.proofs.Asking.{stays, delays}
use Rattle.messages.proofs.receive_each.Goals.{Joined-asked_by, in-Nothing, in-Delay, in-More}
use Rattle.messages.proofs.receive_each.Goals as goal

-- whichever way the effect is applied, it is
settled : (c : Joined-asked_by) → c.match-asked_by.next ≡ applied c.loop-i.next c.considered-c.result.effect
settled c =
    let s = c.loop-i.next in
    let e = c.considered-c.result.effect in
    let a = c.asked_by.ensures in
    elim c.match-asked_by.branch [
      | in-Nothing w ↦ w.next-is ∙ sym (stays s e (sym a ∙ w.in-Nothing.is))
      | in-Delay w ↦ w.next-is ∙ sym (delays s e w.in-Delay.delay (sym a ∙ w.in-Delay.is))
      | in-More w ↦ w.next-is ∙ w.apply-next.ensures
    ]

pub loop-i-init : goal.loop-i-init
loop-i-init c = (refl, refl, omega arith, omega arith, none_known _ _)

pub loop-i-smaller : goal.loop-i-smaller
loop-i-smaller c =
    let a = c.args in
    let l = c.loop-i in
    let h = turn_on a.usual a.installed a.messages.now (length a.messages.now / 48) l.i c.past_inert-i.result c.match-asked_by.next c.is_full.result c.past_inert-i.ensures in
    let k = c.loop-i-test.true in
    omega arith

pub loop-i-preserved : goal.loop-i-preserved
loop-i-preserved c =
    let a = c.args in
    let l = c.loop-i in
    let k = c.considered-c.ensures in
    let h = turn_on a.usual a.installed a.messages.now (length a.messages.now / 48) l.i c.past_inert-i.result c.match-asked_by.next c.is_full.result c.past_inert-i.ensures in
    let r = settled (goal.at.loop-i-preserved c).Joined-asked_by ∙ k.0 in
    (l.invariant.0, turn-passed a.usual a.installed a.messages.now _ l.i _ _ _ c.past_inert-i.ensures l.next c.loop-i-test.true r c.is_full.ensures ∙ l.invariant.1, l.invariant.2, omega (arith, k.1), k.2)

pub returns : goal.returns
returns c =
    let a = c.args in
    let l = c.loop-i in
    each_end a.usual a.installed a.messages.now _ l.i l.next c.loop-i-test.false ∙ l.invariant.1
