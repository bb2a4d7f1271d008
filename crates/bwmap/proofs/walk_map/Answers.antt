-- `bwmap::walk_map` meets its contract.
use mathlib.Core.Path.{◌∙◌, refl, ap}
use Prim.Native.Nat.{ℕ}
use native.Mathlib.Omega.{arith}
use borrow.Author.Rules.{rules}
use Rattle.bwmap.specs.Turns.{to_come, starting}
use Rattle.bwmap.proofs.Steps.{walk_done, walk_full}
use Rattle.bwmap.proofs.walk_map.Goals as goal

pub loop-w-init : goal.loop-w-init
loop-w-init c = (record { few = search rules; room = search rules; sent = search rules; low = omega (arith, c.from.ensures) }, refl, ap (λ (e : ℕ). to_come c.args.own c.args.map.now c.args.plan.now (starting e)) c.from.ensures)

pub returns-then-w-ge-BURSTS_A_FRAME : goal.returns-then-w-ge-BURSTS_A_FRAME
returns-then-w-ge-BURSTS_A_FRAME c = (c.loop-w.invariant.0, walk_full c.args.own c.args.map.now c.loop-w.plan c.loop-w.w c.if-w-ge-BURSTS_A_FRAME.true ∙ c.loop-w.invariant.2)

pub returns : goal.returns
returns c = (c.loop-w.invariant.0, walk_done c.args.own c.args.map.now c.loop-w.plan c.loop-w.w c.loop-w-test.false ∙ c.loop-w.invariant.2)
