-- `messages::checking::gather` meets its contract.
use mathlib.Core.Path.{◌≡◌, ◌∙◌, sym, ap}
use Prim.Native.Nat.{ℕ, ◌+◌, ◌-◌, ◌*◌}
use native.Mathlib.Omega.{arith}
use lib.ListN.{length, take, drop, length-set}
use Rattle.messages.specs.Checking.{by_usual_lem, Gathered}
use Rattle.messages.proofs.Verdicts.{joined, not-joined}
use Rattle.messages.proofs.checking.gather.Goals.{Joined-marks-p-eq-NOT_ASKED, then-marks-p-eq-NOT_ASKED+then-joins, else-marks-p-eq-NOT_ASKED}
use Rattle.messages.proofs.checking.gather.Goals as goal

-- whether the message joins or not, it is a group
gathered
    : (c : Joined-marks-p-eq-NOT_ASKED)
    → (Gathered c.args.usual c.args.messages.now c.args.base c.args.i c.if-marks-p-eq-NOT_ASKED.places c.if-marks-p-eq-NOT_ASKED.count) × (length c.if-marks-p-eq-NOT_ASKED.places ≡ 8)
gathered c =
    let a = c.args in
    let l = c.loop-p in
    let b = a.messages.now in
    let e : 48 * l.p + 48 - 48 * l.p ≡ 48 = omega arith in
    elim c.if-marks-p-eq-NOT_ASKED.branch [
      | then-marks-p-eq-NOT_ASKED+then-joins w ↦ (
        joined a.usual b a.base a.i l.places l.count l.invariant.1 l.invariant.0 l.p _ _ w.places-is w.count-is (omega arith) (omega arith)
            (ap (λ (k : ℕ). by_usual_lem (take k (drop (48 * l.p) b))) (sym e) ∙ w.joins.ensures w.if-joins.true),
        ap length w.places-is ∙ simp length-set l.invariant.1,
      )
      | else-marks-p-eq-NOT_ASKED w ↦
          (not-joined a.usual b a.base a.i l.places l.count l.invariant.1 l.invariant.0 _ _ w.places-is w.count-is, ap length w.places-is ∙ l.invariant.1)
    ]

pub loop-p-preserved : goal.loop-p-preserved
loop-p-preserved c =
    let l = c.loop-p.invariant in
    ((gathered (goal.at.loop-p-preserved c).Joined-marks-p-eq-NOT_ASKED).0, (gathered (goal.at.loop-p-preserved c).Joined-marks-p-eq-NOT_ASKED).1, l.2, l.3, omega arith)
