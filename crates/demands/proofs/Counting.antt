-- The counts are true at every frame of a run of this engine.
-- Assumes nothing.
use Prim.Native.Nat.{ℕ, suc, ◌+◌}
use native.Mathlib.Omega.{arith}
use mathlib.Core.Path.{◌≡◌, ◌∙◌, refl, sym, ap, subst}
use mathlib.Core.Bool.{Bool, true, false, cond, true≢false}
use mathlib.Core.List.{List, [], ◌∷◌}
use lib.ListN.{length}
use Rattle.xgtc.specs.declared.allocation.Allocation.{Allocation}
use Rattle.xgtc.specs.declared.hlend.Hlend.{Hlend}
use Rattle.xgem.specs.Reads.{fields}
use Rattle.xgtc.specs.Reads.{read_hlend_lem}
use Rattle.station.specs.declared.Station.{Station}
use Rattle.answers.specs.declared.Answer.{Answer}
use Rattle.answers.specs.declared.Answer.TheVariants.{StateOutOfRange, FrameLengthUnfit, BufferTooShort, HlendUnreadable, HeaderTooLong}
use Rattle.answers.specs.Answers.{answer_number}
use Rattle.timing.specs.Timing.{unread_time_lem}
use Rattle.series.specs.Series.{Series}
use Rattle.plan.specs.Plan.{records, messages}
use Rattle.plan.specs.Laser.{grants_of, bursts_of}
use Rattle.plan.proofs.ReadBack.{laser-obeys, plan-kept}
use Rattle.invariants.proofs.InRange.{Sound}
use Rattle.frame.specs.Given.{Arrival, Lent, buffers_fit}
use Rattle.frame.specs.Frame.{FrameLeft, refused, planned_in, done, handled, frame_left}
use Rattle.frame.proofs.Laws.{room}
use Rattle.engine.specs.Answers.{Handled, Row}
use Rattle.engine.proofs.TrulyCounted.{received}
use Rattle.engine.proofs.Table.{table}
use Rattle.demands.specs.Runs.{is_done_lem}
use Rattle.demands.specs.Demand3.{sendings}
use Rattle.demands.specs.Promises.{grants_in, messages_in, Handed, Untouched, Counted}

length-grants : (l : List Allocation) → length (grants_of l) ≡ length l
length-grants [] = refl
length-grants (a ∷ l) = ap suc (length-grants l)

grants_are : (l : List Series) → grants_in (bursts_of l) ≡ records l
grants_are [] = refl
grants_are (s ∷ l) =
    let ih = grants_are l in
    let n = length-grants s.more in
    omega (arith, ih, n)

messages_are : (l : List Series) → messages_in (bursts_of l) ≡ messages l
messages_are [] = refl
messages_are (s ∷ l) = ap (λ (n : ℕ). cond s.head.ploamu 1 0 + n) (messages_are l)

module _ (s : Station) (a : Arrival) (lent : Lent) (k : Sound s) where
  -- nothing is counted
  plain : (answer : Answer) (next : Station) → is_done_lem (answer_number answer) ≡ false → Counted s a lent (refused answer next lent)
  plain answer next f =
      record {
        records = refl;
        replies = refl;
        plan = refl;
        done = λ t. absurd (true≢false (sym t ∙ f));
        otherwise = λ t. record { counts = refl; deliveries = refl; memory = refl };
      }

  handled-counted : (h : Hlend) → read_hlend_lem a.octets ≡ fields h → buffers_fit a lent ≡ true → is_done_lem (answer_number (handled s h a lent).outcome.answer) ≡ true
      → Counted s a lent (handled s h a lent)
  unfolding handled done
  handled-counted h reads fit answered =
      let l = planned_in s h a in
      let sent : sendings (handled s h a lent) ≡ bursts_of l = laser-obeys l lent.plan in
      record {
        records = sym (ap grants_in sent ∙ grants_are l);
        replies = sym (ap messages_in sent ∙ messages_are l);
        plan = plan-kept l lent.plan;
        done = λ t. record { hlend = h; reads = reads; received = received s h a lent k (room a lent fit) };
        otherwise = λ t. absurd (true≢false (sym answered ∙ t));
      }

  by-handled : (lost : Bool) (left : FrameLeft) → Handled s a lent lost left → is_done_lem (answer_number left.outcome.answer) ≡ true → Counted s a lent left
  by-handled lost left r answered =
      subst (Counted s a lent) (sym r.leaves)
      (handled-counted r.hlend r.reads r.passed.buffers (ap (λ (x : FrameLeft). is_done_lem (answer_number x.outcome.answer)) (sym r.leaves) ∙ answered))

  by_row : (n : ℕ) (left : FrameLeft) → answer_number left.outcome.answer ≡ n → Row s a lent left n → Counted s a lent left
  by_row n left e (Row.done r) = by-handled false left r (ap is_done_lem e)
  by_row n left e (Row.state_out_of_range p q) = subst (Counted s a lent) (sym q) (plain StateOutOfRange s refl)
  by_row n left e (Row.frame_length_unfit p o q) = subst (Counted s a lent) (sym q) (plain FrameLengthUnfit s refl)
  by_row n left e (Row.buffer-too-short p o r q) = subst (Counted s a lent) (sym q) (plain BufferTooShort s refl)
  by_row n left e (Row.hlend_unreadable p o q) = subst (Counted s a lent) (sym q) (plain HlendUnreadable (unread_time_lem s) refl)
  by_row n left e (Row.header_too_long t q) = subst (Counted s a lent) (sym q) (plain HeaderTooLong (unread_time_lem s) refl)
  by_row n left e (Row.delineation_lost r) = by-handled true left r (ap is_done_lem e)

  pub frame-counted : Counted s a lent (frame_left s a lent)
  frame-counted = by_row (answer_number (frame_left s a lent).outcome.answer) (frame_left s a lent) refl (table s a lent)
