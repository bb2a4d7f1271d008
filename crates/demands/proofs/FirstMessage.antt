-- The demands bite: an engine that handles the first message of a frame does not meet demand 3. A bare frame leads to O2-3, and one
-- with three messages to O5 with Alloc-ID 1024: the ledger lists it, and this engine, which stays in O4, does not hold it.
-- Assumes nothing.
use Prim.Native.Nat.{ℕ}
use mathlib.Core.Path.{◌≡◌, ◌∙◌, refl, sym, ap, subst}
use mathlib.Core.Bool.{true, false, false≢true}
use mathlib.Core.List.{List, [], ◌∷◌}
use lib.ListN.{take}
use Rattle.xgtc.specs.declared.hlend.Hlend.{Hlend}
use Rattle.xgem.specs.Reads.{Found}
use Rattle.xgtc.specs.Reads.{read_hlend_lem}
use Rattle.station.specs.declared.Station.{Station}
use Rattle.answers.specs.Answers.{answer_number}
use Rattle.timing.specs.Timing.{frame_end_lem}
use Rattle.effects.specs.Changes.{identify}
use Rattle.messages.specs.Receiving.{receive_all}
use Rattle.ledger.specs.Ledger.{holds}
use Rattle.frame.specs.Given.{Arrival, Lent}
use Rattle.frame.specs.Frame.{FrameLeft, planned_in, replies_in, payload_in, found_by, done, handled, frame_left}
use Rattle.engine.specs.Answers.{Row}
use Rattle.engine.specs.Lods.{lost_left}
use Rattle.engine.proofs.Table.{only}
use Rattle.demands.specs.Runs.{Call, frame, run_of}
use Rattle.demands.specs.Demand3.{Demand3}
use Rattle.demands.specs.Wrong.{read_by, first_message_in, first_message}
use Rattle.demands.proofs.RefutingRuns.{serial, registration, fresh, memory, buffers, lent, arrives, Stands, begun, Leads, on, must_hold, bare, no_entries, reads-bare, searching, left-bare, bare_leads}
use Rattle.demands.proofs.Activated.{signed, assign_onu, identified, operating, activating, three_messages, reads_activating, messages_activating, handled_activating, activating_keeps, to_o4, activated}

abbrev call : Station → Arrival → Lent → FrameLeft
call s a l = read_by (read_hlend_lem a.octets) (λ h. first_message_in h s a l) (frame_left s a l)

bare_goes : call fresh (arrives bare) lent ≡ first_message_in no_entries fresh (arrives bare) lent
bare_goes = ap (λ (r : Found Hlend). read_by r (λ h. first_message_in h fresh (arrives bare) lent) (frame_left fresh (arrives bare) lent)) reads-bare

bare_on : Leads (call fresh (arrives bare) lent) searching
unfolding handled done found_by planned_in replies_in payload_in bare no_entries frame_end_lem
bare_on =
    subst (λ (x : FrameLeft). Leads x searching) (sym bare_goes)
    (record { answer = ap (λ (x : FrameLeft). answer_number x.outcome.answer) left-bare ∙ bare_leads.answer; station = refl; memory = refl })

activating_goes : call searching (arrives activating) lent ≡ first_message_in three_messages searching (arrives activating) lent
activating_goes =
    ap (λ (r : Found Hlend). read_by r (λ h. first_message_in h searching (arrives activating) lent) (frame_left searching (arrives activating) lent)) reads_activating

-- it stays in O4
in-o4 : (first_message_in three_messages searching (arrives activating) lent).outcome.station ≡ identified
unfolding found_by planned_in replies_in payload_in three_messages frame_end_lem identified identify
in-o4 =
    ap (λ (l : List (List ℕ)). frame_end_lem (receive_all searching (take 1 l)) false) messages_activating
    ∙ ap (λ (s : Station). frame_end_lem s false) to_o4

activating_on : Leads (call searching (arrives activating) lent) identified
activating_on =
    subst (λ (x : FrameLeft). Leads x identified) (sym activating_goes)
    (record {
      answer = (only searching (arrives activating) lent 0 (handled searching three_messages (arrives activating) lent) (Row.done handled_activating)).1;
      station = in-o4;
      memory = activating_keeps;
    })

calls : List Call
calls = frame (arrives bare) buffers ∷ frame (arrives activating) buffers ∷ []

reached : Stands (run_of first_message serial registration memory calls) operating identified
unfolding calls
reached =
    let k1 = on call lost_left _ fresh fresh begun bare searching searching bare_leads bare_on in
    on call lost_left _ searching searching k1 activating operating identified activated activating_on

pub first-message : Demand3 first_message → ⊥
unfolding holds identified identify
first-message d = false≢true (must_hold call lost_left d calls operating identified reached 1024 refl)
