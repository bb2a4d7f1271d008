-- The demands bite: an engine that handles the first XGEM frame of a payload does not keep its counts. In O5 a frame brings two SDUs
-- of eight bytes for the management port: 24 bytes of deliveries, and this engine counts 12.
-- Assumes nothing.
use Prim.Native.Nat.{ℕ}
use native.Mathlib.Omega.{arith}
use mathlib.Core.Path.{◌≡◌, ◌∙◌, refl, sym, ap, ap₂, subst}
use mathlib.Core.Bool.{true, false, cond}
use mathlib.Core.List.{List, [], ◌∷◌}
use lib.Dec.{lit<}
use lib.Count.{ones_in}
use lib.ListN.{length, take, drop, replicate}
use Rattle.hec.specs.Reads.{word}
use Rattle.hec.proofs.Compute.{computed32, computed64}
use Rattle.bch.specs.Code.{remainder_from}
use Rattle.flips.proofs.FlipRule.{flips}
use Rattle.ids.specs.declared.PortId.{PortId}
use Rattle.ids.specs.Ids.{management_port_lem}
use Rattle.xgtc.specs.declared.hlend.Hlend.{Hlend}
use Rattle.xgtc.specs.Layouts.{hlend_of}
use Rattle.xgtc.specs.Reads.{read_hlend_lem}
use Rattle.xgem.specs.declared.frame.XgemHeader.{XgemHeader}
use Rattle.xgem.specs.Layouts.{xgem_of}
use Rattle.xgem.specs.Reads.{Found, fields, unreadable, short, taken}
use Rattle.station.specs.declared.Station.{Station}
use Rattle.answers.specs.Answers.{answer_number}
use Rattle.payload.specs.declared.frames.Next.TheVariants.{Frame, Done}
use Rattle.payload.specs.Frames.{Xgem, Parsed, ahead, next_of, parse}
use Rattle.payload.specs.Memory.{Receiver, delivery, partial, taken as received-frame, done as done-frame}
use Rattle.payload.specs.Deliveries.{deliveries_of}
use Rattle.payload.specs.Walk.{walk_of, left_by, steps, delineation_of}
use Rattle.payload.proofs.Walks.{parse-next, parse-done}
use Rattle.downstream.specs.Partitions.{payload_of}
use Rattle.frame.specs.Given.{Arrival, Lent, lending}
use Rattle.frame.specs.Frame.{FrameLeft, answer_to_lem, planned_in, replies_in, payload_in, found_by, done, handled, frame_left}
use Rattle.engine.specs.Answers.{Row}
use Rattle.engine.specs.Counts.{receiving, xgem_frames}
use Rattle.engine.specs.Lods.{lost_left}
use Rattle.engine.proofs.Table.{only}
use Rattle.demands.specs.Runs.{Call, frame, lend, is_done_lem, run_of}
use Rattle.demands.specs.Promises.{Counted, TrueCounts}
use Rattle.demands.specs.Wrong.{read_by, first_xgem_in, first_xgem}
use Rattle.demands.proofs.RefutingRuns.{serial, registration, fresh, memory, buffers, lent, arrives, Stands, begun, Leads, on, bare, no_entries, reads-bare, searching, left-bare, bare_leads}
use Rattle.demands.proofs.Activated.{operating, activating, three_messages, reads_activating, handled_activating, activated}

abbrev call : Station → Arrival → Lent → FrameLeft
call s a l = read_by (read_hlend_lem a.octets) (λ h. first_xgem_in h s a l) (frame_left s a l)

-- ---- to O5, where it goes as it should

bare_goes : call fresh (arrives bare) lent ≡ frame_left fresh (arrives bare) lent
unfolding handled
bare_goes = ap (λ (r : Found Hlend). read_by r (λ h. first_xgem_in h fresh (arrives bare) lent) (frame_left fresh (arrives bare) lent)) reads-bare ∙ left-bare

activating_goes : call searching (arrives activating) lent ≡ frame_left searching (arrives activating) lent
unfolding handled
activating_goes =
    ap (λ (r : Found Hlend). read_by r (λ h. first_xgem_in h searching (arrives activating) lent) (frame_left searching (arrives activating) lent)) reads_activating
    ∙ (only searching (arrives activating) lent 0 (handled searching three_messages (arrives activating) lent) (Row.done handled_activating)).0

calls : List Call
calls = frame (arrives bare) buffers ∷ frame (arrives activating) buffers ∷ []

reached : Stands (run_of first_xgem serial registration memory calls) operating operating
unfolding calls
reached =
    let k1 = on call lost_left _ fresh fresh begun bare searching searching bare_leads (subst (λ (x : FrameLeft). Leads x searching) (sym bare_goes) bare_leads) in
    on call lost_left _ searching searching k1 activating operating operating activated (subst (λ (x : FrameLeft). Leads x operating) (sym activating_goes) activated)

-- ---- the frame: HLend that counts nothing, and twice eight bytes for port 5 behind their header

sdu : List ℕ
sdu = replicate 8 0

header : XgemHeader
header = record { pli = 8; key = 0; port = record { 0 = 5 }; options = 0; last = true }

delivering : List ℕ
delivering = 0 ∷ 0 ∷ 0 ∷ 0 ∷ 0 ∷ 32 ∷ 0 ∷ 5 ∷ 0 ∷ 0 ∷ 43 ∷ 188 ∷ 0 ∷ 0 ∷ 0 ∷ 0 ∷ 0 ∷ 0 ∷ 0 ∷ 0 ∷ 0 ∷ 32 ∷ 0 ∷ 5 ∷ 0 ∷ 0 ∷ 43 ∷ 188 ∷ 0 ∷ 0 ∷ 0 ∷ 0 ∷ 0 ∷ 0 ∷ 0 ∷ 0 ∷ []

reads_delivering : read_hlend_lem delivering ≡ fields no_entries
unfolding delivering no_entries remainder_from ones_in flips
reads_delivering = ap (taken hlend_of) (computed32 0 (lit< tt) (word 0) refl)

frame_at : ℕ → Xgem
frame_at place = record { port = record { 0 = 5 }; last = true; key = 0; place = place; body = sdu }

next-first : next_of (payload_of no_entries delivering) ≡ Frame header
unfolding delivering no_entries header remainder_from ones_in flips
next-first = ap (λ (r : Found XgemHeader). ahead r 32) (ap (taken xgem_of) (computed64 0x0020000500002BBC (lit< tt) (word 0x0020000500002BBC) refl))

next-second : next_of (drop 16 (payload_of no_entries delivering)) ≡ Frame header
unfolding delivering no_entries header remainder_from ones_in flips
next-second = ap (λ (r : Found XgemHeader). ahead r 16) (ap (taken xgem_of) (computed64 0x0020000500002BBC (lit< tt) (word 0x0020000500002BBC) refl))

parsed : parse 4 (payload_of no_entries delivering) ≡ record { frames = frame_at 4 ∷ frame_at 20 ∷ []; lost = false }
unfolding delivering no_entries header frame_at sdu
parsed =
    parse-next 4 (payload_of no_entries delivering) header next-first
    ∙ ap (λ (p : Parsed). record { frames = frame_at 4 ∷ p.frames; lost = p.lost })
    (parse-next 20 (drop 16 (payload_of no_entries delivering)) header next-second
    ∙ ap (λ (p : Parsed). record { frames = frame_at 20 ∷ p.frames; lost = p.lost }) (parse-done 36 [] refl))

-- ---- what is counted, and what was written

goes : call operating (arrives delivering) lent ≡ first_xgem_in no_entries operating (arrives delivering) lent
goes = ap (λ (r : Found Hlend). read_by r (λ h. first_xgem_in h operating (arrives delivering) lent) (frame_left operating (arrives delivering) lent)) reads_delivering

counts_one : (first_xgem_in no_entries operating (arrives delivering) lent).counts.bytes ≡ 12
unfolding done no_entries steps received-frame done-frame frame_at sdu
counts_one = ap (λ (p : Parsed). (steps (management_port_lem operating.link.onu) (record { ports = operating.ports; bytes = 0; memory = memory; deliveries = buffers.deliveries }) (take 1 p.frames)).bytes) parsed

answers_0 : answer_number (first_xgem_in no_entries operating (arrives delivering) lent).outcome.answer ≡ 0
unfolding done no_entries payload_in walk_of left_by
answers_0 = ap (λ (p : Parsed). answer_number (answer_to_lem (delineation_of p.lost))) parsed

brings_two : length (deliveries_of (management_port_lem operating.link.onu) (record { ports = operating.ports; bytes = 0; memory = memory; deliveries = buffers.deliveries }) (parse 4 (payload_of no_entries delivering)).frames) ≡ 24
unfolding deliveries_of received-frame done-frame delivery partial frame_at sdu
brings_two = ap (λ (p : Parsed). length (deliveries_of (management_port_lem operating.link.onu) (record { ports = operating.ports; bytes = 0; memory = memory; deliveries = buffers.deliveries }) p.frames)) parsed

hlend_in : Found Hlend → Hlend
hlend_in (fields h) = h
hlend_in unreadable = no_entries
hlend_in short = no_entries

counted : TrueCounts first_xgem → Counted operating (arrives delivering) lent (first_xgem_in no_entries operating (arrives delivering) lent)
counted d =
    let st = run_of first_xgem serial registration memory calls in
    let own = subst (λ (s : Station). Counted s (arrives delivering) (lend st buffers) (call s (arrives delivering) (lend st buffers))) reached.station
    (d serial registration memory calls (arrives delivering) buffers) in
    let kept = subst (λ (m : List ℕ). Counted operating (arrives delivering) (lending m buffers.plan buffers.replies buffers.deliveries) (call operating (arrives delivering) (lending m buffers.plan buffers.replies buffers.deliveries))) reached.memory own in
    subst (Counted operating (arrives delivering) lent) goes kept

pub first-xgem : TrueCounts first_xgem → ⊥
unfolding hlend_in no_entries
first-xgem d =
    let h = (counted d).done (ap is_done_lem answers_0) in
    let one : h.hlend ≡ no_entries = ap hlend_in (sym h.reads ∙ reads_delivering) in
    let n : ◌≡◌ {A = ℕ} 12 24
    = sym counts_one ∙ h.received.count
    ∙ ap (λ (x : Hlend). length (deliveries_of (management_port_lem operating.link.onu) (receiving operating lent) (xgem_frames operating x delivering))) one
    ∙ brings_two in
    omega (arith, n)
