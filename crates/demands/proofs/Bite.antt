-- The demands bite: no engine that the paper shuts out by name meets them. Each is refuted by a run from power-on: of a bare frame, or of
-- that and one with two discovery grants. FirstMessage, FirstXgem and Forgets have those whose runs go to O5.
-- An engine that refuses all meets demand 3 to the letter: that demand is about what is sent and about frames answered 0 or 6,
-- and it sends nothing and answers no frame so. Demand 1 shuts it out: refusals are exact.
-- Assumes nothing.
use Prim.Native.Nat.{ℕ, ◌+◌}
use native.Mathlib.Omega.{arith}
use mathlib.Core.Path.{◌≡◌, ◌∙◌, refl, sym, ap, ap₂, subst}
use mathlib.Core.Bool.{true, false, true≢false, false≢true}
use mathlib.Core.List.{List, [], ◌∷◌}
use lib.ListN.{length, take, get_or, replicate}
use Rattle.xgtc.specs.declared.hlend.Hlend.{Hlend}
use Rattle.xgem.specs.Reads.{Found, fields, unreadable, short}
use Rattle.xgtc.specs.Reads.{read_hlend_lem}
use Rattle.station.specs.declared.Station.{Station}
use Rattle.answers.specs.Answers.{answer_number}
use Rattle.station.specs.Station.{power_on_lem}
use Rattle.validity.specs.Ranges.{in_range}
use Rattle.series.specs.Series.{Series}
use Rattle.plan.specs.Records.{head_flags_lem, burst_flags_lem}
use Rattle.plan.specs.Plan.{records, series_numbers, written}
use Rattle.plan.specs.Laser.{opens, granted, sending, laser}
use Rattle.payload.specs.Deliveries.{deliveries_of}
use Rattle.invariants.proofs.InRange.{sound_in_range, power_on_sound}
use Rattle.ledger.specs.Events.{station_of}
use Rattle.ledger.specs.Ledger.{ledger}
use Rattle.ledger.specs.Promises.{Holds}
use Rattle.ledger.specs.Plan.{own_of, Ours}
use Rattle.ledger.proofs.Runs.{ledger-exact}
use Rattle.ledger.proofs.Plan.{always_ours}
use Rattle.frame.specs.Given.{Arrival, Lent}
use Rattle.frame.specs.Frame.{FrameLeft, no_counts, planned_in, payload_in, done, handled, frame_left}
use Rattle.frame.specs.declared.Counts.{Counts}
use Rattle.engine.specs.Answers.{Row}
use Rattle.demands.specs.Runs.{Call, frame, lost, add_port_lem, remove_port_lem, give_key_lem, why_dark_lem, Progress, after, run, start, run_of}
use Rattle.demands.specs.Demand1.{Demand1}
use Rattle.demands.specs.Demand2.{Demand2}
use Rattle.demands.specs.Demand3.{sendings, bursts_from, Demand3}
use Rattle.demands.specs.Promises.{grants_in, messages_in, TrueCounts}
use Rattle.demands.specs.Wrong.{with_plan, read_by, refuses_all, fixed_plan, writes_nothing_lem, writes_no_header, first_structure_in, first_structure, invented_records, invented_replies, invented_bytes, one_serial_number}
use Rattle.demands.proofs.Runs.{Kept, call_kept, started}
use Rattle.demands.proofs.GivenIn.{given-in}
use Rattle.demands.proofs.RefutingRuns.{serial, registration, fresh, memory, buffers, lent, arrives, Leads, bare, no_entries, reads-bare, searching, left-bare, bare_leads}
use Rattle.demands.proofs.TwoGrants.{two, two_entries, grant_at, series_from, reads_two, left-two, answer_two, two-planned, sends_both}

-- two stations, one serial number
pub one-serial-number : Demand1 one_serial_number → ⊥
one-serial-number d =
    let n : ◌≡◌ {A = ℕ} 0 1 = ap (λ (l : List ℕ). get_or l 0 0) (d.power-on (1 ∷ replicate 7 0) registration).serial-number in
    omega (arith, n)

-- ---- refuses all

out_of_range : {s : Station} {a : Arrival} {l : Lent} {left : FrameLeft} {n : ℕ} → Row s a l left n → n ≡ 1 → in_range s ≡ false
out_of_range (Row.done r) e = absurd (omega (arith, e))
out_of_range (Row.state_out_of_range p q) e = p
out_of_range (Row.frame_length_unfit p q r) e = absurd (omega (arith, e))
out_of_range (Row.buffer-too-short p q r t) e = absurd (omega (arith, e))
out_of_range (Row.hlend_unreadable p q r) e = absurd (omega (arith, e))
out_of_range (Row.header_too_long p q) e = absurd (omega (arith, e))
out_of_range (Row.delineation_lost r) e = absurd (omega (arith, e))

-- the first frame of a run is answered 1, though the state is in range
pub refuses-all : Demand1 refuses_all → ⊥
refuses-all d = true≢false (sym (sound_in_range fresh (power_on_sound serial registration)) ∙ out_of_range (d.frame fresh (arrives bare) lent) refl)

refused_sends : (first : Station) (st : Progress) (calls : List Call) → bursts_from refuses_all first st calls ≡ []
refused_sends first st [] = refl
refused_sends first st (frame a b ∷ l) = refused_sends first (after refuses_all first st (frame a b)) l
refused_sends first st (lost ∷ l) = refused_sends first (after refuses_all first st lost) l
refused_sends first st (add_port_lem port ∷ l) = refused_sends first (after refuses_all first st (add_port_lem port)) l
refused_sends first st (remove_port_lem port ∷ l) = refused_sends first (after refuses_all first st (remove_port_lem port)) l
refused_sends first st (give_key_lem octets ∷ l) = refused_sends first (after refuses_all first st (give_key_lem octets)) l
refused_sends first st (why_dark_lem f names ∷ l) = refused_sends first st l

refused-kept : (first : Station) (st : Progress) (l : List Call) → Kept first st → Kept first (run refuses_all first st l)
refused-kept first st [] k = k
refused-kept first st (frame a b ∷ l) k = refused-kept first (after refuses_all first st (frame a b)) l (record { same = k.same; sound = k.sound })
refused-kept first st (lost ∷ l) k = refused-kept first (after refuses_all first st lost) l (call_kept first st lost k)
refused-kept first st (add_port_lem port ∷ l) k = refused-kept first (after refuses_all first st (add_port_lem port)) l (call_kept first st (add_port_lem port) k)
refused-kept first st (remove_port_lem port ∷ l) k = refused-kept first (after refuses_all first st (remove_port_lem port)) l (call_kept first st (remove_port_lem port) k)
refused-kept first st (give_key_lem octets ∷ l) k = refused-kept first (after refuses_all first st (give_key_lem octets)) l (call_kept first st (give_key_lem octets) k)
refused-kept first st (why_dark_lem f names ∷ l) k = refused-kept first st l k

module _ (serial registration memory : List ℕ) (calls : List Call) where
  abbrev st : Progress
  st = run_of refuses_all serial registration memory calls

  refused-same : station_of (power_on_lem serial registration) st.history ≡ st.station
  refused-same = (refused-kept (power_on_lem serial registration) (start (power_on_lem serial registration) memory) calls (started serial registration memory)).same

  refused-held : Holds (ledger (power_on_lem serial registration) st.history) st.station
  refused-held = subst (Holds (ledger (power_on_lem serial registration) st.history)) refused-same (ledger-exact serial registration st.history)

  refused-ours : Ours (ledger (power_on_lem serial registration) st.history) (own_of st.station)
  refused-ours = subst (λ (s : Station). Ours (ledger (power_on_lem serial registration) st.history) (own_of s)) refused-same (always_ours serial registration st.history)

pub refuses_all_in_silence : Demand3 refuses_all
refuses_all_in_silence =
    record {
      held = refused-held;
      ours = refused-ours;
      given = λ serial registration memory calls n h. given-in refuses_all (power_on_lem serial registration) memory calls n ((refused-held serial registration memory calls n).1 h);
      plans = λ serial registration memory calls a b answered. absurd (false≢true answered);
      silent = λ serial registration memory calls a b other. refl;
      once = λ serial registration memory calls word.
          let e = refused_sends (power_on_lem serial registration) (start (power_on_lem serial registration) memory) calls in
          rw e (omega arith);
    }

-- ---- the bare frame, which has no map, in O1, where nothing may be sent

counts_bare : (frame_left fresh (arrives bare) lent).counts ≡ no_counts
unfolding handled done planned_in payload_in bare no_entries
counts_bare = ap (λ (x : FrameLeft). x.counts) (sym left-bare)

plan-bare : (frame_left fresh (arrives bare) lent).lent.plan ≡ buffers.plan
unfolding handled done planned_in bare no_entries
plan-bare = ap (λ (x : FrameLeft). x.lent.plan) (sym left-bare)

pub fixed-plan : Demand3 fixed_plan → ⊥
unfolding opens granted sending
fixed-plan d = true≢false (d.plans serial registration memory [] (arrives bare) buffers (rw bare_leads.answer)).obeys.each.0.sends

-- the record that no series has is read as no grant
pub invented-records : TrueCounts invented_records → ⊥
unfolding buffers opens
invented-records d =
    let e = (d serial registration memory [] (arrives bare) buffers).records in
    let n : ◌≡◌ {A = ℕ} 1 0
    = ap (λ (c : Counts). c.records + 1) (sym counts_bare) ∙ e
    ∙ ap₂ (λ (c : Counts) (p : List ℕ). grants_in (laser (c.records + 1) p)) counts_bare plan-bare in
    omega (arith, n)

pub invented-replies : TrueCounts invented_replies → ⊥
invented-replies d =
    let e = (d serial registration memory [] (arrives bare) buffers).replies in
    let n : ◌≡◌ {A = ℕ} 1 0
    = ap (λ (c : Counts). c.replies + 1) (sym counts_bare) ∙ e
    ∙ ap (λ (c : Counts). messages_in (laser c.records (frame_left fresh (arrives bare) lent).lent.plan)) counts_bare in
    omega (arith, n)

pub invented-bytes : TrueCounts invented_bytes → ⊥
unfolding deliveries_of
invented-bytes d =
    let e = ((d serial registration memory [] (arrives bare) buffers).done (rw bare_leads.answer)).received.count in
    let n : ◌≡◌ {A = ℕ} 1 0 = ap (λ (c : Counts). c.bytes + 1) (sym counts_bare) ∙ e in
    omega (arith, n)

-- ---- the second frame, of two series

this_done : answer_number (frame_left searching (arrives two) lent).outcome.answer ≡ 0
this_done = ap (λ (x : FrameLeft). answer_number x.outcome.answer) (sym left-two) ∙ answer_two

records-two : (frame_left searching (arrives two) lent).counts.records ≡ 2
unfolding handled done series_from
records-two = ap (λ (x : FrameLeft). x.counts.records) (sym left-two) ∙ ap records two-planned

dark_bare : sendings (frame_left fresh (arrives bare) lent) ≡ []
dark_bare = ap₂ (λ (c : Counts) (p : List ℕ). laser c.records p) counts_bare plan-bare

-- the laser finds no head in the plan as it was lent
pub writes_nothing : Demand3 writes_nothing_lem → ⊥
unfolding buffers opens granted sending series_from grant_at
writes_nothing d =
    let e = sends_both (λ s a l. record { outcome = (frame_left s a l).outcome; counts = (frame_left s a l).counts; lent = l }) d (record { answer = bare_leads.answer; station = bare_leads.station; memory = refl })
    (ap (λ (c : Counts). laser c.records lent.plan) counts_bare) this_done in
    let n : ◌≡◌ {A = ℕ} 0 2 = ap (λ (k : ℕ). length (laser k buffers.plan)) (sym records-two) ∙ ap length e in
    omega (arith, n)

first-bare : read_by (read_hlend_lem bare) (λ h. first_structure_in h fresh (arrives bare) lent) (frame_left fresh (arrives bare) lent) ≡ frame_left fresh (arrives bare) lent
unfolding bare no_entries handled planned_in
first-bare = ap (λ (r : Found Hlend). read_by r (λ h. first_structure_in h fresh (arrives bare) lent) (frame_left fresh (arrives bare) lent)) reads-bare ∙ left-bare

-- the second series is neither planned nor left out for a fact
pub first-structure : Demand3 first_structure → ⊥
unfolding buffers opens granted sending series_from grant_at series_numbers head_flags_lem burst_flags_lem handled done
first-structure d =
    let goes : read_by (read_hlend_lem two) (λ h. first_structure_in h searching (arrives two) lent) (frame_left searching (arrives two) lent) ≡ first_structure_in two_entries searching (arrives two) lent
    = ap (λ (r : Found Hlend). read_by r (λ h. first_structure_in h searching (arrives two) lent) (frame_left searching (arrives two) lent)) reads_two in
    let e = sends_both (λ s a l. read_by (read_hlend_lem a.octets) (λ h. first_structure_in h s a l) (frame_left s a l)) d (subst (λ (x : FrameLeft). Leads x searching) (sym first-bare) bare_leads)
    (ap sendings first-bare ∙ dark_bare) (ap (λ (x : FrameLeft). answer_number x.outcome.answer) goes ∙ answer_two) in
    let n : ◌≡◌ {A = ℕ} 1 2
    = ap (λ (l : List Series). length (laser (records (take 1 l)) (written (take 1 l) buffers.plan))) (sym two-planned) ∙ ap (λ (x : FrameLeft). length (sendings x)) (sym goes) ∙ ap length e in
    omega (arith, n)

-- ---- an engine that writes no header

hlend_in : Found Hlend → ℕ
hlend_in (fields h) = h.bwmap
hlend_in unreadable = 0
hlend_in short = 0

pub writes-no-header : Demand2 writes_no_header → ⊥
unfolding bare no_entries hlend_in
writes-no-header d =
    let read : read_hlend_lem bare ≡ fields (record { bwmap = 1; ploam = 0 }) = d.hlend (record { bwmap = 1; ploam = 0 }) refl bare (omega arith) in
    let n : ◌≡◌ {A = ℕ} 0 1 = ap hlend_in (sym reads-bare ∙ read) in
    omega (arith, n)
