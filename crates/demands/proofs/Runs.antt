-- Along every run of this engine the state is in range, and it is the one that the history leaves.
-- Assumes nothing.
use Prim.Native.Nat.{ℕ}
use mathlib.Core.Path.{◌≡◌, ◌∙◌, refl, sym, ap, subst}
use mathlib.Core.Bool.{Bool, true, false}
use mathlib.Core.List.{List, [], ◌∷◌}
use Rattle.xgtc.specs.declared.hlend.Hlend.{Hlend}
use Rattle.xgem.specs.Reads.{Found, fields}
use Rattle.xgtc.specs.Reads.{read_hlend_lem}
use Rattle.station.specs.declared.Station.{Station}
use Rattle.answers.specs.declared.Answer.{Answer}
use Rattle.answers.specs.declared.Answer.TheVariants.{Done, StateOutOfRange, FrameLengthUnfit, BufferTooShort, HlendUnreadable, HeaderTooLong}
use Rattle.answers.specs.Answers.{answer_number}
use Rattle.station.specs.Station.{power_on_lem}
use Rattle.validity.specs.Ranges.{in_range}
use Rattle.timing.specs.Timing.{lost_time_lem}
use Rattle.messages.specs.Receiving.{messages_in}
use Rattle.series.specs.Series.{last_end, carried_over_lem}
use Rattle.plan.specs.Plan.{messages}
use Rattle.invariants.proofs.InRange.{Sound, sound_in_range, power_on_sound}
use Rattle.invariants.proofs.InRangeHost.{add-sound, remove_sound, key_sound}
use Rattle.ledger.specs.Events.{Event, station_of}
use Rattle.ledger.proofs.Frames.{frame-left}
use Rattle.frame.specs.Given.{Arrival, Lent}
use Rattle.downstream.specs.Partitions.{messages_of}
use Rattle.station.specs.States.{is_ranging_lem}
use Rattle.frame.specs.Frame.{FrameLeft, refused, planned_in, replies_in, payload_in, found_by, next, done, handled, frame_left}
use Rattle.engine.specs.Lods.{lost_left}
use Rattle.engine.specs.Answers.{Handled, Row}
use Rattle.engine.proofs.Ranged.{frame-sound, lost_call_sound}
use Rattle.engine.proofs.Table.{table}
use Rattle.demands.specs.Engine.{lingbarrow}
use Rattle.demands.specs.Runs.{Call, frame, lost, add_port_lem, remove_port_lem, give_key_lem, why_dark_lem, Progress, lend, arrived, befell, after, run, start, run_of}

pub record Kept (first : Station) (st : Progress) : Type 0 where
  pub same : station_of first st.history ≡ st.station
  pub sound : Sound st.station

-- ---- a frame leaves the station that its events leave

module _ (first : Station) (h : List Event) (arrival : Arrival) (lent : Lent) where
  handled-left : (hl : Hlend) → station_of first (arrived (fields hl) (station_of first h) arrival lent h) ≡ (handled (station_of first h) hl arrival lent).outcome.station
  unfolding handled done found_by next planned_in replies_in
  handled-left hl =
      frame-left first h (messages (planned_in (station_of first h) hl arrival)) (payload_in (station_of first h) hl arrival lent).receiver.ports
      (carried_over_lem (last_end (station_of first h).carried (planned_in (station_of first h) hl arrival))) (messages_in (messages_of hl arrival.octets)) (is_ranging_lem (station_of first h).activation) arrival.random_delay_lem lent.replies 0

  answered : (b : Bool) (left : FrameLeft) → Handled (station_of first h) arrival lent b left
      → station_of first (arrived (read_hlend_lem arrival.octets) (station_of first h) arrival lent h) ≡ left.outcome.station
  answered b left r =
      ap (λ (x : Found Hlend). station_of first (arrived x (station_of first h) arrival lent h)) r.reads
      ∙ handled-left r.hlend ∙ sym (ap (λ (x : FrameLeft). x.outcome.station) r.leaves)

  station-of : (left : FrameLeft) (s : Station) (answer : Answer) → left ≡ refused answer s lent → s ≡ left.outcome.station
  station-of left s answer e = sym (ap (λ (x : FrameLeft). x.outcome.station) e)

  by_row : (n : ℕ) (left : FrameLeft) → Row (station_of first h) arrival lent left n
      → station_of first (befell n (station_of first h) arrival lent h) ≡ left.outcome.station
  by_row n left (Row.done r) = answered false left r
  by_row n left (Row.state_out_of_range p e) = station-of left _ StateOutOfRange e
  by_row n left (Row.frame_length_unfit p q e) = station-of left _ FrameLengthUnfit e
  by_row n left (Row.buffer-too-short p q r e) = station-of left _ BufferTooShort e
  by_row n left (Row.hlend_unreadable p q e) = station-of left _ HlendUnreadable e
  by_row n left (Row.header_too_long t e) = station-of left _ HeaderTooLong e
  by_row n left (Row.delineation_lost r) = answered true left r

  pub frame-history
      : station_of first (befell (answer_number (frame_left (station_of first h) arrival lent).outcome.answer) (station_of first h) arrival lent h)
      ≡ (frame_left (station_of first h) arrival lent).outcome.station
  frame-history = by_row (answer_number (frame_left (station_of first h) arrival lent).outcome.answer) (frame_left (station_of first h) arrival lent) (table (station_of first h) arrival lent)

-- ---- every call

pub lost_history : (s : Station) → Sound s → lost_left s ≡ record { answer = Done; station = lost_time_lem s }
unfolding lost_left
lost_history s k = rw (sound_in_range s k)

pub call_kept : (first : Station) (st : Progress) (c : Call) → Kept first st → Kept first (after lingbarrow first st c)
call_kept first st (frame arrival b) k =
    record {
      same = subst
          (λ (s : Station). station_of first (befell (answer_number (frame_left s arrival (lend st b)).outcome.answer) (station_of first st.history) arrival (lend st b) st.history) ≡ (frame_left s arrival (lend st b)).outcome.station)
          k.same (frame-history first st.history arrival (lend st b));
      sound = frame-sound st.station arrival (lend st b) k.sound;
    }
call_kept first st lost k =
    record {
      same = rw (lost_history st.station k.sound) (ap lost_time_lem k.same);
      sound = lost_call_sound st.station k.sound;
    }
call_kept first st (add_port_lem port) k =
    record { same = ap (λ (s : Station). (lingbarrow.add_port_lem s port).station) k.same; sound = add-sound st.station port k.sound }
call_kept first st (remove_port_lem port) k =
    record { same = ap (λ (s : Station). (lingbarrow.remove_port_lem s port).station) k.same; sound = remove_sound st.station port k.sound }
call_kept first st (give_key_lem octets) k =
    record { same = ap (λ (s : Station). (lingbarrow.give_key_lem s octets).station) k.same; sound = key_sound st.station octets k.sound }
call_kept first st (why_dark_lem f names) k = k

pub run-kept : (first : Station) (st : Progress) (l : List Call) → Kept first st → Kept first (run lingbarrow first st l)
run-kept first st [] k = k
run-kept first st (c ∷ l) k = run-kept first (after lingbarrow first st c) l (call_kept first st c k)

pub started : (serial registration memory : List ℕ) → Kept (power_on_lem serial registration) (start (power_on_lem serial registration) memory)
started serial registration memory = record { same = refl; sound = power_on_sound serial registration }

pub always_kept : (serial registration memory : List ℕ) (l : List Call) → Kept (power_on_lem serial registration) (run_of lingbarrow serial registration memory l)
always_kept serial registration memory l = run-kept (power_on_lem serial registration) (start (power_on_lem serial registration) memory) l (started serial registration memory)

-- over any run from power-on the state is in range, so that no call answers 1
pub never_out_of_range : (serial registration memory : List ℕ) (l : List Call) → in_range (run_of lingbarrow serial registration memory l).station ≡ true
never_out_of_range serial registration memory l = sound_in_range _ (always_kept serial registration memory l).sound
