-- A state in range stays in range under the frame call and the lost call.
-- Assumes nothing.
use Prim.Native.Nat.{ℕ, zero, suc, ◌+◌, ◌-◌, ◌<◌}
use native.Mathlib.Omega.{arith}
use mathlib.Core.Bool.{Bool, true, false, not, cond}
use mathlib.Core.List.{List}
use borrow.Author.Tests.{le-leb, leb-true}
use Rattle.ids.specs.Ids.{management_port_lem}
use Rattle.xgtc.specs.declared.hlend.Hlend.{Hlend}
use Rattle.station.specs.declared.Station.{Station}
use Rattle.answers.specs.declared.Answer.TheVariants.{Done, StateOutOfRange}
use Rattle.station.specs.declared.Outcome.{Outcome}
use Rattle.station.specs.States.{is_operating_lem, is_ranging_lem}
use Rattle.station.specs.Limits.{upstream_words}
use Rattle.station.specs.Station.{with_carried_lem}
use Rattle.validity.specs.Ranges.{in_range}
use Rattle.timing.specs.Timing.{lost_time_lem}
use Rattle.messages.specs.Receiving.{messages_in}
use Rattle.replies.specs.Replying.{after_reply_lem}
use Rattle.replies.specs.Replies.{in_place, replies_from}
use Rattle.series.specs.Series.{planned_of, last_end, carried_over_lem}
use Rattle.plan.specs.Plan.{messages}
use Rattle.bwmap.proofs.Kept.{carried_most}
use Rattle.invariants.proofs.InRange.{Sound}
use Rattle.invariants.proofs.InRangeTimes.{frame_end_sound, lost_sound, unread-sound}
use Rattle.invariants.proofs.InRangeMessages.{messages-sound, reply_sound}
use Rattle.invariants.proofs.InRangeHost.{with_ports_sound}
use Rattle.payload.specs.declared.walk.Delineation.TheVariants.{Kept}
use Rattle.payload.specs.Walk.{walk_of}
use Rattle.downstream.specs.declared.Opening.{Opening}
use Rattle.downstream.specs.declared.Opening.TheVariants.{Refused, Unread, Opened}
use Rattle.downstream.specs.Partitions.{header_end_lem, map_of, messages_of, payload_of}
use Rattle.downstream.specs.Opening.{opening}
use Rattle.frame.specs.Given.{Arrival, Lent, buffers_fit}
use Rattle.frame.specs.Frame.{own_of, planned_in, replies_in, payload_in, found_by, next, done, handled, by_opening, frame_left}
use Rattle.engine.specs.Lods.{lost_left}
use Rattle.engine.proofs.Ports.{Fine, walk_fine}

fine_of : (s : Station) → Sound s → Fine s.ports
fine_of s f = record { ids = f.ports_long; lengths = f.lengths_long; waiting = f.waiting_long; held = f.ports; partials = f.partials }

carried_sound : (s : Station) (n : ℕ) → n < upstream_words → Sound s → Sound (with_carried_lem s n)
carried_sound s n h f =
    record {
      allocs_long = f.allocs_long;
      answers-long = f.answers-long;
      ports_long = f.ports_long;
      lengths_long = f.lengths_long;
      waiting_long = f.waiting_long;
      identity = f.identity;
      allocs = f.allocs;
      ports = f.ports;
      partials = f.partials;
      carried = le-leb n (upstream_words - 1) (omega arith);
      timer = f.timer;
      owed = f.owed;
    }

replies-sound : (s : Station) (delay : ℕ) (b : List ℕ) (i k : ℕ) → Sound s → Sound (replies_from s delay b i k).station
replies-sound s delay b i zero f = f
replies-sound s delay b i (suc k) f = replies-sound (after_reply_lem s) delay (in_place s delay b i) (i + 1) k (reply_sound s f)

-- a state in range has at most 9,719 words carried
pub carried_low : (s : Station) → Sound s → s.carried < upstream_words
carried_low s f = omega (arith, leb-true s.carried (upstream_words - 1) f.carried)

payload_fine : (s : Station) (h : Hlend) (a : Arrival) (lent : Lent) → Fine s.ports → Fine (payload_in s h a lent).receiver.ports
unfolding payload_in
payload_fine s h a lent k = go (is_operating_lem s.activation)
  where
    go
        : (b : Bool)
        → Fine (cond b (walk_of (management_port_lem s.link.onu) (record { ports = s.ports; bytes = 0; memory = lent.memory; deliveries = lent.deliveries }) (header_end_lem h) (payload_of h a.octets)) (record { receiver = record { ports = s.ports; bytes = 0; memory = lent.memory; deliveries = lent.deliveries }; delineation = Kept })).receiver.ports
    go true = walk_fine (management_port_lem s.link.onu) (record { ports = s.ports; bytes = 0; memory = lent.memory; deliveries = lent.deliveries }) (header_end_lem h) (payload_of h a.octets) k
    go false = k

handled-sound : (s : Station) (h : Hlend) (a : Arrival) (lent : Lent) → Sound s → Sound (handled s h a lent).outcome.station
unfolding handled done found_by next planned_in replies_in
handled-sound s h a lent k =
    let l = planned_of (own_of s) (map_of h a.octets) s.carried in
    let sent = replies-sound s a.random_delay_lem lent.replies 0 (messages l) k in
    let p = payload_fine s h a lent (fine_of s k) in
    let ported = with_ports_sound _ (payload_in s h a lent).receiver.ports p.ids p.lengths p.waiting p.held p.partials sent in
    let found = carried_sound _ (carried_over_lem (last_end s.carried l)) (carried_most (own_of s) (map_of h a.octets) s.carried (carried_low s k)) ported in
    frame_end_sound _ (is_ranging_lem s.activation) (messages-sound _ (messages_in (messages_of h a.octets)) found)

pub frame-sound : (s : Station) (a : Arrival) (lent : Lent) → Sound s → Sound (frame_left s a lent).outcome.station
unfolding frame_left
frame-sound s a lent k = go (opening s a.octets (buffers_fit a lent))
  where
    go : (o : Opening) → Sound (by_opening o s a lent).outcome.station
    go (Refused answer) = k
    go (Unread answer) = unread-sound s k
    go (Opened h) = handled-sound s h a lent k

pub lost_call_sound : (s : Station) → Sound s → Sound (lost_left s).station
unfolding lost_left
lost_call_sound s k = go (in_range s)
  where
    go : (b : Bool) → Sound (cond {A = Outcome} (not b) (record { answer = StateOutOfRange; station = s }) (record { answer = Done; station = lost_time_lem s })).station
    go true = lost_sound s k
    go false = k
