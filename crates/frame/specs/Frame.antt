-- One frame: everything that the frame call returns and leaves, for every state, arrival and lent buffer.
-- Assumes nothing.
use Rattle.std.specs.Prelude.{None, Option, Some, ℕ, ◌≡◌, cond, List}
use Rattle.ids.specs.Ids.{management_port_lem}
use Rattle.xgtc.specs.declared.hlend.Hlend.{Hlend}
use Rattle.station.specs.declared.Station.{Station}
use Rattle.answers.specs.declared.Answer.{Answer}
use Rattle.answers.specs.declared.Answer.TheVariants.{Done, BufferTooShort, DelineationLost}
use Rattle.station.specs.declared.Outcome.{Outcome}
use Rattle.station.specs.States.{is_operating_lem, is_ranging_lem}
use Rattle.station.specs.Station.{with_ports_lem, with_carried_lem}
use Rattle.timing.specs.Timing.{frame_end_lem, unread_time_lem}
use Rattle.messages.specs.Receiving.{receive_all, messages_in}
use Rattle.replies.specs.Replies as replied
use Rattle.replies.specs.Replies.{replies_from}
use Rattle.entries.specs.declared.Own.{Own}
use Rattle.series.specs.Series.{Series, planned_of, last_end, carried_over_lem}
use Rattle.bwmap.specs.declared.Plan.{Plan}
use Rattle.plan.specs.Plan.{records, messages, written}
use Rattle.payload.specs.declared.walk.Delineation.{Delineation}
use Rattle.payload.specs.declared.walk.Delineation.TheVariants.{Kept, Lost, Unfit}
use Rattle.payload.specs.Walk.{Walked, walk_of}
use Rattle.downstream.specs.declared.Opening.{Opening}
use Rattle.downstream.specs.declared.Opening.TheVariants.{Refused, Unread, Opened}
use Rattle.downstream.specs.Partitions.{header_end_lem, map_of, messages_of, payload_of}
use Rattle.downstream.specs.Opening.{opening}
use Rattle.frame.specs.declared.Counts.{Counts}
use Rattle.frame.specs.declared.FrameOutcome.{FrameOutcome}
use Rattle.frame.specs.Given.{Arrival, Lent, buffers_fit}

-- what the call returns, and what the lent buffers then hold
pub record FrameLeft : Type 0 where
  pub outcome : Outcome
  pub counts : Counts
  pub lent : Lent

abbrev pub leaving : FrameOutcome → Lent → FrameLeft
leaving r lent = record { outcome = record { answer = r.answer; station = r.station }; counts = r.counts; lent = lent }

abbrev pub no_counts : Counts
no_counts = record { records = 0; replies = 0; bytes = 0 }

-- nothing is written
abbrev pub without : Answer → Station → FrameOutcome
without answer s = record { answer = answer; station = s; counts = no_counts }

-- 1 to 3: "nothing changed"; "no frame time passes"
abbrev pub refused : Answer → Station → Lent → FrameLeft
refused answer s lent = leaving (without answer s) lent

-- 4 and 5: "the buffers are unchanged, a frame time passes"
abbrev pub unread : Answer → Station → Lent → FrameLeft
unread answer s lent = leaving (without answer (unread_time_lem s)) lent

-- ---- (a) "The plan, replies and deliveries follow the state in which the frame arrived"

abbrev pub own_of : Station → Own
own_of s = record { activation = s.activation; onu = s.link.onu; allocs = s.link.allocs }

-- the bursts that are planned
unfoldable pub planned_in : Station → Hlend → Arrival → List Series
planned_in s h a = planned_of (own_of s) (map_of h a.octets) s.carried

-- what the walk over the map answers; no plan that passed 3 is too short
abbrev pub plan_of : Option Plan → Plan
plan_of (Some p) = p
plan_of None = record { records = 0; bursts = 0; messages = 0; end = 0; carried = 0 }

-- each planned burst with PLOAMu sends one reply
unfoldable pub replies_in : Station → List Series → Arrival → Lent → replied.RepliesLeft
replies_in s l a lent = replies_from s a.random_delay_lem lent.replies 0 (messages l)

-- "Payload, in O5 only": in every other state it is not walked
abbrev pub walked_from : Station → ℕ → List ℕ → List ℕ → List ℕ → Walked
walked_from s place payload memory deliveries =
    cond (is_operating_lem s.activation)
    (walk_of (management_port_lem s.link.onu) (record { ports = s.ports; bytes = 0; memory = memory; deliveries = deliveries }) place payload)
    (record { receiver = record { ports = s.ports; bytes = 0; memory = memory; deliveries = deliveries }; delineation = Kept })

unfoldable pub payload_in : Station → Hlend → Arrival → Lent → Walked
payload_in s h a lent = walked_from s (header_end_lem h) (payload_of h a.octets) lent.memory lent.deliveries

-- ---- (b) "Messages act one after another", (c) "Then one step from the state after the messages"

-- the station that the messages find: answers sent are no longer owed, the ports are those after the payload, and the
-- last burst's words beyond the frame are carried
unfoldable pub found_by : Station → List Series → replied.RepliesLeft → Walked → Station
found_by s l r w = with_carried_lem (with_ports_lem r.station w.receiver.ports) (carried_over_lem (last_end s.carried l))

unfoldable pub next : Station → Hlend → Arrival → Station → Station
next s h a found = frame_end_lem (receive_all found (messages_in (messages_of h a.octets))) (is_ranging_lem s.activation)

-- 6: "delineation lost, the frame otherwise done". What passed 1 and 3 is fit to be walked
abbrev pub answer_to_lem : Delineation → Answer
answer_to_lem Kept = Done
answer_to_lem Lost = DelineationLost
answer_to_lem Unfit = BufferTooShort

-- ---- the frame

-- with the bursts l planned, the replies r and the payload walked
unfoldable pub done : Station → Hlend → Arrival → Lent → List Series → replied.RepliesLeft → Walked → FrameLeft
done s h a lent l r w =
    record {
      outcome = record { answer = answer_to_lem w.delineation; station = next s h a (found_by s l r w) };
      counts = record { records = records l; replies = messages l; bytes = w.receiver.bytes };
      lent = record {
        memory = w.receiver.memory;
        plan = written l lent.plan;
        replies = r.octets;
        deliveries = w.receiver.deliveries;
      };
    }

unfoldable pub handled : Station → Hlend → Arrival → Lent → FrameLeft
handled s h a lent =
    done s h a lent (planned_in s h a) (replies_in s (planned_in s h a) a lent) (payload_in s h a lent)

abbrev pub by_opening : Opening → Station → Arrival → Lent → FrameLeft
by_opening (Refused answer) s a lent = refused answer s lent
by_opening (Unread answer) s a lent = unread answer s lent
by_opening (Opened h) s a lent = handled s h a lent

unfoldable pub frame_left : Station → Arrival → Lent → FrameLeft
frame_left s a lent = by_opening (opening s a.octets (buffers_fit a lent)) s a lent

-- the whole contract of the frame call
abbrev pub FrameLeaves : Station → Arrival → Lent → FrameOutcome → Lent → Type 0
FrameLeaves s a lent r left = leaving r left ≡ frame_left s a lent
