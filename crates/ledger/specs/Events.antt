-- What can befall a station, and the history of a run: the events since a first station, newest first.
-- Assumes nothing.
use Rattle.std.specs.Prelude.{ℕ, zero, suc, Bool, List, [], ◌∷◌}
use Rattle.ids.specs.declared.PortId.{PortId}
use Rattle.station.specs.declared.Station.{Station}
use Rattle.ports.specs.declared.Ports.{Ports}
use Rattle.station.specs.Station.{with_ports_lem, with_carried_lem}
use Rattle.timing.specs.Timing.{frame_end_lem, lost_time_lem, unread_time_lem}
use Rattle.messages.specs.Receiving.{receive}
use Rattle.replies.specs.Replying.{after_reply_lem}
use Rattle.host.specs.Host.{after_add, after_remove, after_key}

pub data Event : Type 0 where
  -- a message of a frame is considered: its octets
  considered : List ℕ → Event
  -- a frame answered 0 or 6 ends, step (c): whether it arrived in O4
  ended : Bool → Event
  -- a frame time answered 4 or 5, and a lost one
  unread : Event
  lost : Event
  -- (a): a burst sends its reply, the payload leaves the ports so, so many words are carried over
  replied : Event
  walked : Ports → Event
  carried_over_lem : ℕ → Event
  -- the host's calls
  port_added : PortId → Event
  port_removed : PortId → Event
  key_given : List ℕ → Event

abbrev pub after : Station → Event → Station
after s (considered m) = receive s m
after s (ended arrivedRanging) = frame_end_lem s arrivedRanging
after s unread = unread_time_lem s
after s lost = lost_time_lem s
after s replied = after_reply_lem s
after s (walked ports) = with_ports_lem s ports
after s (carried_over_lem words) = with_carried_lem s words
after s (port_added port) = (after_add s port).station
after s (port_removed port) = (after_remove s port).station
after s (key_given octets) = (after_key s octets).station

-- the station that a history leaves
abbrev pub station_of : Station → List Event → Station
station_of first [] = first
station_of first (e ∷ earlier) = after (station_of first earlier) e

-- ---- the events of a frame answered 0 or 6, upon the history that it found

abbrev pub replies : ℕ → List Event → List Event
replies zero h = h
replies (suc k) h = replies k (replied ∷ h)

abbrev pub messages : List (List ℕ) → List Event → List Event
messages [] h = h
messages (m ∷ l) h = messages l (considered m ∷ h)

abbrev pub frame : ℕ → Ports → ℕ → List (List ℕ) → Bool → List Event → List Event
frame k ports words l arrivedRanging h =
    ended arrivedRanging ∷ messages l (carried_over_lem words ∷ walked ports ∷ replies k h)
