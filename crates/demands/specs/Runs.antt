-- A run: any list of calls from power-on. "In a run each call gets the state and port memory that the last one left."
-- Assumes nothing.
use Rattle.std.specs.Prelude.{ℕ, ◌+◌, Bool, ◌||◌, cond, List, [], ◌∷◌, eqb}
use Rattle.ids.specs.declared.PortId.{PortId}
use Rattle.xgtc.specs.declared.hlend.Hlend.{Hlend}
use Rattle.xgem.specs.Reads.{Found, fields, unreadable, short}
use Rattle.xgtc.specs.Reads.{read_hlend_lem}
use Rattle.station.specs.declared.Station.{Station}
use Rattle.answers.specs.Answers.{answer_number}
use Rattle.messages.specs.Receiving.{messages_in}
use Rattle.series.specs.Series.{last_end, carried_over_lem}
use Rattle.plan.specs.Plan.{messages}
use Rattle.ledger.specs.Events.{Event, unread, port_added, port_removed, key_given, station_of}
use Rattle.ledger.specs.Events as event
use Rattle.frame.specs.Given.{Arrival, Lent, lending}
use Rattle.downstream.specs.Partitions.{messages_of}
use Rattle.station.specs.States.{is_ranging_lem}
use Rattle.frame.specs.Frame.{planned_in, payload_in}
use Rattle.demands.specs.Engine.{Engine}

-- what a caller lends to one frame call beside the port memory
pub record Buffers : Type 0 where
  pub plan : List ℕ
  pub replies : List ℕ
  pub deliveries : List ℕ

pub data Call : Type 0 where
  frame : Arrival → Buffers → Call
  lost : Call
  add_port_lem : PortId → Call
  remove_port_lem : PortId → Call
  give_key_lem : List ℕ → Call
  why_dark_lem : List ℕ → List ℕ → Call

-- how far a run has come: the state and the port memory, the frame times that have passed, and what befell the station
pub record Progress : Type 0 where
  pub station : Station
  pub memory : List ℕ
  pub times : ℕ
  pub history : List Event

abbrev pub lend : Progress → Buffers → Lent
lend st b = lending st.memory b.plan b.replies b.deliveries

-- "After 1 to 3 no frame time passes"; 7 and later are answers of the host's calls and the writers
abbrev pub is_done_lem : ℕ → Bool
is_done_lem n = eqb n 0 || eqb n 6

abbrev pub is_unread : ℕ → Bool
is_unread n = eqb n 4 || eqb n 5

abbrev pub passes : ℕ → Bool
passes n = is_done_lem n || is_unread n

abbrev pub another : Bool → ℕ
another passed = cond passed 1 0

-- what befell the station in a frame that was answered 0 or 6: its bursts replied, the payload was walked, words were carried
-- over, each of its messages was considered, and it ended
abbrev pub arrived : Found Hlend → Station → Arrival → Lent → List Event → List Event
arrived unreadable s a lent h = h
arrived short s a lent h = h
arrived (fields hlend) s a lent h =
    event.frame (messages (planned_in s hlend a)) (payload_in s hlend a lent).receiver.ports (carried_over_lem (last_end s.carried (planned_in s hlend a)))
    (messages_in (messages_of hlend a.octets)) (is_ranging_lem s.activation) h

-- in a frame answered n
abbrev pub befell : ℕ → Station → Arrival → Lent → List Event → List Event
befell n s a lent h = cond (is_done_lem n) (arrived (read_hlend_lem a.octets) s a lent h) (cond (is_unread n) (unread ∷ h) h)

module _ (E : Engine) (first : Station) where
  -- a call upon what the last one left
  abbrev pub after : Progress → Call → Progress
  after st (frame a b) =
      record {
        station = (E.frame st.station a (lend st b)).outcome.station;
        memory = (E.frame st.station a (lend st b)).lent.memory;
        times = st.times + another (passes (answer_number (E.frame st.station a (lend st b)).outcome.answer));
        history = befell (answer_number (E.frame st.station a (lend st b)).outcome.answer) (station_of first st.history) a (lend st b) st.history;
      }
  after st lost =
      record {
        station = (E.lost st.station).station;
        memory = st.memory;
        times = st.times + another (passes (answer_number (E.lost st.station).answer));
        history = cond (passes (answer_number (E.lost st.station).answer)) (event.lost ∷ st.history) st.history;
      }
  after st (add_port_lem port) =
      record { station = (E.add_port_lem st.station port).station; memory = st.memory; times = st.times; history = port_added port ∷ st.history }
  after st (remove_port_lem port) =
      record { station = (E.remove_port_lem st.station port).station; memory = st.memory; times = st.times; history = port_removed port ∷ st.history }
  after st (give_key_lem octets) =
      record { station = (E.give_key_lem st.station octets).station; memory = st.memory; times = st.times; history = key_given octets ∷ st.history }
  -- "the tool moves no state"
  after st (why_dark_lem f names) = st

  -- calls one after another
  abbrev pub run : Progress → List Call → Progress
  run st [] = st
  run st (c ∷ l) = run (after st c) l

-- power-on, with the port memory that is lent first
abbrev pub start : Station → List ℕ → Progress
start first memory = record { station = first; memory = memory; times = 0; history = [] }

-- the run of an engine from power-on
abbrev pub run_of : Engine → List ℕ → List ℕ → List ℕ → List Call → Progress
run_of E serial registration memory calls =
    run E (E.power_on_lem serial registration) (start (E.power_on_lem serial registration) memory) calls
