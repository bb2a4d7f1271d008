-- The wrong engines that the paper shuts out by name, one that gives every station one serial number, and one that forgets an Alloc-ID
-- in O6: each is this engine with one call changed.
-- Assumes nothing.
use Rattle.std.specs.Prelude.{ℕ, ◌+◌, cond, List, ◌∷◌, length, take, drop, replicate}
use Rattle.ids.specs.Ids.{management_port_lem}
use Rattle.xgtc.specs.declared.hlend.Hlend.{Hlend}
use Rattle.xgem.specs.Reads.{Found, fields, unreadable, short}
use Rattle.xgtc.specs.Reads.{read_hlend_lem}
use Rattle.xgem.specs.Writes as writing
use Rattle.station.specs.declared.Station.{Station}
use Rattle.answers.specs.declared.Answer.TheVariants.{Done, StateOutOfRange}
use Rattle.link.specs.Link.{no_allocs, with_allocs_lem}
use Rattle.station.specs.Limits.{serial_octets_lem}
use Rattle.station.specs.States.{is_operating_lem, is_ranging_lem}
use Rattle.station.specs.Station.{with_link_lem}
use Rattle.timing.specs.Timing.{frame_end_lem}
use Rattle.messages.specs.Receiving.{receive_all, messages_in}
use Rattle.payload.specs.Frames.{parse}
use Rattle.payload.specs.Memory.{receiver_of}
use Rattle.payload.specs.Walk.{Walked, steps}
use Rattle.downstream.specs.Partitions.{header_end_lem, messages_of, payload_of}
use Rattle.frame.specs.declared.Counts.{Counts}
use Rattle.station.specs.declared.Outcome.{Outcome}
use Rattle.frame.specs.Given.{Arrival, Lent}
use Rattle.frame.specs.Frame.{FrameLeft, refused, planned_in, replies_in, payload_in, found_by, done, handled, frame_left}
use Rattle.entries.specs.declared.Verdict.TheVariants.{Foreign}
use Rattle.entries.specs.Names.{name_number}
use Rattle.engine.specs.Lods.{lost_left}
use Rattle.engine.specs.Naming.{NamesLeft, why_dark_lem}
use Rattle.demands.specs.Engine.{Writers, Engine, lingbarrow}

-- ---- this engine with one call changed

abbrev pub changed
    : (List ℕ → List ℕ → Station) → (Station → Arrival → Lent → FrameLeft) → (Station → Outcome) → (Station → List ℕ → List ℕ → NamesLeft) → Writers → Engine
changed power_on_lem frame lost why_dark_lem writers =
    record {
      power_on_lem = power_on_lem;
      frame = frame;
      lost = lost;
      add_port_lem = lingbarrow.add_port_lem;
      remove_port_lem = lingbarrow.remove_port_lem;
      give_key_lem = lingbarrow.give_key_lem;
      stretch_place_lem = lingbarrow.stretch_place_lem;
      stretch_places_lem = lingbarrow.stretch_places_lem;
      why_dark_lem = why_dark_lem;
      writers = writers;
    }

abbrev pub with_power_on : (List ℕ → List ℕ → Station) → Engine
with_power_on call = changed call lingbarrow.frame lingbarrow.lost lingbarrow.why_dark_lem lingbarrow.writers

abbrev pub with_calls : (Station → Arrival → Lent → FrameLeft) → (Station → Outcome) → Engine
with_calls frame lost = changed lingbarrow.power_on_lem frame lost lingbarrow.why_dark_lem lingbarrow.writers

abbrev pub with_frame : (Station → Arrival → Lent → FrameLeft) → Engine
with_frame call = with_calls call lingbarrow.lost

abbrev pub with_lost : (Station → Outcome) → Engine
with_lost call = with_calls lingbarrow.frame call

abbrev pub with_writers : Writers → Engine
with_writers writers = changed lingbarrow.power_on_lem lingbarrow.frame lingbarrow.lost lingbarrow.why_dark_lem writers

abbrev pub with_names : (Station → List ℕ → List ℕ → NamesLeft) → Engine
with_names call = changed lingbarrow.power_on_lem lingbarrow.frame lingbarrow.lost call lingbarrow.writers

-- ---- refuses, plans, writes

-- "an engine that refuses all"
abbrev pub refuses_all : Engine
refuses_all = with_frame (λ s a lent. refused StateOutOfRange s lent)

abbrev pub with_plan : ℕ → List ℕ → FrameLeft → FrameLeft
with_plan n plan left =
    record {
      outcome = left.outcome;
      counts = record { records = n; replies = left.counts.replies; bytes = left.counts.bytes };
      lent = record { memory = left.lent.memory; plan = plan; replies = left.lent.replies; deliveries = left.lent.deliveries };
    }

-- "one fixed plan": one burst, whatever the map
abbrev pub fixed_plan : Engine
fixed_plan = with_frame (λ s a lent. with_plan 1 (1023 ∷ 3 ∷ 500 ∷ 0 ∷ drop 4 lent.plan) (frame_left s a lent))

-- "one that writes nothing"
abbrev pub writes_nothing_lem : Engine
writes_nothing_lem = with_frame (λ s a lent. record { outcome = (frame_left s a lent).outcome; counts = (frame_left s a lent).counts; lent = lent })

-- the same of the writers: each says that it has written, and the target is as it was
abbrev pub unwritten : List ℕ → writing.WriteLeft
unwritten target = record { answer = Done; target = target }

abbrev pub writes_no_header : Engine
writes_no_header =
    with_writers
    (record {
      hlend = λ h target. unwritten target;
      allocation = λ a target. unwritten target;
      xgem = λ x target. unwritten target;
      xgem_frame = λ x sdu target. unwritten target;
    })

-- ---- "one that handles the first structure, message or XGEM frame and feigns the rest"

-- a frame whose HLend is read, and every other as this engine has it
abbrev pub read_by : Found Hlend → (Hlend → FrameLeft) → FrameLeft → FrameLeft
read_by unreadable call other = other
read_by short call other = other
read_by (fields h) call other = call h

abbrev pub reading : (Hlend → Station → Arrival → Lent → FrameLeft) → Engine
reading call = with_frame (λ s a lent. read_by (read_hlend_lem a.octets) (λ h. call h s a lent) (frame_left s a lent))

abbrev pub first_structure_in : Hlend → Station → Arrival → Lent → FrameLeft
first_structure_in h s a lent = done s h a lent (take 1 (planned_in s h a)) (replies_in s (take 1 (planned_in s h a)) a lent) (payload_in s h a lent)

abbrev pub first_structure : Engine
first_structure = reading first_structure_in

-- the state that a frame leaves
abbrev pub with_station : Station → FrameLeft → FrameLeft
with_station s left = record { outcome = record { answer = left.outcome.answer; station = s }; counts = left.counts; lent = left.lent }

abbrev pub first_message_in : Hlend → Station → Arrival → Lent → FrameLeft
first_message_in h s a lent =
    with_station
    (frame_end_lem (receive_all (found_by s (planned_in s h a) (replies_in s (planned_in s h a) a lent) (payload_in s h a lent)) (take 1 (messages_in (messages_of h a.octets)))) (is_ranging_lem s.activation))
    (handled s h a lent)

abbrev pub first_message : Engine
first_message = reading first_message_in

-- what a walk leaves that takes the first frame of a payload
abbrev pub first_walked : Station → Hlend → Arrival → Lent → Walked
first_walked s h a lent =
    record {
      receiver = steps (management_port_lem s.link.onu) (receiver_of s.ports 0 lent.memory lent.deliveries) (take 1 (parse (header_end_lem h) (payload_of h a.octets)).frames);
      delineation = (payload_in s h a lent).delineation;
    }

abbrev pub first_xgem_in : Hlend → Station → Arrival → Lent → FrameLeft
first_xgem_in h s a lent =
    done s h a lent (planned_in s h a) (replies_in s (planned_in s h a) a lent)
    (cond (is_operating_lem s.activation) (first_walked s h a lent) (payload_in s h a lent))

abbrev pub first_xgem : Engine
first_xgem = reading first_xgem_in

-- ---- "invented counts of records, replies or bytes"

abbrev pub with_counts : (Counts → Counts) → Engine
with_counts invent =
    with_frame (λ s a lent. record { outcome = (frame_left s a lent).outcome; counts = invent (frame_left s a lent).counts; lent = (frame_left s a lent).lent })

abbrev pub invented_records : Engine
invented_records = with_counts (λ c. record { records = c.records + 1; replies = c.replies; bytes = c.bytes })

abbrev pub invented_replies : Engine
invented_replies = with_counts (λ c. record { records = c.records; replies = c.replies + 1; bytes = c.bytes })

abbrev pub invented_bytes : Engine
invented_bytes = with_counts (λ c. record { records = c.records; replies = c.replies; bytes = c.bytes + 1 })

-- ---- wrong tools: the list gets other names, so many as are counted

abbrev pub renamed : (List ℕ → List ℕ) → NamesLeft → List ℕ → NamesLeft
renamed other left names = record { found = left.found; names = writing.put names (other (take left.found.count left.names)) }

-- one that calls everything foreign
abbrev pub calls_all_foreign : Engine
calls_all_foreign = with_names (λ s f names. renamed (λ l. replicate (length l) (name_number Foreign)) (why_dark_lem s f names) names)

-- one that names the first structure only
abbrev pub names_the_first : Engine
names_the_first = with_names (λ s f names. renamed (take 1) (why_dark_lem s f names) names)

-- ---- not of the paper's list

-- power-on that looks at no serial number
abbrev pub one_serial_number : Engine
one_serial_number = with_power_on (λ serial registration. lingbarrow.power_on_lem (replicate serial_octets_lem 0) registration)

-- a lost time after which no Alloc-ID is held
abbrev pub forgetful : Station → Station
forgetful s = with_link_lem s (with_allocs_lem s.link no_allocs)

abbrev pub forgets_allocs : Engine
forgets_allocs = with_lost (λ s. record { answer = (lost_left s).answer; station = forgetful (lost_left s).station })
