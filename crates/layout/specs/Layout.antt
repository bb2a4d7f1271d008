-- A station's state as octets at fixed offsets, numbers with their most significant octet first.
-- Assumes nothing.
use Rattle.std.specs.Prelude.{Result, Ok, Err, ℕ, ◌+◌, List, [], ◌∷◌, ◌++◌, Bool, cond, eqb, leb, length, take, replicate}
use Rattle.ids.specs.declared.AllocId.{AllocId}
use Rattle.ids.specs.declared.PortId.{PortId}
use Rattle.octets.specs.Octets.{value, octets}
use Rattle.xgem.specs.Reads.{Found, found_in}
use Rattle.xgem.specs.Writes.{put}
use Rattle.integrity.specs.Integrity.{same}
use Rattle.station.specs.declared.Activation.{Activation}
use Rattle.station.specs.declared.Activation.TheVariants.{Initial, SerialNumber, Ranging, Operation, Intermittent, EmergencyStop}
use Rattle.station.specs.declared.Station.{Station}
use Rattle.link.specs.declared.Response.{Response}
use Rattle.link.specs.declared.Response.TheVariants.{Registration, Acknowledgement}
use Rattle.ploam.specs.declared.Completion.TheVariants.{Ok as OkCode, NoMessage, UnknownMessageType, ParameterError, ProcessingError}
use Rattle.link.specs.declared.Owed.{Owed}
use Rattle.link.specs.declared.Key.{Key}
use Rattle.link.specs.declared.Allocs.{Allocs}
use Rattle.link.specs.declared.Queue.{Queue}
use Rattle.link.specs.declared.Link.{Link}
use Rattle.ports.specs.declared.Ports.{Ports}
use Rattle.station.specs.States.{o23, o4, o5, o6, o7, state_number}
use Rattle.ploam.specs.Completions.{completion_code}
use Rattle.xgem.specs.declared.ReadError.{ReadError}
use Rattle.xgem.specs.declared.ReadError.TheVariants.{Unreadable, Short}
use Rattle.station.specs.Limits.{serial_octets_lem, registration_octets_lem}
use Rattle.link.specs.Limits.{added_allocs, most_owed}
use Rattle.link.specs.Limits as limits
use Rattle.ports.specs.Limits.{slots, added_ports}
use Rattle.layout.specs.Rows.{part, each, many}
use Rattle.layout.specs.Offsets.{id_width, mark_width, count_width, number_at, number_width, time_at, time_width, activation_width, alloc_count_at, alloc_ids_at, alloc_ids_width, allocs_width, held_at, key_octets_at, key_width}
use Rattle.layout.specs.Offsets.{response_at, response_width, seq_no_at, seq_no_width, answer_width, owed_count_at, answers_at, answers_width, queue_width, onu_at, allocs_at, delay_at, delay_width, key_at, queue_at, link_width}
use Rattle.layout.specs.Offsets.{port_ids_at, port_ids_width, lengths_at, length_width, lengths_width, waiting_at, waiting_width, ports_width}
use Rattle.layout.specs.Offsets.{version_width, state_version, activation_at, serial_at_lem, registration_at, link_at, ports_at, carried_at, words_width}
pub use Rattle.layout.specs.Offsets.{state_bytes}

-- ---- a state as octets

-- what is left of TO1 in O4 and of TO2 in O6; the other states carry no count
abbrev pub time_left_lem : Activation → ℕ
time_left_lem Initial = 0
time_left_lem SerialNumber = 0
time_left_lem (Ranging left) = left
time_left_lem Operation = 0
time_left_lem (Intermittent left) = left
time_left_lem EmergencyStop = 0

abbrev pub activation_octets : Activation → List ℕ
activation_octets a = octets number_width (state_number a) ++ octets time_width (time_left_lem a)

abbrev pub alloc_octets : AllocId → List ℕ
alloc_octets id = octets id_width id.0

abbrev pub port_octets : PortId → List ℕ
port_octets id = octets id_width id.0

abbrev pub length_octets : ℕ → List ℕ
length_octets bytes = octets length_width bytes

-- a mark is 1 or 0
abbrev pub mark_number : Bool → ℕ
mark_number mark = cond mark 1 0

abbrev pub mark_octets : Bool → List ℕ
mark_octets mark = mark_number mark ∷ []

-- a Registration is 0, an Acknowledgement its completion code plus 1
abbrev pub response_number_lem : Response → ℕ
response_number_lem Registration = 0
response_number_lem (Acknowledgement completion) = completion_code completion + 1

abbrev pub owed_octets : Owed → List ℕ
owed_octets o = response_number_lem o.response ∷ (o.seq_no ∷ [])

abbrev pub allocs_octets : Allocs → List ℕ
allocs_octets a = octets count_width a.count ++ each alloc_octets a.ids

abbrev pub key_octets : Key → List ℕ
key_octets k = octets mark_width (mark_number k.held) ++ k.octets

abbrev pub queue_octets : Queue → List ℕ
queue_octets q = octets count_width q.count ++ each owed_octets q.answers

abbrev pub link_octets : Link → List ℕ
link_octets l = (((octets id_width l.onu.0 ++ allocs_octets l.allocs) ++ octets delay_width l.delay) ++ key_octets l.key) ++ queue_octets l.owed

abbrev pub ports_octets : Ports → List ℕ
ports_octets p = (each port_octets p.ids ++ each length_octets p.lengths) ++ each mark_octets p.waiting

-- behind the version, with which each state begins
abbrev pub identity_octets : Activation → List ℕ → List ℕ → List ℕ
identity_octets a serial registration = ((octets version_width state_version ++ activation_octets a) ++ serial) ++ registration

unfoldable pub encoded : Station → List ℕ
encoded s =
    ((identity_octets s.activation s.serial s.registration ++ link_octets s.link) ++ ports_octets s.ports)
    ++ octets words_width s.carried

-- ---- the state that octets show

abbrev pub activation_by_lem : ℕ → ℕ → Activation
activation_by_lem number left =
    cond (eqb number o23) SerialNumber
    (cond (eqb number o4) (Ranging left)
    (cond (eqb number o5) Operation (cond (eqb number o6) (Intermittent left) (cond (eqb number o7) EmergencyStop Initial))))

abbrev pub response_by_lem : ℕ → Response
response_by_lem number =
    cond (eqb number 1) (Acknowledgement OkCode)
    (cond (eqb number 2) (Acknowledgement NoMessage)
    (cond (eqb number 4) (Acknowledgement UnknownMessageType)
    (cond (eqb number 5) (Acknowledgement ParameterError) (cond (eqb number 6) (Acknowledgement ProcessingError) Registration))))

unfoldable pub activation_of : List ℕ → Activation
activation_of c = activation_by_lem (value (part number_at number_width c)) (value (part time_at time_width c))

abbrev pub alloc_of : List ℕ → AllocId
alloc_of c = record { 0 = value c }

abbrev pub port_of : List ℕ → PortId
port_of c = record { 0 = value c }

abbrev pub mark_of_lem : List ℕ → Bool
mark_of_lem c = eqb (value c) 1

abbrev pub owed_of : List ℕ → Owed
owed_of c = record { response = response_by_lem (value (part response_at response_width c)); seq_no = value (part seq_no_at seq_no_width c) }

unfoldable pub allocs_of : List ℕ → Allocs
allocs_of c = record { ids = many alloc_of id_width added_allocs (part alloc_ids_at alloc_ids_width c); count = value (part alloc_count_at count_width c) }

unfoldable pub key_of : List ℕ → Key
key_of c = record { held = mark_of_lem (part held_at mark_width c); octets = part key_octets_at limits.key_octets c }

unfoldable pub queue_of : List ℕ → Queue
queue_of c = record { answers = many owed_of answer_width most_owed (part answers_at answers_width c); count = value (part owed_count_at count_width c) }

unfoldable pub link_of : List ℕ → Link
link_of c =
    record {
      onu = record { 0 = value (part onu_at id_width c) };
      allocs = allocs_of (part allocs_at allocs_width c);
      delay = value (part delay_at delay_width c);
      key = key_of (part key_at key_width c);
      owed = queue_of (part queue_at queue_width c);
    }

unfoldable pub ports_of : List ℕ → Ports
ports_of c =
    record {
      ids = many port_of id_width added_ports (part port_ids_at port_ids_width c);
      lengths = many value length_width slots (part lengths_at lengths_width c);
      waiting = many mark_of_lem mark_width slots (part waiting_at waiting_width c);
    }

unfoldable pub shown : List ℕ → Station
shown b =
    record {
      activation = activation_of (part activation_at activation_width b);
      serial = part serial_at_lem serial_octets_lem b;
      registration = part registration_at registration_octets_lem b;
      link = link_of (part link_at link_width b);
      ports = ports_of (part ports_at ports_width b);
      carried = value (part carried_at words_width b);
    }

-- ---- a state has exactly one byte form: octets are read as the state that they show only where they are that state's octets. So
-- another version, an unknown number of a state or an answer, a mark other than 0 and 1, and a time in a state that carries
-- none are unreadable
unfoldable pub read_of : List ℕ → Result Station ReadError
read_of b =
    cond (leb state_bytes (length b))
    (cond (same (encoded (shown b)) (take state_bytes b)) (Ok (shown b)) (Err Unreadable))
    (Err Short)

abbrev pub decoded : List ℕ → Found Station
decoded b = found_in (read_of b)

-- a state at the start of a buffer that has room for it
unfoldable pub stored : Station → List ℕ → List ℕ
stored s b = cond (leb state_bytes (length b)) (put b (encoded s)) b
