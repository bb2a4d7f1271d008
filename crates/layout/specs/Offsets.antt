-- Where each field of a state's octets stands and how many octets it takes: a field stands where the one before it does, plus what that
-- one takes. Offsets are counted from the start of the part that the field belongs to.
-- Assumes nothing.
use Rattle.std.specs.Prelude.{ℕ, ◌+◌, ◌*◌}
use Rattle.station.specs.Limits.{serial_octets_lem, registration_octets_lem}
use Rattle.link.specs.Limits.{added_allocs, most_owed, key_octets}
use Rattle.ports.specs.Limits.{slots, added_ports}

-- ---- numbers

-- an ONU-ID, an Alloc-ID, a Port-ID
abbrev pub id_width : ℕ
id_width = 2

-- a mark, and how many are held or owed
abbrev pub mark_width : ℕ
mark_width = 1

abbrev pub count_width : ℕ
count_width = 1

-- ---- the activation: the state's number, what is left of its time

abbrev pub number_at : ℕ
number_at = 0

abbrev pub number_width : ℕ
number_width = 1

abbrev pub time_at : ℕ
time_at = number_at + number_width

abbrev pub time_width : ℕ
time_width = 4

abbrev pub activation_width : ℕ
activation_width = time_at + time_width

-- ---- the added Alloc-IDs: how many are held, and the sixteen

abbrev pub alloc_count_at : ℕ
alloc_count_at = 0

abbrev pub alloc_ids_at : ℕ
alloc_ids_at = alloc_count_at + count_width

abbrev pub alloc_ids_width : ℕ
alloc_ids_width = id_width * added_allocs

abbrev pub allocs_width : ℕ
allocs_width = alloc_ids_at + alloc_ids_width

-- ---- the key: whether one is held, and its octets

abbrev pub held_at : ℕ
held_at = 0

abbrev pub key_octets_at : ℕ
key_octets_at = held_at + mark_width

abbrev pub key_width : ℕ
key_width = key_octets_at + key_octets

-- ---- an answer owed: what is answered, and the SeqNo

abbrev pub response_at : ℕ
response_at = 0

abbrev pub response_width : ℕ
response_width = 1

abbrev pub seq_no_at : ℕ
seq_no_at = response_at + response_width

abbrev pub seq_no_width : ℕ
seq_no_width = 1

abbrev pub answer_width : ℕ
answer_width = seq_no_at + seq_no_width

-- ---- the answers: how many are owed, and the eight

abbrev pub owed_count_at : ℕ
owed_count_at = 0

abbrev pub answers_at : ℕ
answers_at = owed_count_at + count_width

abbrev pub answers_width : ℕ
answers_width = answer_width * most_owed

abbrev pub queue_width : ℕ
queue_width = answers_at + answers_width

-- ---- the link: ONU-ID, added Alloc-IDs, equalization delay, key, answers owed

abbrev pub onu_at : ℕ
onu_at = 0

abbrev pub allocs_at : ℕ
allocs_at = onu_at + id_width

abbrev pub delay_at : ℕ
delay_at = allocs_at + allocs_width

abbrev pub delay_width : ℕ
delay_width = 4

abbrev pub key_at : ℕ
key_at = delay_at + delay_width

abbrev pub queue_at : ℕ
queue_at = key_at + key_width

abbrev pub link_width : ℕ
link_width = queue_at + queue_width

-- ---- the ports: the sixteen added, 0 where the slot is empty; the bytes of each slot's partial SDU; whether each port waits

abbrev pub port_ids_at : ℕ
port_ids_at = 0

abbrev pub port_ids_width : ℕ
port_ids_width = id_width * added_ports

abbrev pub lengths_at : ℕ
lengths_at = port_ids_at + port_ids_width

abbrev pub length_width : ℕ
length_width = 2

abbrev pub lengths_width : ℕ
lengths_width = length_width * slots

abbrev pub waiting_at : ℕ
waiting_at = lengths_at + lengths_width

abbrev pub waiting_width : ℕ
waiting_width = mark_width * slots

abbrev pub ports_width : ℕ
ports_width = waiting_at + waiting_width

-- ---- the state: version of this form, activation, serial number, Registration ID, link, ports, carried words

abbrev pub version_at : ℕ
version_at = 0

abbrev pub version_width : ℕ
version_width = 1

-- The first library's form has no version: its first octet is the state's number, at most 7. So versions count from 8, and no form
-- is taken for another.
abbrev pub state_version : ℕ
state_version = 8

abbrev pub activation_at : ℕ
activation_at = version_at + version_width

abbrev pub serial_at_lem : ℕ
serial_at_lem = activation_at + activation_width

abbrev pub registration_at : ℕ
registration_at = serial_at_lem + serial_octets_lem

abbrev pub link_at : ℕ
link_at = registration_at + registration_octets_lem

abbrev pub ports_at : ℕ
ports_at = link_at + link_width

abbrev pub carried_at : ℕ
carried_at = ports_at + ports_width

abbrev pub words_width : ℕ
words_width = 2

abbrev pub state_bytes : ℕ
state_bytes = carried_at + words_width
