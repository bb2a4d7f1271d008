-- The fields that all PLOAM messages have: clause 11.2. Octets are counted from 1, as the standard counts them.
-- Assumes nothing.
use Rattle.std.specs.Prelude.{ℕ, ◌+◌, ◌-◌, ◌*◌, ◌%◌, List, [], ◌∷◌, get_or, take, drop}
use Rattle.ids.specs.declared.OnuId.{OnuId}
use Rattle.octets.specs.Octets.{value}

-- a message, the part of it that the integrity field covers, and the integrity field
abbrev pub message_octets : ℕ
message_octets = 48

abbrev pub covered_octets : ℕ
covered_octets = 40

-- message i of those that stand one after another, from 0
abbrev pub message_at : List ℕ → ℕ → List ℕ
message_at b i = take message_octets (drop (message_octets * i) b)

-- a number of two octets, and of four, at an index
abbrev pub at16 : List ℕ → ℕ → ℕ
at16 m i = value (get_or m i 0 ∷ (get_or m (i + 1) 0 ∷ []))

abbrev pub at32 : List ℕ → ℕ → ℕ
at32 m i = value (get_or m i 0 ∷ (get_or m (i + 1) 0 ∷ (get_or m (i + 2) 0 ∷ (get_or m (i + 3) 0 ∷ []))))

-- octet n, and the numbers of two and four octets from octet n on
abbrev pub octet : List ℕ → ℕ → ℕ
octet m n = get_or m (n - 1) 0

abbrev pub number16 : List ℕ → ℕ → ℕ
number16 m n = at16 m (n - 1)

abbrev pub number32 : List ℕ → ℕ → ℕ
number32 m n = at32 m (n - 1)

-- an ONU-ID in two octets has ten bits; the upper six are ignored
abbrev pub addresses : ℕ
addresses = 1024

abbrev pub address_by : ℕ → ℕ → OnuId
address_by high low = record { 0 = value (high ∷ (low ∷ [])) % addresses }

-- octets 1-2
abbrev pub address_of : List ℕ → OnuId
address_of m = address_by (octet m 1) (octet m 2)

-- octet 3
abbrev pub type_of : List ℕ → ℕ
type_of m = octet m 3

-- octet 4
abbrev pub seq_no_of : List ℕ → ℕ
seq_no_of m = octet m 4

-- octets 41-48
abbrev pub mic_field : List ℕ → List ℕ
mic_field m = take 8 (drop covered_octets m)

-- Table 11-2: the types of downstream messages
abbrev pub profile : ℕ
profile = 0x01

abbrev pub assign_onu_id_lem : ℕ
assign_onu_id_lem = 0x03

abbrev pub ranging_time_lem : ℕ
ranging_time_lem = 0x04

abbrev pub deactivate_onu_id : ℕ
deactivate_onu_id = 0x05

abbrev pub disable_serial_number : ℕ
disable_serial_number = 0x06

abbrev pub request_registration_lem : ℕ
request_registration_lem = 0x09

abbrev pub assign_alloc_id_lem : ℕ
assign_alloc_id_lem = 0x0a

abbrev pub key_control : ℕ
key_control = 0x0d

abbrev pub sleep_allow : ℕ
sleep_allow = 0x12

-- Table 11-3: those of upstream messages that document 01 sends
abbrev pub serial_number_onu : ℕ
serial_number_onu = 0x01

abbrev pub registration : ℕ
registration = 0x02

abbrev pub acknowledgement : ℕ
acknowledgement = 0x09
