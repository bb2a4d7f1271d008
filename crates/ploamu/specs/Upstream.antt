-- The upstream messages of clause 11.3.4 that document 01 sends: their octets, and reading them again.
-- Assumes nothing.
use Rattle.std.specs.Prelude.{Result, Ok, Err}
use Rattle.ploamu.specs.declared.Unheard.{Unheard}
use Rattle.ploamu.specs.declared.Unheard.TheVariants.{Other, Short}
use Rattle.std.specs.Prelude.{ℕ, ◌-◌, ◌<◌, ◌^◌, Bool, true, cond, List, [], ◌∷◌, ◌++◌, length, take, drop, replicate, eqb, leb, ltb}
use Rattle.ids.specs.Ids.{broadcast_onu}
use Rattle.ids.specs.declared.OnuId.{OnuId}
use Rattle.octets.specs.Octets.{octets}
use Rattle.ploam.specs.Layout.{message_octets, addresses, octet, number32, address_of, type_of, seq_no_of}
use Rattle.ploam.specs.Layout.{serial_number_onu, registration, acknowledgement}
use Rattle.ploam.specs.Reading.{serial_from}
use Rattle.ploam.specs.declared.SerialNumber.{SerialNumber}
use Rattle.ploam.specs.declared.Completion.TheVariants.{Ok as OkCode, NoMessage, UnknownMessageType, ParameterError, ProcessingError}
use Rattle.ploam.specs.Completions.{completion_code}
use Rattle.ploamu.specs.declared.UpstreamMessage.{UpstreamMessage}
use Rattle.ploamu.specs.declared.UpstreamMessage.TheVariants.{SerialNumberOnu, Registration, Acknowledgement}

-- 13.1.2: 48 microseconds in bit times; document 01: above it counts as it
abbrev pub longest_delay : ℕ
longest_delay = 119439

abbrev pub capped : ℕ → ℕ
capped delay = cond (ltb longest_delay delay) longest_delay delay

abbrev pub upstream_address : UpstreamMessage → OnuId
upstream_address (SerialNumberOnu serial delay) = broadcast_onu
upstream_address (Registration onu seq) = onu
upstream_address (Acknowledgement onu seq code) = onu

abbrev pub upstream_type : UpstreamMessage → ℕ
upstream_type (SerialNumberOnu serial delay) = serial_number_onu
upstream_type (Registration onu seq) = registration
upstream_type (Acknowledgement onu seq code) = acknowledgement

-- a SeqNo of 0 where the message is no answer
abbrev pub upstream_seq_no : UpstreamMessage → ℕ
upstream_seq_no (SerialNumberOnu serial delay) = 0
upstream_seq_no (Registration onu seq) = seq
upstream_seq_no (Acknowledgement onu seq code) = seq

-- octets 5 to 40, with the Registration ID of 36 octets
abbrev pub upstream_content : UpstreamMessage → List ℕ → List ℕ
upstream_content (SerialNumberOnu serial delay) id =
    octets 4 serial.vendor ++ octets 4 serial.vssn ++ octets 4 (capped delay) ++ replicate 24 0
upstream_content (Registration onu seq) id = id
upstream_content (Acknowledgement onu seq code) id = completion_code code ∷ replicate 35 0

-- octets 1 to 40
unfoldable pub upstream_octets_lem : UpstreamMessage → List ℕ → List ℕ
upstream_octets_lem message id =
    octets 2 (upstream_address message).0 ++ upstream_type message ∷ upstream_seq_no message ∷ upstream_content message id

-- the ONU-ID field has ten bits
abbrev pub fitting : UpstreamMessage → Bool
fitting message = leb (upstream_address message).0 (addresses - 1)

-- reading it again: the Registration ID, and the rest
abbrev pub registration_id_lem : List ℕ → List ℕ
registration_id_lem m = take 36 (drop 4 m)

-- nothing where the slice is short
abbrev pub registration_id_of : List ℕ → List ℕ
registration_id_of m = cond (ltb (length m) message_octets) [] (registration_id_lem m)

abbrev pub acknowledged : OnuId → ℕ → ℕ → Result UpstreamMessage Unheard
acknowledged onu seq code =
    cond (eqb code 0) (Ok (Acknowledgement onu seq OkCode))
    (cond (eqb code 1) (Ok (Acknowledgement onu seq NoMessage))
    (cond (eqb code 3) (Ok (Acknowledgement onu seq UnknownMessageType))
    (cond (eqb code 4) (Ok (Acknowledgement onu seq ParameterError))
    (cond (eqb code 5) (Ok (Acknowledgement onu seq ProcessingError)) (Err Other)))))

unfoldable pub heard_as : ℕ → List ℕ → Result UpstreamMessage Unheard
heard_as type m =
    cond (eqb type serial_number_onu) (Ok (SerialNumberOnu (serial_from m 5) (number32 m 13)))
    (cond (eqb type registration) (Ok (Registration (address_of m) (seq_no_of m)))
    (cond (eqb type acknowledgement) (acknowledged (address_of m) (seq_no_of m) (octet m 5)) (Err Other)))

-- a slice under 48 octets holds no message
unfoldable pub heard : List ℕ → Result UpstreamMessage Unheard
heard m = cond (ltb (length m) message_octets) (Err Short) (heard_as (type_of m) m)

-- what was sent, as it is read: the delay counts as the longest where it is longer
abbrev pub as_sent : UpstreamMessage → UpstreamMessage
as_sent (SerialNumberOnu serial delay) = SerialNumberOnu serial (capped delay)
as_sent (Registration onu seq) = Registration onu seq
as_sent (Acknowledgement onu seq code) = Acknowledgement onu seq code

-- each number fits its field, as the types of the code have it
abbrev pub Numbers : UpstreamMessage → Type 0
Numbers (SerialNumberOnu serial delay) = (serial.vendor < 2 ^ 32) × (serial.vssn < 2 ^ 32)
Numbers (Registration onu seq) = onu.0 < addresses
Numbers (Acknowledgement onu seq code) = onu.0 < addresses
