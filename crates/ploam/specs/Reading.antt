-- What a downstream message says: clause 11.3.3, as far as document 01 uses it.
-- Assumes nothing.
use Rattle.std.specs.Prelude.{None, Option, Some, ℕ, ◌+◌, ◌-◌, ◌/◌, ◌%◌, cond, List, length, eqb, ltb}
use Rattle.ids.specs.declared.OnuId.{OnuId}
use Rattle.ids.specs.declared.AllocId.{AllocId}
use Rattle.ploam.specs.Layout.{message_octets, at32, octet, number16, number32, address_of, type_of, seq_no_of, profile, assign_onu_id_lem, ranging_time_lem, deactivate_onu_id, disable_serial_number, request_registration_lem, assign_alloc_id_lem, key_control, sleep_allow}
use Rattle.ploam.specs.declared.SerialNumber.{SerialNumber}
use Rattle.ploam.specs.declared.Adjustment.{Adjustment}
use Rattle.ploam.specs.declared.Adjustment.TheVariants.{Absolute, Add, Subtract}
use Rattle.ploam.specs.declared.Switch.{Switch}
use Rattle.ploam.specs.declared.Switch.TheVariants.{DisableOwn, EnableOwn, DisableAll, EnableAll, OtherSwitch}
use Rattle.ploam.specs.declared.AllocChange.{AllocChange}
use Rattle.ploam.specs.declared.AllocChange.TheVariants.{Assign, Deallocate, OtherChange}
use Rattle.ploam.specs.declared.Content.{Content}
use Rattle.ploam.specs.declared.Content.TheVariants.{Profile, AssignOnuId, RangingTime, DeactivateOnuId, DisableSerialNumber, RequestRegistration, AssignAllocId, KeyControl, SleepAllow, Unknown}
use Rattle.ploam.specs.declared.Message.{Message}

-- Vendor-ID and VSSN, at an index, and from octet n on
abbrev pub serial_at_lem : List ℕ → ℕ → SerialNumber
serial_at_lem m i = record { vendor = at32 m i; vssn = at32 m (i + 4) }

abbrev pub serial_from : List ℕ → ℕ → SerialNumber
serial_from m n = serial_at_lem m (n - 1)

-- 11.3.3.3: bit P of octet 5 says absolute; bit S, where it is relative, says which way
abbrev pub adjustment_of : ℕ → Adjustment
adjustment_of o = cond (eqb (o % 2) 1) Absolute (cond (eqb (o / 2 % 2) 1) Subtract Add)

-- 11.3.3.5
abbrev pub switch_of : ℕ → Switch
switch_of o =
    cond (eqb o 0xff) DisableOwn
    (cond (eqb o 0x00) EnableOwn (cond (eqb o 0x0f) DisableAll (cond (eqb o 0xf0) EnableAll OtherSwitch)))

-- 11.3.3.7
abbrev pub change_of : ℕ → AllocChange
change_of o = cond (eqb o 1) Assign (cond (eqb o 255) Deallocate OtherChange)

-- the ONU-ID in octets 5-6, and the Alloc-ID in their low 14 bits
abbrev pub onu_in_lem : List ℕ → OnuId
onu_in_lem m = record { 0 = number16 m 5 }

abbrev pub alloc_in_lem : List ℕ → AllocId
alloc_in_lem m = record { 0 = number16 m 5 % 16384 }

-- Table 11-2: the downstream message types
unfoldable pub content_as : ℕ → List ℕ → Content
content_as type m =
    cond (eqb type profile) Profile
    (cond (eqb type assign_onu_id_lem) (AssignOnuId (onu_in_lem m) (serial_from m 7))
    (cond (eqb type ranging_time_lem) (RangingTime (adjustment_of (octet m 5)) (number32 m 6))
    (cond (eqb type deactivate_onu_id) DeactivateOnuId
    (cond (eqb type disable_serial_number) (DisableSerialNumber (switch_of (octet m 5)) (serial_from m 6))
    (cond (eqb type request_registration_lem) RequestRegistration
    (cond (eqb type assign_alloc_id_lem) (AssignAllocId (alloc_in_lem m) (change_of (octet m 7)))
    (cond (eqb type key_control) KeyControl
    (cond (eqb type sleep_allow) SleepAllow
    (Unknown type)))))))))

abbrev pub content_of : List ℕ → Content
content_of m = content_as (type_of m) m

-- the type of what is said
abbrev pub type_code : Content → ℕ
type_code Profile = profile
type_code (AssignOnuId onu serial) = assign_onu_id_lem
type_code (RangingTime way delay) = ranging_time_lem
type_code DeactivateOnuId = deactivate_onu_id
type_code (DisableSerialNumber switch serial) = disable_serial_number
type_code RequestRegistration = request_registration_lem
type_code (AssignAllocId alloc change) = assign_alloc_id_lem
type_code KeyControl = key_control
type_code SleepAllow = sleep_allow
type_code (Unknown type) = type

abbrev pub message_of : List ℕ → Message
message_of m = record { address = address_of m; seq = seq_no_of m; content = content_of m }

-- a slice under 48 octets holds no message
unfoldable pub received : List ℕ → Option Message
received m = cond (ltb (length m) message_octets) None (Some (message_of m))
