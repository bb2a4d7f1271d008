-- The bullets of the paper's "Messages", in its order. States are given by their numbers.
-- Assumes nothing.
use Rattle.std.specs.Prelude.{None, Option, Some, ℕ, Bool, true, ◌&&◌, ◌||◌, not, cond, eqb, leb}
use Rattle.link.specs.declared.Owed.{Owed}
use Rattle.ids.specs.declared.OnuId.{OnuId}
use Rattle.ids.specs.declared.AllocId.{AllocId}
use Rattle.ids.specs.Ids.{same_onu, broadcast_onu, assignable_onu, assignable_alloc}
use Rattle.ploam.specs.declared.SerialNumber.{SerialNumber}
use Rattle.ploam.specs.declared.Switch.{Switch}
use Rattle.ploam.specs.declared.Switch.TheVariants.{DisableOwn, EnableOwn, DisableAll, EnableAll, OtherSwitch}
use Rattle.ploam.specs.declared.AllocChange.{AllocChange}
use Rattle.ploam.specs.declared.AllocChange.TheVariants.{Assign, Deallocate, OtherChange}
use Rattle.ploam.specs.declared.Content.{Content}
use Rattle.ploam.specs.declared.Content.TheVariants.{Profile, AssignOnuId, RangingTime, DeactivateOnuId, DisableSerialNumber, RequestRegistration, AssignAllocId, KeyControl, SleepAllow, Unknown}
use Rattle.ploam.specs.declared.Message.{Message}
use Rattle.ploam.specs.Reading.{serial_at_lem}
use Rattle.station.specs.declared.Activation.{Activation}
use Rattle.station.specs.declared.Activation.TheVariants.{Initial, EmergencyStop}
use Rattle.station.specs.declared.Station.{Station}
use Rattle.link.specs.declared.Allocs.{Allocs}
use Rattle.link.specs.declared.Queue.{Queue}
use Rattle.ids.specs.Places.{is_held}
use Rattle.ploam.specs.declared.Completion.TheVariants.{Ok, UnknownMessageType, ParameterError, ProcessingError}
use Rattle.link.specs.declared.Response.TheVariants.{Registration}
use Rattle.link.specs.Limits.{added_allocs, most_owed}
use Rattle.station.specs.States.{holds_identity_lem, state_number, o23, o5, o7}
use Rattle.link.specs.Link.{alloc_place}
use Rattle.effects.specs.declared.Change.TheVariants.{Keep, Identify, AddAlloc, RemoveAlloc, Enter}
use Rattle.effects.specs.declared.Effect.{Effect}
use Rattle.effects.specs.Effects.{ignored, does, owes, answers}
use Rattle.decisions.specs.Ranging.{ranging_time_lem}

abbrev pub same_serial_lem : SerialNumber → SerialNumber → Bool
same_serial_lem a b = eqb a.vendor b.vendor && eqb a.vssn b.vssn

-- "Assign_ONU-ID, broadcast, own serial number, ID at most 1022, in O2-3: to O4"
unfoldable pub assign_onu_id_lem : ℕ → Bool → Bool → OnuId → Effect
assign_onu_id_lem state broadcast own onu =
    cond (broadcast && (eqb state o23 && (own && assignable_onu onu))) (does (Identify onu)) ignored

-- "Assign_Alloc-ID, directed, in O5. First, an ID outside 1,024 to 16,383 or another type than these two: parameter error"
-- "Type 1 adds (held already: OK, unchanged; else, 16 held: processing error), type 255 removes .. (not held: parameter
-- error). Otherwise OK"
abbrev pub alloc_change_lem : Allocs → ℕ → AllocId → AllocChange → Effect
alloc_change_lem allocs seq id Assign =
    cond (is_held (alloc_place allocs id)) (answers Keep Ok seq)
    (cond (leb added_allocs allocs.count) (answers Keep ProcessingError seq) (answers (AddAlloc id) Ok seq))
alloc_change_lem allocs seq id Deallocate =
    cond (is_held (alloc_place allocs id)) (answers (RemoveAlloc id) Ok seq) (answers Keep ParameterError seq)
alloc_change_lem allocs seq id OtherChange = answers Keep ParameterError seq

unfoldable pub assign_alloc_id_lem : ℕ → Bool → Allocs → ℕ → AllocId → AllocChange → Effect
assign_alloc_id_lem state broadcast allocs seq id change =
    cond (not broadcast && eqb state o5)
    (cond (assignable_alloc id) (alloc_change_lem allocs seq id change) (answers Keep ParameterError seq))
    ignored

-- "Request_Registration, directed, in O5: owes Registration with its SeqNo"
unfoldable pub request_registration_lem : ℕ → Bool → ℕ → Effect
request_registration_lem state broadcast seq = cond (not broadcast && eqb state o5) (owes Keep Registration seq) ignored

-- "Deactivate_ONU-ID, directed or broadcast, in O4, O5, O6: to O1"
unfoldable pub deactivate : Activation → Effect
deactivate a = cond (holds_identity_lem a) (does (Enter Initial)) ignored

-- "Disable_Serial_Number, broadcast: own number or all, in O2-3, O4, O5, O6 to O7; the enabling codes, in O7 to O1"
unfoldable pub switch_off_lem : Activation → Effect
switch_off_lem a = cond (holds_identity_lem a || eqb (state_number a) o23) (does (Enter EmergencyStop)) ignored

unfoldable pub switch_on_lem : Activation → Effect
switch_on_lem a = cond (eqb (state_number a) o7) (does (Enter Initial)) ignored

abbrev pub switched : Activation → Bool → Switch → Effect
switched a own DisableOwn = cond own (switch_off_lem a) ignored
switched a own EnableOwn = cond own (switch_on_lem a) ignored
switched a own DisableAll = switch_off_lem a
switched a own EnableAll = switch_on_lem a
switched a own OtherSwitch = ignored

unfoldable pub disable : Activation → Bool → Bool → Switch → Effect
disable a broadcast own switch = cond broadcast (switched a own switch) ignored

-- "A directed type that no downstream message has, in O5: owes 'unknown message type'. All else is ignored"
unfoldable pub unknown_type_lem : ℕ → Bool → ℕ → Effect
unknown_type_lem state broadcast seq = cond (not broadcast && eqb state o5) (answers Keep UnknownMessageType seq) ignored

-- what the message says, to a station in this state
abbrev pub by_content_lem : Station → Bool → ℕ → Content → Effect
by_content_lem s broadcast seq Profile = ignored
by_content_lem s broadcast seq (AssignOnuId onu serial) =
    assign_onu_id_lem (state_number s.activation) broadcast (same_serial_lem (serial_at_lem s.serial 0) serial) onu
by_content_lem s broadcast seq (RangingTime way amount) =
    ranging_time_lem (state_number s.activation) broadcast s.link.delay seq way amount
by_content_lem s broadcast seq DeactivateOnuId = deactivate s.activation
by_content_lem s broadcast seq (DisableSerialNumber switch serial) =
    disable s.activation broadcast (same_serial_lem (serial_at_lem s.serial 0) serial) switch
by_content_lem s broadcast seq RequestRegistration = request_registration_lem (state_number s.activation) broadcast seq
by_content_lem s broadcast seq (AssignAllocId id change) =
    assign_alloc_id_lem (state_number s.activation) broadcast s.link.allocs seq id change
by_content_lem s broadcast seq KeyControl = ignored
by_content_lem s broadcast seq SleepAllow = ignored
by_content_lem s broadcast seq (Unknown type) = unknown_type_lem (state_number s.activation) broadcast seq

-- "address is ours or 1023": 1023 is the broadcast, also while no ONU-ID is held
unfoldable pub is_broadcast : Message → Bool
is_broadcast m = same_onu m.address broadcast_onu

unfoldable pub is_ours : Station → Message → Bool
is_ours s m = is_broadcast m || same_onu m.address s.link.onu

unfoldable pub effect_of : Station → Message → Effect
effect_of s m = by_content_lem s (is_broadcast m) m.seq m.content

-- "an answer is needed and 8 are owed"
abbrev pub room : Queue → Option Owed → Bool
room owed None = true
room owed (Some answer) = not (leb most_owed owed.count)

abbrev pub fitting : Queue → Effect → Effect
fitting owed e = cond (room owed e.debt) e ignored

-- address, state and room: all but the integrity field
unfoldable pub decision : Station → Message → Effect
decision s m = cond (is_ours s m) (fitting s.link.owed (effect_of s m)) ignored
