-- What accepted messages give and take back. "Accepted" looks at the station that considers the message: address and key,
-- state, room for an answer. The number comes from the message's octets alone.
-- Assumes nothing.
use Rattle.std.specs.Prelude.{ℕ, Bool, true, false, ◌&&◌, ◌||◌, not, cond, List, eqb, ltb}
use Rattle.ids.specs.declared.OnuId.{OnuId}
use Rattle.ids.specs.declared.AllocId.{AllocId}
use Rattle.ids.specs.Ids.{assignable_onu, assignable_alloc}
use Rattle.ploam.specs.declared.SerialNumber.{SerialNumber}
use Rattle.ploam.specs.declared.Switch.{Switch}
use Rattle.ploam.specs.declared.Switch.TheVariants.{DisableOwn, EnableOwn, DisableAll, EnableAll, OtherSwitch}
use Rattle.ploam.specs.declared.AllocChange.{AllocChange}
use Rattle.ploam.specs.declared.AllocChange.TheVariants.{Assign, Deallocate, OtherChange}
use Rattle.ploam.specs.declared.Content.{Content}
use Rattle.ploam.specs.declared.Content.TheVariants.{Profile, AssignOnuId, RangingTime, DeactivateOnuId, DisableSerialNumber, RequestRegistration, AssignAllocId, KeyControl, SleepAllow, Unknown}
use Rattle.ploam.specs.Reading.{serial_at_lem, content_of, message_of}
use Rattle.integrity.specs.Integrity.{installed_key_lem, genuine}
use Rattle.station.specs.declared.Station.{Station}
use Rattle.link.specs.declared.Allocs.{Allocs}
use Rattle.link.specs.Limits.{added_allocs, most_owed}
use Rattle.station.specs.States.{holds_identity_lem, state_number, o23, o5}
use Rattle.link.specs.Link.{alloc_place}
use Rattle.decisions.specs.Decisions.{same_serial_lem, is_broadcast, is_ours}
use Rattle.ids.specs.Places.{is_held}
use Rattle.ledger.specs.Entries.{Entry, gave, took_back, took_all_back, neither}

abbrev pub in_state : ℕ → Station → Bool
in_state state s = eqb (state_number s.activation) state

abbrev pub is_own : Station → SerialNumber → Bool
is_own s serial = same_serial_lem (serial_at_lem s.serial 0) serial

-- "Assign_ONU-ID, broadcast, own serial number, ID at most 1022, in O2-3": gave its number, as default Alloc-ID
unfoldable pub by_assign_onu_id : Station → Bool → OnuId → SerialNumber → Entry
by_assign_onu_id s broadcast onu serial =
    cond (broadcast && (in_state o23 s && (is_own s serial && assignable_onu onu))) (gave onu.0) neither

-- "Assign_Alloc-ID, directed, in O5", an ID of 1,024 to 16,383, and fewer than 8 answers owed
unfoldable pub accepts_alloc_id : Station → Bool → AllocId → Bool
accepts_alloc_id s broadcast id =
    (not broadcast && in_state o5 s) && (assignable_alloc id && ltb s.link.owed.count most_owed)

-- type 1 gave, where it found fewer than 16 held or the ID held already; type 255 took back
abbrev pub by_type : Allocs → AllocId → AllocChange → Entry
by_type allocs id Assign = cond (is_held (alloc_place allocs id) || ltb allocs.count added_allocs) (gave id.0) neither
by_type allocs id Deallocate = took_back id.0
by_type allocs id OtherChange = neither

unfoldable pub by_assign_alloc_id : Station → Bool → AllocId → AllocChange → Entry
by_assign_alloc_id s broadcast id change = cond (accepts_alloc_id s broadcast id) (by_type s.link.allocs id change) neither

-- "Deactivate_ONU-ID, directed or broadcast, in O4, O5, O6"
unfoldable pub by_deactivate : Station → Entry
by_deactivate s = cond (holds_identity_lem s.activation) took_all_back neither

-- "Disable_Serial_Number, broadcast: own number or all, in O2-3, O4, O5, O6"
abbrev pub disabling : Bool → Switch → Bool
disabling own DisableOwn = own
disabling own EnableOwn = false
disabling own DisableAll = true
disabling own EnableAll = false
disabling own OtherSwitch = false

unfoldable pub by_disable : Station → Bool → Switch → SerialNumber → Entry
by_disable s broadcast switch serial =
    cond (broadcast && (disabling (is_own s serial) switch && (holds_identity_lem s.activation || in_state o23 s))) took_all_back neither

-- no other message gives or takes back
abbrev pub by_content_lem : Station → Bool → Content → Entry
by_content_lem s broadcast Profile = neither
by_content_lem s broadcast (AssignOnuId onu serial) = by_assign_onu_id s broadcast onu serial
by_content_lem s broadcast (RangingTime way amount) = neither
by_content_lem s broadcast DeactivateOnuId = by_deactivate s
by_content_lem s broadcast (DisableSerialNumber switch serial) = by_disable s broadcast switch serial
by_content_lem s broadcast RequestRegistration = neither
by_content_lem s broadcast (AssignAllocId id change) = by_assign_alloc_id s broadcast id change
by_content_lem s broadcast KeyControl = neither
by_content_lem s broadcast SleepAllow = neither
by_content_lem s broadcast (Unknown type) = neither

-- "address is ours or 1023 ..; MIC right"
unfoldable pub heeds : Station → List ℕ → Bool
heeds s m = is_ours s (message_of m) && genuine (installed_key_lem s.link.key.held s.link.key.octets) m

unfoldable pub by_message : Station → List ℕ → Entry
by_message s m = cond (heeds s m) (by_content_lem s (is_broadcast (message_of m)) (content_of m)) neither
