-- The states of clause 12.
-- Assumes nothing.
use Rattle.std.specs.Prelude.{ℕ, Bool, true, false}
use Rattle.station.specs.declared.Activation.{Activation}
use Rattle.station.specs.declared.Activation.TheVariants.{Initial, SerialNumber, Ranging, Operation, Intermittent, EmergencyStop}

-- the numbers that the bench run prints: "O2-3 prints 2"
abbrev pub o1 : ℕ
o1 = 1

abbrev pub o23 : ℕ
o23 = 2

abbrev pub o4 : ℕ
o4 = 4

abbrev pub o5 : ℕ
o5 = 5

abbrev pub o6 : ℕ
o6 = 6

abbrev pub o7 : ℕ
o7 = 7

abbrev pub state_number : Activation → ℕ
state_number Initial = o1
state_number SerialNumber = o23
state_number (Ranging left) = o4
state_number Operation = o5
state_number (Intermittent left) = o6
state_number EmergencyStop = o7

-- "In O1, O6 and O7 nothing is ours": the states that send nothing
abbrev pub silent : Activation → Bool
silent Initial = true
silent SerialNumber = false
silent (Ranging left) = false
silent Operation = false
silent (Intermittent left) = true
silent EmergencyStop = true

-- "ONU-ID at most 1,022 in O4, O5, O6, else 1,023"
abbrev pub holds_identity_lem : Activation → Bool
holds_identity_lem Initial = false
holds_identity_lem SerialNumber = false
holds_identity_lem (Ranging left) = true
holds_identity_lem Operation = true
holds_identity_lem (Intermittent left) = true
holds_identity_lem EmergencyStop = false

-- O4
abbrev pub is_ranging_lem : Activation → Bool
is_ranging_lem Initial = false
is_ranging_lem SerialNumber = false
is_ranging_lem (Ranging left) = true
is_ranging_lem Operation = false
is_ranging_lem (Intermittent left) = false
is_ranging_lem EmergencyStop = false

-- O5
abbrev pub is_operating_lem : Activation → Bool
is_operating_lem Initial = false
is_operating_lem SerialNumber = false
is_operating_lem (Ranging left) = false
is_operating_lem Operation = true
is_operating_lem (Intermittent left) = false
is_operating_lem EmergencyStop = false
