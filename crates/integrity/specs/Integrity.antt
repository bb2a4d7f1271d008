-- The message integrity check: clause 15.6, with the keys of 15.8.1 as document 01 lists them.
-- Assumes nothing.
use Rattle.std.specs.Prelude.{ℕ, Bool, true, false, cond, ◌&&◌, ◌||◌, List, [], ◌∷◌, length, take, replicate, eqb, leb}
use Rattle.ids.specs.Ids.{same_onu, broadcast_onu}
use Rattle.ids.specs.declared.OnuId.{OnuId}
use Rattle.cmac.specs.Mac.{cmac64}
use Rattle.cmac.specs.Tags.{mac64_by}
use Rattle.cmac.specs.declared.Prepared.{Prepared}
use Rattle.ploam.specs.Layout.{message_octets, covered_octets, address_of, type_of, mic_field}
use Rattle.ploam.specs.Layout.{deactivate_onu_id, request_registration_lem, serial_number_onu, registration}
use Rattle.integrity.specs.declared.Direction.{Direction}
use Rattle.integrity.specs.declared.Direction.TheVariants.{Downstream, Upstream}

-- 15.6.2
abbrev pub direction_code_lem : Direction → ℕ
direction_code_lem Downstream = 1
direction_code_lem Upstream = 2

-- what is authenticated: the direction code and octets 1 to 40
abbrev pub covered : Direction → List ℕ → List ℕ
covered direction m = direction_code_lem direction ∷ take covered_octets m

abbrev pub mic_of : List ℕ → Direction → List ℕ → List ℕ
mic_of key direction m = cmac64 key (covered direction m)

-- two lists have the same octets
unfoldable pub same : List ℕ → List ℕ → Bool
same [] [] = true
same [] (y ∷ ys) = false
same (x ∷ xs) [] = false
same (x ∷ xs) (y ∷ ys) = eqb x y && same xs ys

-- a message whose integrity field is the one that the key gives it
unfoldable pub mic_right_lem : List ℕ → Direction → List ℕ → Bool
mic_right_lem key direction m = leb message_octets (length m) && same (mic_field m) (mic_of key direction m)

-- 15.8.1
abbrev pub default_key_lem : List ℕ
default_key_lem = replicate 16 0x55

-- document 01: the default key for broadcasts, Deactivate_ONU-ID and Request_Registration, and upstream for
-- Serial_Number_ONU and Registration
abbrev pub downstream_by_default_lem : OnuId → ℕ → Bool
downstream_by_default_lem address type =
    same_onu address broadcast_onu || (eqb type deactivate_onu_id || eqb type request_registration_lem)

abbrev pub upstream_by_default_lem : ℕ → Bool
upstream_by_default_lem type = eqb type serial_number_onu || eqb type registration

abbrev pub by_default_lem : Direction → OnuId → ℕ → Bool
by_default_lem Downstream address type = downstream_by_default_lem address type
by_default_lem Upstream address type = upstream_by_default_lem type

-- else the installed key, or the default if none
abbrev pub installed_key_lem : Bool → List ℕ → List ℕ
installed_key_lem held key = cond held key default_key_lem

abbrev pub key_for : Direction → OnuId → ℕ → List ℕ → List ℕ
key_for direction address type installed = cond (by_default_lem direction address type) default_key_lem installed

-- a downstream message that may act: its integrity field is right under the key that is its own
unfoldable pub genuine : List ℕ → List ℕ → Bool
genuine installed m = mic_right_lem (key_for Downstream (address_of m) (type_of m) installed) Downstream m

-- the same by a lent table and prepared keys, for every table and prepared key; for the true ones proofs/Keys has
-- `mic_right_prepared` and `genuine_prepared`
unfoldable pub mic_right_by : Prepared → Direction → List ℕ → Bool
mic_right_by key direction m = leb message_octets (length m) && same (mic_field m) (mac64_by key (covered direction m))

unfoldable pub genuine_by : Prepared → Prepared → List ℕ → Bool
genuine_by usual installed m =
    mic_right_by (cond (by_default_lem Downstream (address_of m) (type_of m)) usual installed) Downstream m
