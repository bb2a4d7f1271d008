-- The paper's "State ranges". Entries past a count and the waiting mark of an empty slot are not looked at.
-- Assumes nothing.
use Rattle.std.specs.Prelude.{ℕ, zero, suc, ◌+◌, ◌-◌, List, [], ◌∷◌, Bool, true, false, ◌&&◌, ◌||◌, not, cond, get_or, leb, ltb, eqb}
use Rattle.ids.specs.declared.OnuId.{OnuId}
use Rattle.ids.specs.declared.AllocId.{AllocId}
use Rattle.ids.specs.declared.PortId.{PortId}
use Rattle.ids.specs.Ids.{within, assignable_onu, assignable_alloc, assignable_port, same_onu, same_alloc, same_port, broadcast_onu}
use Rattle.station.specs.declared.Activation.{Activation}
use Rattle.station.specs.declared.Activation.TheVariants.{Initial, SerialNumber, Ranging, Operation, Intermittent, EmergencyStop}
use Rattle.station.specs.declared.Station.{Station}
use Rattle.link.specs.declared.Allocs.{Allocs}
use Rattle.ports.specs.declared.Ports.{Ports}
use Rattle.link.specs.Limits.{added_allocs, most_owed}
use Rattle.ports.specs.Limits.{added_ports, slots, sdu_bytes}
use Rattle.station.specs.Limits.{upstream_words, to1, to2}
use Rattle.ids.specs.Places.{some}
use Rattle.station.specs.States.{holds_identity_lem}
use Rattle.link.specs.Link.{held_allocs}
use Rattle.ports.specs.Ports.{no_port}

-- "ONU-ID at most 1,022 in O4, O5, O6, else 1,023"
unfoldable pub identity_fits_lem : Activation → OnuId → Bool
identity_fits_lem a onu = cond (holds_identity_lem a) (assignable_onu onu) (same_onu onu broadcast_onu)

-- "in range and distinct": each is in range, and none behind it is the same
abbrev pub proper : {A : Type 0} → (A → Bool) → (A → A → Bool) → List A → Bool
proper ok same [] = true
proper ok same (a ∷ l) = ok a && (not (some (same a) l) && proper ok same l)

-- "added Alloc-IDs .. in range and distinct", at most 16
unfoldable pub allocs_fit_lem : Allocs → Bool
allocs_fit_lem a = leb a.count added_allocs && proper assignable_alloc same_alloc (held_allocs a)

-- the added ports in the order of their slots
abbrev pub held : List PortId → List PortId
held [] = []
held (p ∷ l) = cond (same_port p no_port) (held l) (p ∷ held l)

-- "added .. ports in range and distinct"
unfoldable pub ports_fit_lem : List PortId → Bool
ports_fit_lem ids = proper assignable_port same_port (held ids)

-- slot 0 is the management port's and never empty
abbrev pub empty_slot : List PortId → ℕ → Bool
empty_slot ids zero = false
empty_slot ids (suc i) = same_port (get_or ids i no_port) no_port

-- "partials at most 2,048, and 0 for a waiting port or empty slot"
unfoldable pub partial_fits : ℕ → Bool → Bool → Bool
partial_fits bytes waits empty = cond (waits || empty) (eqb bytes 0) (leb bytes sdu_bytes)

-- the test holds at i and the k - 1 numbers after it
abbrev pub every : (ℕ → Bool) → ℕ → ℕ → Bool
every f i zero = true
every f i (suc k) = f i && every f (i + 1) k

unfoldable pub slot_fits : List PortId → List ℕ → List Bool → ℕ → Bool
slot_fits ids lengths waiting slot = partial_fits (get_or lengths slot 0) (get_or waiting slot false) (empty_slot ids slot)

unfoldable pub partials_fit_lem : List PortId → List ℕ → List Bool → Bool
partials_fit_lem ids lengths waiting = every (slot_fits ids lengths waiting) 0 slots

-- "TO1 1 to 80,000, TO2 1 to 800"
abbrev pub timer_fits_lem : Activation → Bool
timer_fits_lem Initial = true
timer_fits_lem SerialNumber = true
timer_fits_lem (Ranging left) = within 1 to1 left
timer_fits_lem Operation = true
timer_fits_lem (Intermittent left) = within 1 to2 left
timer_fits_lem EmergencyStop = true

-- "carried words at most 9,719"; "other counts within this paper's numbers": the answers owed
unfoldable pub in_range : Station → Bool
in_range s =
    identity_fits_lem s.activation s.link.onu
    && (allocs_fit_lem s.link.allocs
    && (ports_fit_lem s.ports.ids
    && (partials_fit_lem s.ports.ids s.ports.lengths s.ports.waiting
    && (leb s.carried (upstream_words - 1) && (timer_fits_lem s.activation && leb s.link.owed.count most_owed)))))

-- ---- the same, all places at once: each gets a number, and the numbers are distinct where those in use are

-- stands for a number that cannot be assigned
abbrev pub unfit : ℕ
unfit = 65535

abbrev pub is_unfit : ℕ → Bool
is_unfit number = eqb number unfit

-- an unused place has its own number, which is below every one that can be assigned
unfoldable pub place_number_lem : Bool → Bool → ℕ → ℕ → ℕ
place_number_lem used assignable number place = cond used (cond assignable number unfit) place

-- of the places from i on
abbrev pub numbers_from : {A : Type 0} → (ℕ → A → Bool) → (A → Bool) → (A → ℕ) → ℕ → List A → List ℕ
numbers_from used ok number i [] = []
numbers_from used ok number i (a ∷ l) = place_number_lem (used i a) (ok a) (number a) i ∷ numbers_from used ok number (i + 1) l

-- of the Alloc-IDs the first n are in use
unfoldable pub alloc_numbers_lem : ℕ → List AllocId → List ℕ
alloc_numbers_lem n ids = numbers_from (λ (i : ℕ) (a : AllocId). ltb i n) assignable_alloc (λ (a : AllocId). a.0) 0 ids

unfoldable pub port_numbers_lem : List PortId → List ℕ
port_numbers_lem ids = numbers_from (λ (i : ℕ) (p : PortId). not (same_port p no_port)) assignable_port (λ (p : PortId). p.0) 0 ids

-- how often a number is among them
abbrev pub times : ℕ → List ℕ → ℕ
times n [] = 0
times n (m ∷ l) = cond (eqb n m) 1 0 + times n l

-- summed over some of them; over all, it is how many they are where they are distinct
abbrev pub equal_pairs_lem : List ℕ → List ℕ → ℕ
equal_pairs_lem [] l = 0
equal_pairs_lem (n ∷ k) l = times n l + equal_pairs_lem k l

unfoldable pub numbers_fit_lem : List ℕ → Bool
numbers_fit_lem l = not (some is_unfit l) && eqb (equal_pairs_lem l l) 16

-- "partials at most 2,048, and 0 for a waiting port"
unfoldable pub length_fits_lem : List ℕ → List Bool → ℕ → Bool
length_fits_lem lengths waiting slot = partial_fits (get_or lengths slot 0) (get_or waiting slot false) false

-- "and 0 for [an] empty slot": the slot after the place i
unfoldable pub empty_fits : List PortId → List ℕ → ℕ → Bool
empty_fits ids lengths i = not (same_port (get_or ids i no_port) no_port) || eqb (get_or lengths (i + 1) 0) 0
