-- What a fragment does to the port that it is for: the decision, and what it then leaves of the ports.
-- Assumes nothing.
use Rattle.std.specs.Prelude.{None, Option, Some, Bool, true, false, cond, not, List, ℕ, ◌+◌, eqb, ltb, get_or}
use Rattle.ids.specs.declared.PortId.{PortId}
use Rattle.ids.specs.Ids.{same_port, assignable_port}
use Rattle.ports.specs.declared.Ports.{Ports}
use Rattle.ports.specs.Limits.{sdu_bytes}
use Rattle.ports.specs.Ports.{drop_one_lem, appended, delivered}
use Rattle.ids.specs.Places.{place_from}
use Rattle.fragments.specs.declared.Reassembly.{Reassembly}
use Rattle.fragments.specs.declared.Reassembly.TheVariants.{Ignored, Dropped, Delivered, Appended}

-- slot 0 is the management port's, an added port has the slot after its place. The idle port and foreign ports have none
abbrev pub behind : Option ℕ → Option ℕ
behind (Some i) = Some (i + 1)
behind None = None

abbrev pub slot_in_lem : List PortId → PortId → PortId → Option ℕ
slot_in_lem ids own port =
    cond (assignable_port port) (behind (place_from (same_port port) 0 ids)) (cond (same_port port own) (Some 0) None)

abbrev pub slot_of : Ports → PortId → PortId → Option ℕ
slot_of p own port = slot_in_lem p.ids own port

-- what n bytes do at a slot. "A waiting port discards up to and with the next LF 1." "A total over 2,048 drops the partial;
-- after LF 0 the port then waits." "LF 0 adds to the port's slot. LF 1 delivers"
abbrev pub at_slot_lem : ℕ → Bool → ℕ → Bool → ℕ → Reassembly
at_slot_lem slot waits have last n =
    cond waits (Dropped slot (not last))
    (cond (ltb sdu_bytes (have + n)) (Dropped slot (not last)) (cond last (Delivered slot have) (Appended slot have)))

abbrev pub at_place_lem : List ℕ → List Bool → Bool → ℕ → Option ℕ → Reassembly
at_place_lem lengths waiting last n (Some i) = at_slot_lem i (get_or waiting i false) (get_or lengths i 0) last n
at_place_lem lengths waiting last n None = Ignored

-- "PLI 0, Port-ID 65,535 and foreign ports have no effect". The ports come by their parts: those that are added, and the
-- lengths and wait marks of their slots
abbrev pub reassembly_in_lem : List PortId → List ℕ → List Bool → PortId → PortId → Bool → ℕ → Reassembly
reassembly_in_lem ids lengths waiting own port last n = cond (eqb n 0) Ignored (at_place_lem lengths waiting last n (slot_in_lem ids own port))

abbrev pub reassembly_of_lem : Ports → PortId → PortId → Bool → ℕ → Reassembly
reassembly_of_lem p own port last n = reassembly_in_lem p.ids p.lengths p.waiting own port last n

-- the ports after a fragment of n bytes
abbrev pub ports_after : Ports → Reassembly → ℕ → Ports
ports_after p Ignored n = p
ports_after p (Dropped slot waits) n = drop_one_lem p slot waits
ports_after p (Delivered slot have) n = delivered p slot
ports_after p (Appended slot have) n = appended p slot (have + n)
