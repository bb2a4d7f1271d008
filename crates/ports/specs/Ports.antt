-- The ports, and what happens to them: a partial is dropped, all are, a fragment is appended, an SDU is delivered. No other
-- definition writes a length or a wait mark of a port that is held.
-- Assumes nothing.
use Rattle.std.specs.Prelude.{None, Option, Some, ℕ, ◌+◌, List, Bool, true, false, cond, set, replicate, ltb}
use Rattle.ids.specs.declared.PortId.{PortId}
use Rattle.ids.specs.Ids.{same_port}
use Rattle.ports.specs.declared.Ports.{Ports}
use Rattle.ports.specs.Limits.{slots, added_ports}
use Rattle.ids.specs.Places.{place_from}

-- what stands in an empty slot: no added port has this number
abbrev pub no_port : PortId
no_port = record { 0 = 0 }

-- the ports by their parts
abbrev pub ports_of : List PortId → List ℕ → List Bool → Ports
ports_of ids lengths waiting = record { ids = ids; lengths = lengths; waiting = waiting }

-- "every port then waits, the management port too, and from power-on"
abbrev pub no_ports : Ports
no_ports = ports_of (replicate added_ports no_port) (replicate slots 0) (replicate slots true)

-- "drops the partial", and its port waits or not
abbrev pub drop_one_lem : Ports → ℕ → Bool → Ports
drop_one_lem p slot waits = ports_of p.ids (set p.lengths slot 0) (set p.waiting slot waits)

-- "Partial SDUs are dropped and every port waits"
abbrev pub drop_all_lem : Ports → Ports
drop_all_lem p = ports_of p.ids (replicate slots 0) (replicate slots true)

-- "LF 0 adds to the port's slot": what is unfinished there then has so many bytes
abbrev pub appended : Ports → ℕ → ℕ → Ports
appended p slot bytes = ports_of p.ids (set p.lengths slot bytes) p.waiting

-- "LF 1 delivers": nothing is left unfinished; only a port that does not wait delivers, and it goes on so
abbrev pub delivered : Ports → ℕ → Ports
delivered p slot = ports_of p.ids (set p.lengths slot 0) p.waiting

-- what changes a slot changes nothing where there is no such slot
abbrev pub if_slot : ℕ → (Ports → Ports) → Ports → Ports
if_slot slot change p = cond (ltb slot slots) (change p) p

-- "on O4 to O5 the management port doesn't [wait]"
abbrev pub clear_management_lem : Ports → Ports
clear_management_lem p = ports_of p.ids p.lengths (set p.waiting 0 false)

-- the added port `id` has the slot after its place
abbrev pub port_place : Ports → PortId → Option ℕ
port_place p id = place_from (same_port id) 0 p.ids

-- the lowest empty slot
abbrev pub vacancy : Ports → Option ℕ
vacancy p = port_place p no_port

abbrev pub put_port_lem : Ports → PortId → Option ℕ → Ports
put_port_lem p id (Some i) = drop_one_lem (ports_of (set p.ids i id) p.lengths p.waiting) (i + 1) true
put_port_lem p id None = p

-- "Adding takes the lowest empty slot"; "An added port waits"
abbrev pub add_port_lem : Ports → PortId → Ports
add_port_lem p id = put_port_lem p id (vacancy p)

abbrev pub remove_port_lem : Ports → PortId → Ports
remove_port_lem p id = put_port_lem p no_port (port_place p id)
