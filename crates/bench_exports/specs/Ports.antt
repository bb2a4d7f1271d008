-- The ports of the payload benchmark: the sixteen are 3000, 3011, and so on, and none waits.
-- Assumes nothing.
use Rattle.std.specs.Prelude.{false, List, [], ◌∷◌, ℕ, zero, suc, ◌+◌, replicate}
use Rattle.ids.specs.declared.PortId.{PortId}
use Rattle.ports.specs.declared.Ports.{Ports}

abbrev pub ports_from : ℕ → ℕ → List PortId
ports_from zero n = []
ports_from (suc count) n = record { 0 = n } ∷ ports_from count (n + 11)

abbrev pub bench_ports_lem : Ports
bench_ports_lem = record { ids = ports_from 16 3000; lengths = replicate 17 0; waiting = replicate 17 false }

abbrev pub own_port : PortId
own_port = record { 0 = 5 }

-- where the payload begins
abbrev pub hlend_octets : ℕ
hlend_octets = 4
