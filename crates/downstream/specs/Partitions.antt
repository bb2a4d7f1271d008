-- The partitions of a downstream frame (clause 8.1): HLend, the bandwidth map, the PLOAM messages, and behind them the
-- payload, which "begins wherever the header ends".
-- Assumes nothing.
use Rattle.std.specs.Prelude.{ℕ, ◌+◌, ◌*◌, List, take, drop}
use Rattle.xgtc.specs.declared.hlend.Hlend.{Hlend}
use Rattle.entries.specs.Limits.{structure_octets}
use Rattle.ploam.specs.Layout.{message_octets}

abbrev pub hlend_octets : ℕ
hlend_octets = 4

-- where the map ends, and where the header ends
abbrev pub map_end_lem : Hlend → ℕ
map_end_lem h = hlend_octets + structure_octets * h.bwmap

abbrev pub header_end_lem : Hlend → ℕ
header_end_lem h = map_end_lem h + message_octets * h.ploam

abbrev pub map_of : Hlend → List ℕ → List ℕ
map_of h f = take (structure_octets * h.bwmap) (drop hlend_octets f)

abbrev pub messages_of : Hlend → List ℕ → List ℕ
messages_of h f = take (message_octets * h.ploam) (drop (map_end_lem h) f)

abbrev pub payload_of : Hlend → List ℕ → List ℕ
payload_of h f = drop (header_end_lem h) f
