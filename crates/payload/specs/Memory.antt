-- What one XGEM frame does to the ports, the port memory and the deliveries.
-- Assumes nothing.
use Rattle.std.specs.Prelude.{Bool, List, ◌++◌, ℕ, ◌+◌, ◌*◌, length, take, drop}
use Rattle.ids.specs.declared.PortId.{PortId}
use Rattle.octets.specs.Octets.{octets}
use Rattle.ports.specs.Limits.{slot_bytes}
use Rattle.ports.specs.Ports.{drop_one_lem, appended, delivered}
use Rattle.ports.specs.declared.Ports.{Ports}
use Rattle.fragments.specs.declared.Reassembly.{Reassembly}
use Rattle.fragments.specs.declared.Reassembly.TheVariants.{Ignored, Dropped, Delivered, Appended}
use Rattle.fragments.specs.Fragments.{reassembly_of_lem}
use Rattle.payload.specs.Frames.{Xgem}

-- all that a frame can change
pub record Receiver : Type 0 where
  pub ports : Ports
  -- how many bytes of deliveries there are
  pub bytes : ℕ
  pub memory : List ℕ
  pub deliveries : List ℕ

abbrev pub receiver_of : Ports → ℕ → List ℕ → List ℕ → Receiver
receiver_of ports bytes memory deliveries = record { ports = ports; bytes = bytes; memory = memory; deliveries = deliveries }

-- a list with s from a place on
unfoldable pub put : List ℕ → ℕ → List ℕ → List ℕ
put l at s = take at l ++ (s ++ drop (at + length s) l)

-- "LF 1 delivers Port-ID (2 bytes), length (2), bytes"
unfoldable pub delivery : PortId → List ℕ → List ℕ
delivery port sdu = octets 2 port.0 ++ (octets 2 (length sdu) ++ sdu)

-- the bytes of a slot's unfinished SDU
unfoldable pub partial : List ℕ → ℕ → ℕ → List ℕ
partial memory slot have = take have (drop (slot * slot_bytes) memory)

-- the memory with more bytes behind those
unfoldable pub extended : List ℕ → ℕ → ℕ → List ℕ → List ℕ
extended memory slot have body = put memory (slot * slot_bytes + have) body

-- what a fragment leaves, by what it does
unfoldable pub done : Receiver → Reassembly → PortId → List ℕ → Receiver
-- "PLI 0, Port-ID 65,535 and foreign ports have no effect"
done s Ignored port body = s
-- "drops the partial"; "Dropping writes nothing"
done s (Dropped slot waits) port body = receiver_of (drop_one_lem s.ports slot waits) s.bytes s.memory s.deliveries
-- "LF 1 delivers"; "A last or only fragment isn't written to the slot"
done s (Delivered slot have) port body =
    receiver_of (delivered s.ports slot) (s.bytes + (4 + (have + length body))) s.memory
    (put s.deliveries s.bytes (delivery port (partial s.memory slot have ++ body)))
-- "LF 0 adds to the port's slot"
done s (Appended slot have) port body =
    receiver_of (appended s.ports slot (have + length body)) s.bytes (extended s.memory slot have body) s.deliveries

-- a fragment for a port, where `own` is the management port
unfoldable pub taken : PortId → Receiver → PortId → Bool → List ℕ → Receiver
taken own s port last body = done s (reassembly_of_lem s.ports own port last (length body)) port body

-- one XGEM frame
abbrev pub step : PortId → Receiver → Xgem → Receiver
step own s x = taken own s x.port x.last x.body
