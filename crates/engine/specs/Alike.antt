-- "Two frames that differ only in payload bytes of ports not ours": of the idle port and of foreign ones; in every state but O5
-- no port is ours.
-- Assumes nothing.
use Rattle.std.specs.Prelude.{ℕ, ◌≤◌, ◌≡◌, true, List, length, take}
use Rattle.ids.specs.Ids.{management_port_lem}
use Rattle.xgtc.specs.declared.hlend.Hlend.{Hlend}
use Rattle.xgem.specs.Reads.{fields}
use Rattle.xgtc.specs.Reads.{read_hlend_lem}
use Rattle.station.specs.declared.Station.{Station}
use Rattle.station.specs.States.{is_operating_lem}
use Rattle.payload.specs.Alike.{Alike}
use Rattle.downstream.specs.Partitions.{header_end_lem, payload_of}

-- equal; or as long, with the same header, and behind it payloads that are alike where they are walked
pub data AlikeFrames (s : Station) (f : List ℕ) : List ℕ → Type 0 where
  equal : AlikeFrames s f f
  behind
      : {g : List ℕ} (h : Hlend) → read_hlend_lem f ≡ fields h → header_end_lem h ≤ length f → length f ≡ length g
      → take (header_end_lem h) f ≡ take (header_end_lem h) g
      → (is_operating_lem s.activation ≡ true → Alike (management_port_lem s.link.onu) s.ports.ids (payload_of h f) (payload_of h g))
      → AlikeFrames s f g
