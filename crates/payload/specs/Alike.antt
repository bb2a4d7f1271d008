-- Two payloads that differ only in payload bytes of ports that are not ours: of the idle port, and of foreign ones.
-- Assumes nothing.
use Rattle.std.specs.Prelude.{None, ◌≡◌, ◌⊎◌, List, ℕ, ◌+◌, ◌<◌, length, take, drop}
use Rattle.ids.specs.declared.PortId.{PortId}
use Rattle.xgem.specs.declared.frame.XgemHeader.{XgemHeader}
use Rattle.xgem.specs.Layouts.{payload_size_lem}
use Rattle.xgem.specs.Reads.{fields, read_xgem_lem}
use Rattle.fragments.specs.Fragments.{slot_in_lem}
use Rattle.payload.specs.declared.frames.Next.TheVariants.{Frame}
use Rattle.payload.specs.Frames.{xgem_header_bytes, next_of}

-- equal; or the same header and as many bytes, then a frame whose port has no slot or whose bytes are equal, and alike again
-- behind it; or a frame whose port has no slot and whose payload is longer than what is left: all that is left are its payload bytes
pub data Alike (own : PortId) (ids : List PortId) : List ℕ → List ℕ → Type 0 where
  equal : {s : List ℕ} → Alike own ids s s
  past : {s t : List ℕ} (x : XgemHeader) → next_of s ≡ Frame x → take xgem_header_bytes s ≡ take xgem_header_bytes t → length s ≡ length t
      → (slot_in_lem ids own x.port ≡ None) ⊎ (take x.pli (drop xgem_header_bytes s) ≡ take x.pli (drop xgem_header_bytes t))
      → Alike own ids (drop (xgem_header_bytes + payload_size_lem x.pli) s) (drop (xgem_header_bytes + payload_size_lem x.pli) t) → Alike own ids s t
  beyond : {s t : List ℕ} (x : XgemHeader) → read_xgem_lem s ≡ fields x → length s < xgem_header_bytes + payload_size_lem x.pli
      → take xgem_header_bytes s ≡ take xgem_header_bytes t → length s ≡ length t → slot_in_lem ids own x.port ≡ None → Alike own ids s t
