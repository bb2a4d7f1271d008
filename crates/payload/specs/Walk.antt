-- The payload of a frame: its XGEM frames, one after the other.
-- Assumes nothing.
use Rattle.std.specs.Prelude.{Bool, true, false, cond, ◌&&◌, List, [], ◌∷◌, ℕ, ◌+◌, ◌*◌, leb, length}
use Rattle.ids.specs.declared.PortId.{PortId}
use Rattle.ports.specs.Limits.{slots, slot_bytes}
use Rattle.ports.specs.Ports.{drop_all_lem}
use Rattle.ports.specs.declared.Ports.{Ports}
use Rattle.payload.specs.declared.walk.Delineation.{Delineation}
use Rattle.payload.specs.declared.walk.Delineation.TheVariants.{Kept, Lost, Unfit}
use Rattle.payload.specs.Frames.{Xgem, Parsed, parse}
use Rattle.payload.specs.Memory.{Receiver, receiver_of, step}

unfoldable pub steps : PortId → Receiver → List Xgem → Receiver
steps own s [] = s
steps own s (x ∷ rest) = steps own (step own s x) rest

-- answer 6: "earlier deliveries stand, all partials are dropped, every port waits"
unfoldable pub ended_by : Bool → Receiver → Receiver
ended_by false s = s
ended_by true s = receiver_of (drop_all_lem s.ports) s.bytes s.memory s.deliveries

-- what the walk leaves
pub record Walked : Type 0 where
  pub receiver : Receiver
  pub delineation : Delineation

abbrev pub delineation_of : Bool → Delineation
delineation_of lost = cond lost Lost Kept

unfoldable pub left_by : PortId → Receiver → Parsed → Walked
left_by own s p = record { receiver = ended_by p.lost (steps own s p.frames); delineation = delineation_of p.lost }

-- the payload s, which stands at a place of the frame
unfoldable pub walk_of : PortId → Receiver → ℕ → List ℕ → Walked
walk_of own s place payload = left_by own s (parse place payload)

-- the memory of 17 slots, 34,816 bytes
abbrev pub memory_bytes : ℕ
memory_bytes = slots * slot_bytes

-- no unfinished SDU is longer than its slot
abbrev pub all_within_lem : List ℕ → Bool
all_within_lem [] = true
all_within_lem (n ∷ rest) = leb n slot_bytes && all_within_lem rest

-- partials within their slots, a memory that holds the slots, and room for what is left over and for every partial
abbrev pub fit : Ports → List ℕ → List ℕ → List ℕ → Bool
fit p memory deliveries payload =
    all_within_lem p.lengths && (leb memory_bytes (length memory) && leb (length payload + memory_bytes) (length deliveries))

-- the whole call: what is unfit changes nothing
abbrev pub receive_of : Ports → PortId → List ℕ → List ℕ → ℕ → List ℕ → Walked
receive_of p own memory deliveries place payload =
    cond (fit p memory deliveries payload)
    (walk_of own (receiver_of p 0 memory deliveries) place payload)
    (record { receiver = receiver_of p 0 memory deliveries; delineation = Unfit })
