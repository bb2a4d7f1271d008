-- "An unfragmented SDU can also be had as its own stretch of the lent frame, padding cut off."
-- Assumes nothing.
use Rattle.std.specs.Prelude.{Bool, cond, List, [], ◌∷◌, ◌++◌, ℕ, ◌+◌, ◌-◌, ◌/◌, eqb, leb, length, get_or, take, drop}
use Rattle.ids.specs.declared.PortId.{PortId}
use Rattle.ports.specs.declared.Ports.{Ports}
use Rattle.fragments.specs.declared.Reassembly.{Reassembly}
use Rattle.fragments.specs.declared.Reassembly.TheVariants.{Ignored, Dropped, Delivered, Appended}
use Rattle.fragments.specs.Fragments.{reassembly_of_lem, ports_after}
use Rattle.stretches.specs.declared.Extent.{Extent}
use Rattle.stretches.specs.declared.Placed.{Placed}
use Rattle.stretches.specs.declared.StretchPlace.{StretchPlace}
use Rattle.payload.specs.Frames.{Xgem, xgem_header_bytes, parse}
use Rattle.payload.specs.Memory.{Receiver, put, partial, step}

-- the empty stretch
abbrev pub no_extent : Extent
no_extent = record { at = 0; bytes = 0 }

-- a last or only fragment of n bytes, behind so many that the slot has: its own bytes where there are none, and the empty
-- stretch where the SDU came in several fragments
abbrev pub alone : ℕ → ℕ → ℕ → Extent
alone have at n = cond (eqb have 0) (record { at = at; bytes = n }) no_extent

-- what a frame delivers as a stretch
abbrev pub alone_at : Reassembly → ℕ → ℕ → List Extent
alone_at Ignored at n = []
alone_at (Dropped slot waits) at n = []
alone_at (Delivered slot have) at n = alone have at n ∷ []
alone_at (Appended slot have) at n = []

-- a stretch for each delivery, in order
unfoldable pub stretches : PortId → Ports → List Xgem → List Extent
stretches own p [] = []
stretches own p (x ∷ rest) =
    alone_at (reassembly_of_lem p own x.port x.last (length x.body)) (x.place + xgem_header_bytes) (length x.body)
    ++ stretches own (ports_after p (reassembly_of_lem p own x.port x.last (length x.body)) (length x.body)) rest

-- of the payload that begins so many octets into the frame: a stretch for each of its deliveries, by its place in the frame
unfoldable pub extents_of : PortId → Ports → ℕ → List ℕ → List Extent
extents_of own p begins f = stretches own p (parse begins (drop begins f)).frames

-- whether delineation is lost anywhere in it
unfoldable pub lost_in : ℕ → List ℕ → Bool
lost_in begins f = (parse begins (drop begins f)).lost

-- the stretch of delivery k, counted from 0: the empty one where there is no such delivery
unfoldable pub stretch_of : PortId → Ports → ℕ → List ℕ → ℕ → StretchPlace
stretch_of own p begins f k = record { stretch = get_or (extents_of own p begins f) k no_extent; lost = lost_in begins f }

-- each by its place and its length, one after the other
abbrev pub numbers : List Extent → List ℕ
numbers [] = []
numbers (t ∷ rest) = t.at ∷ (t.bytes ∷ numbers rest)

-- how many stretches, of two numbers each, a list has room for
abbrev pub room_in : List ℕ → ℕ
room_in places = length places / 2

-- how many stretches were listed and whether delineation is lost, and what the list then holds
pub record Listed : Type 0 where
  pub placed : Placed
  pub places : List ℕ

-- at the start of a list, whose rest is unchanged
abbrev pub listing : List Extent → Bool → List ℕ → Listed
listing ts lost places = record { placed = record { count = length ts; lost = lost }; places = put places 0 (numbers ts) }

-- the stretches of the deliveries from the first that is wanted on, as many as the list has room for
unfoldable pub list_of : PortId → Ports → ℕ → List ℕ → ℕ → List ℕ → Listed
list_of own p begins f first places = listing (take (room_in places) (drop first (extents_of own p begins f))) (lost_in begins f) places

-- the part of a slice that a stretch is; nothing where it does not lie within
abbrev pub cut_out : List ℕ → Extent → List ℕ
cut_out s t = cond (leb t.at (length s)) (cond (leb t.bytes (length s - t.at)) (take t.bytes (drop t.at s)) []) []

-- the SDUs that the frames deliver, in order
abbrev pub sdu_of : List ℕ → Reassembly → List ℕ → List (List ℕ)
sdu_of memory Ignored body = []
sdu_of memory (Dropped slot waits) body = []
sdu_of memory (Delivered slot have) body = (partial memory slot have ++ body) ∷ []
sdu_of memory (Appended slot have) body = []

unfoldable pub sdus : PortId → Receiver → List Xgem → List (List ℕ)
sdus own s [] = []
sdus own s (x ∷ rest) =
    sdu_of s.memory (reassembly_of_lem s.ports own x.port x.last (length x.body)) x.body ++ sdus own (step own s x) rest
