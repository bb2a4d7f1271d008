-- The search from delivery to delivery: so many are to be passed over, then each is listed.
-- Assumes nothing.
use Rattle.std.specs.Prelude.{None, Option, Some}
use Rattle.std.specs.Prelude.{◌≡◌, true, false, cond, List, [], ◌∷◌, ℕ, ◌+◌, ◌*◌, ◌-◌, ◌≤◌, ◌<◌, eqb, length}
use Rattle.ids.specs.declared.PortId.{PortId}
use Rattle.ports.specs.declared.Ports.{Ports}
use Rattle.payload.specs.Memory.{put}
use Rattle.stretches.specs.declared.Extent.{Extent}
use Rattle.stretches.specs.declared.search.Delivery.{Delivery}
use Rattle.stretches.specs.declared.search.Delivery.TheVariants as delivery
use Rattle.stretches.specs.declared.search.Search.{Search}
use Rattle.stretches.specs.Stretch.{extents_of, lost_in, numbers}

-- what a frame brings: a stretch, if it delivers
abbrev pub brought : List Extent → Option Extent
brought [] = None
brought (t ∷ rest) = Some t

-- the next delivery from a place of the frame on: none, and whether delineation is lost; or a stretch and where its frame ends, with
-- the ports as they then are
abbrev pub NextDelivery : PortId → Ports → ℕ → List ℕ → Ports → Delivery → Type 0
NextDelivery own p at f q delivery.Done = (extents_of own p at f ≡ []) × (lost_in at f ≡ false)
NextDelivery own p at f q delivery.Lost = (extents_of own p at f ≡ []) × (lost_in at f ≡ true)
NextDelivery own p at f q (delivery.Met t behind) =
    (extents_of own p at f ≡ t ∷ extents_of own q behind f) × (lost_in at f ≡ lost_in behind f) × (at < behind) × (behind ≤ length f)

pub record Noted : Type 0 where
  pub search : Search
  pub places : List ℕ

-- what a delivery leaves of the search and of the list
unfoldable pub noted : ℕ → ℕ → List ℕ → Extent → Noted
noted ahead count places t =
    cond (eqb ahead 0)
    (record { search = record { ahead = 0; count = count + 1 }; places = put places (2 * count) (numbers (t ∷ [])) })
    (record { search = record { ahead = ahead - 1; count = count }; places = places })
