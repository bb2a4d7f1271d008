-- "An unfragmented SDU can also be had as its own stretch of the lent frame, padding cut off. That call takes the state, the
-- frame and a delivery's number from 0; else, and after 1, 2, 4 or 5, the stretch is empty."
-- Assumes nothing.
use Rattle.std.specs.Prelude.{ℕ, ◌/◌, ◌≡◌, Bool, true, cond, List, leb, length, take, drop}
use Rattle.ids.specs.Ids.{management_port_lem}
use Rattle.xgtc.specs.declared.hlend.Hlend.{Hlend}
use Rattle.station.specs.declared.Station.{Station}
use Rattle.answers.specs.declared.Answer.{Answer}
use Rattle.answers.specs.declared.Answer.TheVariants.{Done, DelineationLost}
use Rattle.station.specs.States.{is_operating_lem}
use Rattle.stretches.specs.declared.StretchPlace as found
use Rattle.stretches.specs.declared.Extent.{Extent}
use Rattle.stretches.specs.Stretch.{extents_of, lost_in, stretch_of, numbers}
use Rattle.payload.specs.Memory.{put}
use Rattle.engine.specs.declared.stretching.StretchPlace.{StretchPlace}
use Rattle.engine.specs.declared.stretching.StretchPlaces.{StretchPlaces}
use Rattle.downstream.specs.declared.Opening.{Opening}
use Rattle.downstream.specs.declared.Opening.TheVariants.{Refused, Unread, Opened}
use Rattle.downstream.specs.Partitions.{header_end_lem}
use Rattle.downstream.specs.Opening.{opening}

abbrev pub empty : Answer → StretchPlace
empty answer = record { answer = answer; at = 0; bytes = 0 }

-- 6 "wherever delineation is lost, also behind" the delivery
abbrev pub answer_if_lem : Bool → Answer
answer_if_lem lost = cond lost DelineationLost Done

-- what was found, with its answer
abbrev pub told : found.StretchPlace → StretchPlace
told p = record { answer = answer_if_lem p.lost; at = p.stretch.at; bytes = p.stretch.bytes }

-- "Payload, in O5 only"
unfoldable pub place_in : Station → Hlend → List ℕ → ℕ → StretchPlace
place_in s h f k =
    cond (is_operating_lem s.activation)
    (told (stretch_of (management_port_lem s.link.onu) s.ports (header_end_lem h) f k))
    (empty Done)

abbrev pub place_by : Opening → Station → List ℕ → ℕ → StretchPlace
place_by (Refused answer) s f k = empty answer
place_by (Unread answer) s f k = empty answer
place_by (Opened h) s f k = place_in s h f k

-- the frame call's answers, without 3: the stretch is lent no buffer
unfoldable pub stretch_place_lem : Station → List ℕ → ℕ → StretchPlace
stretch_place_lem s f k = place_by (opening s f true) s f k

abbrev pub PlaceIs : Station → List ℕ → ℕ → StretchPlace → Type 0
PlaceIs s f k r = r ≡ stretch_place_lem s f k

-- exactly that part of the frame
abbrev pub cut : StretchPlace → List ℕ → List ℕ
cut p f = take p.bytes (drop p.at f)

abbrev pub StretchIs : Station → List ℕ → ℕ → List ℕ → Type 0
StretchIs s f k r = r ≡ cut (stretch_place_lem s f k) f

-- ---- all stretches of a frame, into a lent list

-- the answer and how many deliveries the frame has, and what the list then holds
pub record PlacesLeft : Type 0 where
  pub found : StretchPlaces
  pub places : List ℕ

-- nothing is listed
abbrev pub no_places : Answer → List ℕ → PlacesLeft
no_places answer places = record { found = record { answer = answer; count = 0 }; places = places }

-- place and length of each delivery's stretch, one after the other; past them the list is as it was
abbrev pub all_places : List Extent → Bool → List ℕ → PlacesLeft
all_places ts lost places = record { found = record { answer = answer_if_lem lost; count = length ts }; places = put places 0 (numbers ts) }

-- "Payload, in O5 only"
unfoldable pub places_in_lem : Station → Hlend → List ℕ → List ℕ → PlacesLeft
places_in_lem s h f places =
    cond (is_operating_lem s.activation)
    (all_places (extents_of (management_port_lem s.link.onu) s.ports (header_end_lem h) f) (lost_in (header_end_lem h) f) places)
    (no_places Done places)

-- a delivery takes sixteen bytes of the frame, a header of eight and eight at least, and two numbers of the list
abbrev pub bytes_a_number : ℕ
bytes_a_number = 8

abbrev pub places_fit : List ℕ → List ℕ → Bool
places_fit f places = leb (length f / bytes_a_number) (length places)

abbrev pub places_by : Opening → Station → List ℕ → List ℕ → PlacesLeft
places_by (Refused answer) s f places = no_places answer places
places_by (Unread answer) s f places = no_places answer places
places_by (Opened h) s f places = places_in_lem s h f places

-- the frame call's answers, where 3 is about the list
unfoldable pub stretch_places_lem : Station → List ℕ → List ℕ → PlacesLeft
stretch_places_lem s f places = places_by (opening s f (places_fit f places)) s f places

abbrev pub PlacesAre : Station → List ℕ → List ℕ → StretchPlaces → List ℕ → Type 0
PlacesAre s f places r left = record { found = r; places = left } ≡ stretch_places_lem s f places
