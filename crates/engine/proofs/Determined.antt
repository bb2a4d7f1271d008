-- No second outcome of a public call meets its contract, every lent buffer included.
-- Assumes nothing.
use Prim.Native.Nat.{ℕ}
use mathlib.Core.Path.{◌≡◌, ◌∙◌, sym, ap}
use mathlib.Core.List.{List}
use Rattle.station.specs.declared.Station.{Station}
use Rattle.station.specs.declared.Outcome.{Outcome}
use Rattle.frame.specs.declared.FrameOutcome.{FrameOutcome}
use Rattle.engine.specs.declared.stretching.StretchPlace.{StretchPlace}
use Rattle.engine.specs.declared.stretching.StretchPlaces.{StretchPlaces}
use Rattle.frame.specs.Given.{Arrival, Lent}
use Rattle.frame.specs.Frame.{FrameLeft, FrameLeaves}
use Rattle.engine.specs.Lods.{LostLeaves}
use Rattle.engine.specs.Stretch.{PlaceIs, StretchIs, PlacesLeft, PlacesAre}
use Rattle.engine.specs.declared.naming.Named.{Named}
use Rattle.engine.specs.Naming.{NamesLeft, NamesAre}

pub frame_determined
    : (s : Station) (arrived : Arrival) (lent : Lent) (a b : FrameOutcome) (x y : Lent) → FrameLeaves s arrived lent a x → FrameLeaves s arrived lent b y
    → (a ≡ b) × (x ≡ y)
frame_determined s arrived lent a b x y p q =
    let same = p ∙ sym q in
    (ap (λ (l : FrameLeft). record { answer = l.outcome.answer; station = l.outcome.station; counts = l.counts }) same, ap (λ (l : FrameLeft). l.lent) same)

pub lost_determined : (s : Station) (a b : Outcome) → LostLeaves s a → LostLeaves s b → a ≡ b
lost_determined s a b p q = p ∙ sym q

pub place_determined : (s : Station) (f : List ℕ) (k : ℕ) (a b : StretchPlace) → PlaceIs s f k a → PlaceIs s f k b → a ≡ b
place_determined s f k a b p q = p ∙ sym q

pub stretch_determined : (s : Station) (f : List ℕ) (k : ℕ) (a b : List ℕ) → StretchIs s f k a → StretchIs s f k b → a ≡ b
stretch_determined s f k a b p q = p ∙ sym q

pub places_determined : (s : Station) (f places : List ℕ) (a b : StretchPlaces) (x y : List ℕ) → PlacesAre s f places a x → PlacesAre s f places b y → (a ≡ b) × (x ≡ y)
places_determined s f places a b x y p q =
    let same = p ∙ sym q in
    (ap (λ (l : PlacesLeft). l.found) same, ap (λ (l : PlacesLeft). l.places) same)

pub names_determined : (s : Station) (f names : List ℕ) (a b : Named) (x y : List ℕ) → NamesAre s f names a x → NamesAre s f names b y → (a ≡ b) × (x ≡ y)
names_determined s f names a b x y p q =
    let same = p ∙ sym q in
    (ap (λ (l : NamesLeft). l.found) same, ap (λ (l : NamesLeft). l.names) same)
