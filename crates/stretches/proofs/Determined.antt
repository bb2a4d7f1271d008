-- No second outcome meets the contract of a public function: for each, any two that do are equal.
-- Assumes nothing.
use mathlib.Core.Path.{◌≡◌, sym, ap, ◌∙◌}
use mathlib.Core.List.{List}
use Prim.Native.Nat.{ℕ}
use Rattle.ids.specs.declared.PortId.{PortId}
use Rattle.ports.specs.declared.Ports.{Ports}
use Rattle.stretches.specs.declared.Extent.{Extent}
use Rattle.stretches.specs.declared.Placed.{Placed}
use Rattle.stretches.specs.declared.StretchPlace.{StretchPlace}
use Rattle.stretches.specs.Stretch.{stretch_of, Listed, list_of, cut_out}

pub stretch_place_once : (own : PortId) (p : Ports) (begins : ℕ) (f : List ℕ) (k : ℕ) (a b : StretchPlace) → a ≡ stretch_of own p begins f k → b ≡ stretch_of own p begins f k → a ≡ b
stretch_place_once own p begins f k a b x y = x ∙ sym y

pub stretch_places_once : (own : PortId) (p : Ports) (begins : ℕ) (f : List ℕ) (first : ℕ) (places : List ℕ) (a b : Placed) (x y : List ℕ)
    → record { placed = a; places = x } ≡ list_of own p begins f first places → record { placed = b; places = y } ≡ list_of own p begins f first places → (a ≡ b) × (x ≡ y)
stretch_places_once own p begins f first places a b x y q r =
    let same = q ∙ sym r in
    (ap (λ (l : Listed). l.placed) same, ap (λ (l : Listed). l.places) same)

pub stretch_once : (s : List ℕ) (t : Extent) (a b : List ℕ) → a ≡ cut_out s t → b ≡ cut_out s t → a ≡ b
stretch_once s t a b x y = x ∙ sym y
