-- What the types of a station's fields say of their lengths and numbers, and that its two counts take one octet, as those of a state
-- in range do.
-- Assumes nothing.
use Rattle.std.specs.Prelude.{ℕ, ◌^◌, ◌<◌, ◌≡◌, List, [], ◌∷◌, length}
use Rattle.ids.specs.declared.AllocId.{AllocId}
use Rattle.ids.specs.declared.PortId.{PortId}
use Rattle.station.specs.declared.Station.{Station}
use Rattle.station.specs.Limits.{serial_octets_lem, registration_octets_lem}
use Rattle.link.specs.Limits.{added_allocs, most_owed, key_octets}
use Rattle.ports.specs.Limits.{slots, added_ports}
use Rattle.layout.specs.Offsets.{id_width, count_width, time_width, delay_width, length_width, words_width}
use Rattle.layout.specs.Layout.{time_left_lem}

abbrev pub Every : {A : Type 0} → (A → Type 0) → List A → Type 0
Every ok [] = Unit {0}
Every ok (a ∷ l) = ok a × Every ok l

-- the arrays have their lengths
pub record Sized (s : Station) : Type 0 where
  pub serial : length s.serial ≡ serial_octets_lem
  pub registration : length s.registration ≡ registration_octets_lem
  pub allocs : length s.link.allocs.ids ≡ added_allocs
  pub key : length s.link.key.octets ≡ key_octets
  pub answers : length s.link.owed.answers ≡ most_owed
  pub ports : length s.ports.ids ≡ added_ports
  pub lengths : length s.ports.lengths ≡ slots
  pub waiting : length s.ports.waiting ≡ slots

pub record Typed (s : Station) : Type 0 where
  pub sized : Sized s
  pub left : time_left_lem s.activation < 256 ^ time_width
  pub onu : s.link.onu.0 < 256 ^ id_width
  pub alloc_ids : Every (λ (id : AllocId). id.0 < 256 ^ id_width) s.link.allocs.ids
  pub alloc_count : s.link.allocs.count < 256 ^ count_width
  pub delay : s.link.delay < 256 ^ delay_width
  pub owed_count : s.link.owed.count < 256 ^ count_width
  pub port_ids : Every (λ (id : PortId). id.0 < 256 ^ id_width) s.ports.ids
  pub partials : Every (λ (bytes : ℕ). bytes < 256 ^ length_width) s.ports.lengths
  pub carried : s.carried < 256 ^ words_width
