-- A sound station whose fields are as wide as their types has octets that are read as it.
-- Assumes nothing.
use Prim.Native.Nat.{ℕ, ◌^◌, ◌<◌, ◌-◌}
use native.Mathlib.Omega.{arith}
use mathlib.Core.Path.{◌≡◌, refl}
use mathlib.Core.Bool.{Bool, true, false, not, cond, ◌&&◌}
use mathlib.Core.List.{List, [], ◌∷◌}
use lib.Dec.{leb}
use borrow.Author.Tests.{leb-true, eqb-true}
use Rattle.ids.specs.declared.OnuId.{OnuId}
use Rattle.ids.specs.declared.PortId.{PortId}
use Rattle.ids.specs.Ids.{assignable_onu, assignable_port, same_onu, same_port, broadcast_onu}
use Rattle.ids.specs.Places.{some}
use Rattle.station.specs.declared.Activation.{Activation}
use Rattle.station.specs.declared.Activation.TheVariants.{Initial, SerialNumber, Ranging, Operation, Intermittent, EmergencyStop}
use Rattle.station.specs.declared.Station.{Station}
use Rattle.station.specs.Limits.{to1, to2, upstream_words}
use Rattle.station.specs.States.{holds_identity_lem}
use Rattle.ports.specs.Limits.{slot_bytes}
use Rattle.ports.specs.Ports.{no_port}
use Rattle.validity.specs.Ranges.{identity_fits_lem, proper, held, ports_fit_lem, timer_fits_lem}
use Rattle.validity.proofs.Tests.{both}
use Rattle.invariants.proofs.InRange.{Sound, sound_in_range}
use Rattle.payload.specs.Walk.{all_within_lem}
use Rattle.frame.proofs.Laws.{partials_within}
use Rattle.layout.specs.Offsets.{id_width, length_width, time_width}
use Rattle.layout.specs.Layout.{time_left_lem}
use Rattle.layout.specs.Typed.{Every, Typed}
use Rattle.boundary.proofs.OneForm.{alloc_count, owed_count}
use Rattle.exported.proofs.Widths.{Widths}

onu_id : (a : Activation) (onu : OnuId) → identity_fits_lem a onu ≡ true → onu.0 < 256 ^ id_width
unfolding identity_fits_lem
onu_id a onu h = go (holds_identity_lem a) h
  where
    go : (b : Bool) → cond b (assignable_onu onu) (same_onu onu broadcast_onu) ≡ true → onu.0 < 256 ^ id_width
    go true e = omega (arith, leb-true onu.0 1022 e)
    go false e = omega (arith, eqb-true onu.0 1023 e)

abbrev IsPort : PortId → Type 0
IsPort id = id.0 < 256 ^ id_width

port_ids : (ids : List PortId) → proper assignable_port same_port (held ids) ≡ true → Every IsPort ids
port_ids [] h = tt
port_ids (p ∷ l) h = go (same_port p no_port) refl h (port_ids l)
  where
    go : (b : Bool) → same_port p no_port ≡ b → proper assignable_port same_port (cond b (held l) (p ∷ held l)) ≡ true
        → (proper assignable_port same_port (held l) ≡ true → Every IsPort l) → Every IsPort (p ∷ l)
    go true e h ih = (omega (arith, eqb-true p.0 0 e), ih h)
    go false e h ih =
        let x = both (assignable_port p) (not (some (same_port p) (held l)) && proper assignable_port same_port (held l)) h in
        let y = both (leb 1023 p.0) (leb p.0 65534) x.0 in
        let z = both (not (some (same_port p) (held l))) (proper assignable_port same_port (held l)) x.1 in
        (omega (arith, leb-true p.0 65534 y.1), ih z.1)

lengths_two : (l : List ℕ) → all_within_lem l ≡ true → Every (λ (bytes : ℕ). bytes < 256 ^ length_width) l
lengths_two [] h = tt
lengths_two (n ∷ l) h =
    let x = both (leb n slot_bytes) (all_within_lem l) h in
    (omega (arith, leb-true n slot_bytes x.0), lengths_two l x.1)

time_four : (a : Activation) → timer_fits_lem a ≡ true → time_left_lem a < 256 ^ time_width
time_four Initial h = omega arith
time_four SerialNumber h = omega arith
time_four (Ranging left) h = omega (arith, leb-true left to1 (both (leb 1 left) (leb left to1) h).1)
time_four Operation h = omega arith
time_four (Intermittent left) h = omega (arith, leb-true left to2 (both (leb 1 left) (leb left to2) h).1)
time_four EmergencyStop h = omega arith

pub typed : (s : Station) → Sound s → Widths s → Typed s
unfolding ports_fit_lem
typed s k w =
    record {
      sized = record {
        serial = w.serial-long;
        registration = w.registration-long;
        allocs = k.allocs_long;
        key = w.key_long;
        answers = k.answers-long;
        ports = k.ports_long;
        lengths = k.lengths_long;
        waiting = k.waiting_long;
      };
      left = time_four s.activation k.timer;
      onu = onu_id s.activation s.link.onu k.identity;
      alloc_ids = w.alloc_ids;
      alloc_count = alloc_count s (sound_in_range s k);
      delay = w.delay;
      owed_count = owed_count s (sound_in_range s k);
      port_ids = port_ids s.ports.ids k.ports;
      partials = lengths_two s.ports.lengths (partials_within s k.lengths_long (sound_in_range s k));
      carried = omega (arith, leb-true s.carried (upstream_words - 1) k.carried);
    }
