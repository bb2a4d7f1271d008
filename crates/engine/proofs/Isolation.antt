-- Nobody else's bytes matter: frames that differ only in payload bytes of ports not ours have equal answers, outputs, memory
-- and next states.
-- Assumes nothing.
use Prim.Native.Nat.{ℕ, zero, suc, ◌+◌, ◌*◌, ◌≤◌}
use native.Mathlib.Omega.{arith}
use mathlib.Core.Path.{◌≡◌, ◌∙◌, refl, sym, ap, ap₂}
use mathlib.Core.Bool.{Bool, true, false, not, cond}
use mathlib.Core.List.{List, [], ◌∷◌}
use lib.Dec.{leb}
use lib.ListN.{length, get_or, take, drop}
use borrow.Author.Tests.{le-leb}
use Rattle.ids.specs.Ids.{management_port_lem}
use Rattle.xgtc.specs.declared.hlend.Hlend.{Hlend}
use Rattle.xgtc.specs.Layouts.{hlend_of}
use Rattle.octets.specs.Octets.{value}
use Rattle.xgem.specs.Reads.{fields, taken}
use Rattle.xgtc.specs.Reads.{read_hlend_lem}
use Rattle.hec.specs.Reads.{reading}
use Rattle.station.specs.declared.Station.{Station}
use Rattle.answers.specs.declared.Answer.TheVariants.{Done, StateOutOfRange, FrameLengthUnfit, BufferTooShort}
use Rattle.station.specs.States.{is_operating_lem}
use Rattle.validity.specs.Ranges.{in_range}
use Rattle.entries.specs.Limits.{structure_octets}
use Rattle.ploam.specs.Layout.{message_octets}
use Rattle.payload.specs.declared.walk.Delineation.TheVariants.{Kept}
use Rattle.payload.specs.Alike.{Alike}
use Rattle.payload.specs.Walk.{Walked, walk_of}
use Rattle.payload.proofs.Isolation.{isolated}
use Rattle.stretches.specs.declared.Extent.{Extent}
use Rattle.stretches.specs.Stretch.{no_extent, extents_of, lost_in, stretch_of}
use Rattle.stretches.proofs.Isolation.{same-stretches}
use Rattle.series.specs.Series.{planned_of}
use Rattle.downstream.specs.declared.Opening.{Opening}
use Rattle.downstream.specs.declared.Opening.TheVariants.{Refused}
use Rattle.downstream.specs.Lengths.{length_fits_lem}
use Rattle.downstream.specs.Partitions.{hlend_octets, map_end_lem, header_end_lem, map_of, messages_of, payload_of}
use Rattle.downstream.specs.Opening.{by_hlend_lem, opening}
use Rattle.frame.specs.Given.{Arrival, Lent, arriving, lending, with_octets, enough, buffers_fit}
use Rattle.frame.specs.Frame.{own_of, planned_in, replies_in, payload_in, next, done, handled, by_opening, frame_left}
use Rattle.engine.specs.Stretch.{empty, told, place_in, place_by, stretch_place_lem}
use Rattle.engine.specs.Alike.{AlikeFrames, equal, behind}

-- a part of the front is a part of the whole
part_of : (a n e : ℕ) (f : List ℕ) → a + n ≤ e → take n (drop a (take e f)) ≡ take n (drop a f)
part_of zero zero e f h = refl
part_of zero (suc n) zero f h = absurd (omega arith)
part_of zero (suc n) (suc e) [] h = refl
part_of zero (suc n) (suc e) (x ∷ f) h = ap (λ (l : List ℕ). x ∷ l) (part_of zero n e f (omega arith))
part_of (suc a) n zero f h = absurd (omega arith)
part_of (suc a) n (suc e) [] h = refl
part_of (suc a) n (suc e) (x ∷ f) h = part_of a n e f (omega arith)

same-part : (a n e : ℕ) (f g : List ℕ) → a + n ≤ e → take e f ≡ take e g → take n (drop a f) ≡ take n (drop a g)
same-part a n e f g h q = sym (part_of a n e f h) ∙ ap (λ (l : List ℕ). take n (drop a l)) q ∙ part_of a n e g h

module _ (s : Station) (arrived : Arrival) (g : List ℕ) (lent : Lent) (h : Hlend) (reads : read_hlend_lem arrived.octets ≡ fields h)
    (fits : header_end_lem h ≤ length arrived.octets) (long : length arrived.octets ≡ length g) (front : take (header_end_lem h) arrived.octets ≡ take (header_end_lem h) g)
    (rest : is_operating_lem s.activation ≡ true → Alike (management_port_lem s.link.onu) s.ports.ids (payload_of h arrived.octets) (payload_of h g)) where
  same_map : map_of h arrived.octets ≡ map_of h g
  same_map = same-part hlend_octets (structure_octets * h.bwmap) (header_end_lem h) arrived.octets g (omega arith) front

  same-messages : messages_of h arrived.octets ≡ messages_of h g
  same-messages = same-part (map_end_lem h) (message_octets * h.ploam) (header_end_lem h) arrived.octets g (omega arith) front

  same_hlend : read_hlend_lem g ≡ fields h
  same_hlend =
      let four : take 4 arrived.octets ≡ take 4 g = same-part 0 4 (header_end_lem h) arrived.octets g (omega arith) front in
      let a : leb 4 (length arrived.octets) ≡ true = le-leb 4 (length arrived.octets) (omega (arith, fits)) in
      let b : leb 4 (length g) ≡ true = le-leb 4 (length g) (omega (arith, fits, long)) in
      let x : read_hlend_lem arrived.octets ≡ taken hlend_of (reading 32 (value (take 4 arrived.octets))) = rw a in
      let y : read_hlend_lem g ≡ taken hlend_of (reading 32 (value (take 4 g))) = rw b in
      y ∙ ap (λ (l : List ℕ). taken hlend_of (reading 32 (value l))) (sym four) ∙ sym x ∙ reads

  same_payload : payload_in s h arrived lent ≡ payload_in s h (with_octets arrived g) lent
  unfolding payload_in
  same_payload = go (is_operating_lem s.activation) rest
    where
      go
          : (b : Bool) → (b ≡ true → Alike (management_port_lem s.link.onu) s.ports.ids (payload_of h arrived.octets) (payload_of h g))
          → cond {A = Walked} b (walk_of (management_port_lem s.link.onu) (record { ports = s.ports; bytes = 0; memory = lent.memory; deliveries = lent.deliveries }) (header_end_lem h) (payload_of h arrived.octets)) (record { receiver = record { ports = s.ports; bytes = 0; memory = lent.memory; deliveries = lent.deliveries }; delineation = Kept })
          ≡ cond {A = Walked} b (walk_of (management_port_lem s.link.onu) (record { ports = s.ports; bytes = 0; memory = lent.memory; deliveries = lent.deliveries }) (header_end_lem h) (payload_of h g)) (record { receiver = record { ports = s.ports; bytes = 0; memory = lent.memory; deliveries = lent.deliveries }; delineation = Kept })
      go true k = isolated (k refl) (header_end_lem h) (record { ports = s.ports; bytes = 0; memory = lent.memory; deliveries = lent.deliveries }) refl
      go false k = refl

  same-planned : planned_in s h arrived ≡ planned_in s h (with_octets arrived g)
  unfolding planned_in
  same-planned = ap (λ (m : List ℕ). planned_of (own_of s) m s.carried) same_map

  same-handled : handled s h arrived lent ≡ handled s h (with_octets arrived g) lent
  unfolding handled done next replies_in
  same-handled = rw (same-planned, same_payload, same-messages)

  same-opened
      : by_opening (by_hlend_lem (read_hlend_lem arrived.octets) (length arrived.octets)) s arrived lent
      ≡ by_opening (by_hlend_lem (read_hlend_lem g) (length g)) s (with_octets arrived g) lent
  same-opened = rw (reads, same_hlend, sym long, le-leb (header_end_lem h) (length arrived.octets) fits) same-handled

  -- the tests before HLend are of the state and of lengths
  abbrev tested : ℕ → Opening → Opening
  tested n o =
      cond (not (in_range s)) (Refused StateOutOfRange)
      (cond (not (length_fits_lem n)) (Refused FrameLengthUnfit)
      (cond (not (enough n (length lent.memory) (length lent.plan) (length lent.replies) (length lent.deliveries))) (Refused BufferTooShort) o))

  same-frame : frame_left s arrived lent ≡ frame_left s (with_octets arrived g) lent
  unfolding frame_left opening
  same-frame =
      go (in_range s) (length_fits_lem (length arrived.octets)) (buffers_fit arrived lent)
      ∙ ap (λ (n : ℕ). by_opening (tested n (by_hlend_lem (read_hlend_lem g) (length g))) s (with_octets arrived g) lent) long
    where
      go
          : (a b c : Bool)
          → by_opening (cond (not a) (Refused StateOutOfRange) (cond (not b) (Refused FrameLengthUnfit) (cond (not c) (Refused BufferTooShort) (by_hlend_lem (read_hlend_lem arrived.octets) (length arrived.octets))))) s arrived lent
          ≡ by_opening (cond (not a) (Refused StateOutOfRange) (cond (not b) (Refused FrameLengthUnfit) (cond (not c) (Refused BufferTooShort) (by_hlend_lem (read_hlend_lem g) (length g))))) s (with_octets arrived g) lent
      go false b c = refl
      go true false c = refl
      go true true false = refl
      go true true true = same-opened

-- "Two frames that differ only in payload bytes of ports not ours have equal answers, outputs and next states"
pub frames_isolated : (s : Station) (a : Arrival) (g : List ℕ) (lent : Lent) → AlikeFrames s a.octets g → frame_left s a lent ≡ frame_left s (with_octets a g) lent
frames_isolated s a g lent equal = refl
frames_isolated s a g lent (behind h reads fits long front rest) = same-frame s a g lent h reads fits long front rest

-- ---- and their stretches

module _ (s : Station) (f g : List ℕ) (k : ℕ) (h : Hlend) (reads : read_hlend_lem f ≡ fields h) (fits : header_end_lem h ≤ length f) (long : length f ≡ length g)
    (front : take (header_end_lem h) f ≡ take (header_end_lem h) g)
    (rest : is_operating_lem s.activation ≡ true → Alike (management_port_lem s.link.onu) s.ports.ids (payload_of h f) (payload_of h g)) where
  same_place : place_in s h f k ≡ place_in s h g k
  unfolding place_in stretch_of extents_of lost_in
  same_place = go (is_operating_lem s.activation) rest
    where
      go : (b : Bool) → (b ≡ true → Alike (management_port_lem s.link.onu) s.ports.ids (payload_of h f) (payload_of h g))
          → cond b (told (stretch_of (management_port_lem s.link.onu) s.ports (header_end_lem h) f k)) (empty Done) ≡ cond b (told (stretch_of (management_port_lem s.link.onu) s.ports (header_end_lem h) g k)) (empty Done)
      go true alike =
          let x = same-stretches (alike refl) (header_end_lem h) s.ports in
          ap₂ (λ (ts : List Extent) (lost : Bool). told (record { stretch = get_or ts k no_extent; lost = lost })) x.0 x.1
      go false alike = refl

  places_alike : stretch_place_lem s f k ≡ stretch_place_lem s g k
  unfolding stretch_place_lem opening
  places_alike =
      let same = same_hlend s (arriving f 0) g (lending [] [] [] []) h reads fits long front rest in
      go (in_range s) (length_fits_lem (length f)) (rw (reads, same, sym long, le-leb (header_end_lem h) (length f) fits) same_place)
      ∙ ap (λ (n : ℕ). place_by (cond (not (in_range s)) (Refused StateOutOfRange) (cond (not (length_fits_lem n)) (Refused FrameLengthUnfit) (by_hlend_lem (read_hlend_lem g) (length g)))) s g k) long
    where
      go
          : (a b : Bool) → place_by (by_hlend_lem (read_hlend_lem f) (length f)) s f k ≡ place_by (by_hlend_lem (read_hlend_lem g) (length g)) s g k
          → place_by (cond (not a) (Refused StateOutOfRange) (cond (not b) (Refused FrameLengthUnfit) (by_hlend_lem (read_hlend_lem f) (length f)))) s f k
          ≡ place_by (cond (not a) (Refused StateOutOfRange) (cond (not b) (Refused FrameLengthUnfit) (by_hlend_lem (read_hlend_lem g) (length g)))) s g k
      go false b e = refl
      go true false e = refl
      go true true e = e

pub places_isolated : (s : Station) (f g : List ℕ) (k : ℕ) → AlikeFrames s f g → stretch_place_lem s f k ≡ stretch_place_lem s g k
places_isolated s f g k equal = refl
places_isolated s f g k (behind h reads fits long front rest) = places_alike s f g k h reads fits long front rest
