-- This engine meets demand 1.
-- Assumes nothing.
use Prim.Native.Nat.{ℕ, ◌≤◌}
use mathlib.Core.Path.{◌≡◌, ◌∙◌, refl, sym, subst}
use mathlib.Core.Bool.{Bool, true, false, not, cond, ◌&&◌, true≢false}
use mathlib.Core.List.{List}
use lib.Dec.{eqb, leb}
use lib.ListN.{length}
use borrow.Author.Tests.{leb-true, leb-false}
use Rattle.ids.specs.Ids.{management_port_lem}
use Rattle.xgtc.specs.declared.hlend.Hlend.{Hlend}
use Rattle.xgem.specs.Reads.{Found, fields, unreadable, short}
use Rattle.xgtc.specs.Reads.{read_hlend_lem}
use Rattle.octets.specs.Octets.{octets}
use Rattle.xgem.specs.Layouts.{xgem_fits, xgem_word}
use Rattle.xgtc.specs.Layouts.{hlend_fits, hlend_word, allocation_fits, allocation_word}
use Rattle.xgem.specs.Writes as writing
use Rattle.xgem.specs.Writes.{put, wrote, carrying, xgem_frame}
use Rattle.ids.specs.declared.PortId.{PortId}
use Rattle.ids.specs.Ids.{assignable_port}
use Rattle.answers.specs.declared.Answer.{Answer}
use Rattle.station.specs.declared.Station.{Station}
use Rattle.answers.specs.declared.Answer.TheVariants.{Done, StateOutOfRange, FrameLengthUnfit, BufferTooShort, HeaderTooLong, DelineationLost, PortOutOfRange, PortHeldOrNotHeld, SlotsTaken, KeyRefused, NotWritten}
use Rattle.answers.specs.Answers.{answer_number}
use Rattle.station.specs.States.{holds_identity_lem, is_operating_lem}
use Rattle.link.specs.Link.{with_key_lem, installed}
use Rattle.ports.specs.Ports.{port_place, vacancy, add_port_lem, remove_port_lem}
use Rattle.station.specs.Station.{power_on_lem, with_link_lem, with_ports_lem}
use Rattle.validity.specs.Ranges.{in_range}
use Rattle.timing.specs.Timing.{lost_time_lem}
use Rattle.station.specs.declared.Outcome.{Outcome}
use Rattle.ids.specs.Places.{is_held}
use Rattle.host.specs.Host.{outcome, answer_to_add_lem, answer_to_remove_lem, answer_to_key_lem, after_add, after_remove, after_key}
use Rattle.payload.specs.Frames.{parse}
use Rattle.stretches.specs.Stretch.{lost_in, stretch_of}
use Rattle.downstream.specs.declared.Opening.TheVariants.{Refused, Unread, Opened}
use Rattle.downstream.specs.Lengths.{length_fits_lem}
use Rattle.downstream.specs.Opening.{by_hlend_lem, opening}
use Rattle.downstream.specs.Partitions.{header_end_lem, payload_of}
use Rattle.engine.specs.Lods.{lost_left}
use Rattle.engine.specs.declared.stretching.StretchPlace.{StretchPlace}
use Rattle.engine.specs.Stretch.{empty, told, place_in, place_by, stretch_place_lem, places_fit, places_by, stretch_places_lem}
use Rattle.engine.specs.Naming.{NamesLeft, named_in, most_structures, names_by, why_dark_lem}
use Rattle.engine.proofs.Each.{each-by}
use Rattle.engine.proofs.Table.{table, not_short}
use Rattle.demands.specs.Engine.{lingbarrow}
use Rattle.demands.specs.Demand1.{PoweredOn, LostRow, AddRow, RemoveRow, KeyRow, Placed, StretchRow, StretchesRow, Passed, NamesRow, WriteRow, Writes, Demand1}

powered_on : (serial registration : List ℕ) → PoweredOn serial registration (power_on_lem serial registration)
powered_on serial registration =
    record {
      state = refl;
      serial-number = refl;
      registration-id = refl;
      onu = refl;
      allocs = refl;
      owed = refl;
      key = refl;
      delay = refl;
      ports = refl;
      partials = refl;
      waiting = refl;
      carried = refl;
    }

lost_row : (s : Station) → LostRow s (lost_left s).station (answer_number (lost_left s).answer)
unfolding lost_left
lost_row s = go (in_range s) refl
  where
    go
        : (b : Bool) → in_range s ≡ b
        → let o = cond {A = Outcome} (not b) (record { answer = StateOutOfRange; station = s }) (record { answer = Done; station = lost_time_lem s }) in LostRow s o.station (answer_number o.answer)
    go true e = LostRow.done e refl
    go false e = LostRow.state_out_of_range e refl

add_row : (s : Station) (port : PortId) → AddRow s port (after_add s port).station (answer_number (after_add s port).answer)
unfolding after_add answer_to_add_lem
add_row s port = go (in_range s) refl (assignable_port port) refl (is_held (port_place s.ports port)) refl (is_held (vacancy s.ports)) refl
  where
    go
        : (a : Bool) → in_range s ≡ a → (b : Bool) → assignable_port port ≡ b → (c : Bool) → is_held (port_place s.ports port) ≡ c → (d : Bool) → is_held (vacancy s.ports) ≡ d
        → let o = outcome (cond (not a) StateOutOfRange (cond (not b) PortOutOfRange (cond c PortHeldOrNotHeld (cond d Done SlotsTaken)))) s (with_ports_lem s (add_port_lem s.ports port)) in
        AddRow s port o.station (answer_number o.answer)
    go false p b q c r d t = AddRow.state_out_of_range p refl
    go true p false q c r d t = AddRow.port_out_of_range p q refl
    go true p true q true r d t = AddRow.port_held p q r refl
    go true p true q false r true t = AddRow.done p q r t refl
    go true p true q false r false t = AddRow.slots-taken p q r t refl

remove_row : (s : Station) (port : PortId) → RemoveRow s port (after_remove s port).station (answer_number (after_remove s port).answer)
unfolding after_remove answer_to_remove_lem
remove_row s port = go (in_range s) refl (assignable_port port) refl (is_held (port_place s.ports port)) refl
  where
    go
        : (a : Bool) → in_range s ≡ a → (b : Bool) → assignable_port port ≡ b → (c : Bool) → is_held (port_place s.ports port) ≡ c
        → let o = outcome (cond (not a) StateOutOfRange (cond (not b) PortOutOfRange (cond c Done PortHeldOrNotHeld))) s (with_ports_lem s (remove_port_lem s.ports port)) in
        RemoveRow s port o.station (answer_number o.answer)
    go false p b q c r = RemoveRow.state_out_of_range p refl
    go true p false q c r = RemoveRow.port_out_of_range p q refl
    go true p true q true r = RemoveRow.done p q r refl
    go true p true q false r = RemoveRow.port_not_held p q r refl

key_row : (s : Station) (octets : List ℕ) → KeyRow s octets (after_key s octets).station (answer_number (after_key s octets).answer)
unfolding after_key answer_to_key_lem
key_row s octets = go (in_range s) refl (holds_identity_lem s.activation) refl
  where
    go
        : (a : Bool) → in_range s ≡ a → (b : Bool) → holds_identity_lem s.activation ≡ b
        → let o = outcome (cond (not a) StateOutOfRange (cond b Done KeyRefused)) s (with_link_lem s (with_key_lem s.link (installed octets))) in
        KeyRow s octets o.station (answer_number o.answer)
    go false p b q = KeyRow.state_out_of_range p refl
    go true p true q = KeyRow.done p q refl
    go true p false q = KeyRow.key_refused p q refl

-- ---- the stretch

pub place_answer : (s : Station) (h : Hlend) (f : List ℕ) (k : ℕ) → (place_in s h f k).answer ≡ cond (is_operating_lem s.activation && (parse (header_end_lem h) (payload_of h f)).lost) DelineationLost Done
unfolding place_in stretch_of lost_in
place_answer s h f k = go (is_operating_lem s.activation)
  where
    go : (b : Bool) → (cond {A = StretchPlace} b (told (stretch_of (management_port_lem s.link.onu) s.ports (header_end_lem h) f k)) (empty Done)).answer ≡ cond (b && (parse (header_end_lem h) (payload_of h f)).lost) DelineationLost Done
    go true = refl
    go false = refl

module _ (s : Station) (f : List ℕ) (k : ℕ) where
  abbrev StretchRowed : StretchPlace → Type 0
  StretchRowed p = StretchRow s f k p (answer_number p.answer)

  placed_row : in_range s ≡ true → length_fits_lem (length f) ≡ true → (h : Hlend) → read_hlend_lem f ≡ fields h → header_end_lem h ≤ length f → StretchRowed (place_in s h f k)
  placed_row a b h e fits =
      subst (λ (x : Answer). StretchRow s f k (place_in s h f k) (answer_number x)) (sym (place_answer s h f k)) (go (is_operating_lem s.activation && (parse (header_end_lem h) (payload_of h f)).lost) refl)
    where
      whole : (l : Bool) → (is_operating_lem s.activation && (parse (header_end_lem h) (payload_of h f)).lost) ≡ l → Placed s f k l (place_in s h f k)
      whole l q = record { state = a; frame = b; hlend = h; reads = e; fits = fits; delineation = q; place = refl }

      go : (l : Bool) → (is_operating_lem s.activation && (parse (header_end_lem h) (payload_of h f)).lost) ≡ l → StretchRow s f k (place_in s h f k) (answer_number (cond l DelineationLost Done))
      go true q = StretchRow.delineation_lost (whole true q)
      go false q = StretchRow.done (whole false q)

  by-hlend : in_range s ≡ true → length_fits_lem (length f) ≡ true → (r : Found Hlend) → read_hlend_lem f ≡ r → StretchRowed (place_by (by_hlend_lem r (length f)) s f k)
  by-hlend a b unreadable e = StretchRow.hlend_unreadable a b e refl
  by-hlend a b short e = absurd (not_short f b e)
  by-hlend a b (fields h) e = go (leb (header_end_lem h) (length f)) refl
    where
      go : (c : Bool) → leb (header_end_lem h) (length f) ≡ c → StretchRowed (place_by (cond c (Opened h) (Unread HeaderTooLong)) s f k)
      go true q = placed_row a b h e (leb-true (header_end_lem h) (length f) q)
      go false q = StretchRow.header_too_long (record { state = a; frame = b; hlend = h; reads = e; longer = leb-false (header_end_lem h) (length f) q; place = refl })

  stretch_row : StretchRowed (stretch_place_lem s f k)
  unfolding stretch_place_lem opening
  stretch_row = go (in_range s) refl (length_fits_lem (length f)) refl
    where
      go
          : (a : Bool) → in_range s ≡ a → (b : Bool) → length_fits_lem (length f) ≡ b
          → StretchRowed (place_by (cond (not a) (Refused StateOutOfRange) (cond (not b) (Refused FrameLengthUnfit) (by_hlend_lem (read_hlend_lem f) (length f)))) s f k)
      go false p b q = StretchRow.state_out_of_range p refl
      go true p false q = StretchRow.frame_length_unfit p q refl
      go true p true q = by-hlend p q (read_hlend_lem f) refl

stretches-row : (s : Station) (f places : List ℕ) → StretchesRow s f places (stretch_places_lem s f places) (answer_number (stretch_places_lem s f places).found.answer)
unfolding stretch_places_lem opening
stretches-row s f places = go (in_range s) refl (length_fits_lem (length f)) refl (places_fit f places) refl
  where
    go
        : (a : Bool) → in_range s ≡ a → (b : Bool) → length_fits_lem (length f) ≡ b → (c : Bool) → places_fit f places ≡ c
        → let left = places_by (cond (not a) (Refused StateOutOfRange) (cond (not b) (Refused FrameLengthUnfit) (cond (not c) (Refused BufferTooShort) (by_hlend_lem (read_hlend_lem f) (length f))))) s f places in
        StretchesRow s f places left (answer_number left.found.answer)
    go false p b q c r = StretchesRow.each (λ t. absurd (true≢false (sym t ∙ p))) (each-by s f places (Refused StateOutOfRange) (rw p))
    go true p false q c r = StretchesRow.each (λ t u. absurd (true≢false (sym u ∙ q))) (each-by s f places (Refused FrameLengthUnfit) (rw (p, q)))
    go true p true q false r = StretchesRow.list-too-short p q r refl
    go true p true q true r = StretchesRow.each (λ t u. r) (each-by s f places (by_hlend_lem (read_hlend_lem f) (length f)) (rw (p, q)))

-- ---- the names

module _ (s : Station) (f names : List ℕ) where
  abbrev NamesRowed : NamesLeft → Type 0
  NamesRowed left = NamesRow s f names left (answer_number left.found.answer)

  named-row : Passed s f names → (h : Hlend) → read_hlend_lem f ≡ fields h → header_end_lem h ≤ length f → NamesRowed (named_in s h f names)
  unfolding named_in
  named-row p h e fits = NamesRow.done p h e fits refl

  names_by_hlend : Passed s f names → (r : Found Hlend) → read_hlend_lem f ≡ r → NamesRowed (names_by (by_hlend_lem r (length f)) s f names)
  names_by_hlend p unreadable e = NamesRow.hlend_unreadable p e refl
  names_by_hlend p short e = absurd (not_short f p.frame e)
  names_by_hlend p (fields h) e = go (leb (header_end_lem h) (length f)) refl
    where
      go : (c : Bool) → leb (header_end_lem h) (length f) ≡ c → NamesRowed (names_by (cond c (Opened h) (Unread HeaderTooLong)) s f names)
      go true q = named-row p h e (leb-true (header_end_lem h) (length f) q)
      go false q = NamesRow.header_too_long p h e (leb-false (header_end_lem h) (length f) q) refl

  names-row : NamesRowed (why_dark_lem s f names)
  unfolding why_dark_lem opening
  names-row = go (in_range s) refl (length_fits_lem (length f)) refl (leb most_structures (length names)) refl
    where
      go
          : (a : Bool) → in_range s ≡ a → (b : Bool) → length_fits_lem (length f) ≡ b → (c : Bool) → leb most_structures (length names) ≡ c
          → NamesRowed (names_by (cond (not a) (Refused StateOutOfRange) (cond (not b) (Refused FrameLengthUnfit) (cond (not c) (Refused BufferTooShort) (by_hlend_lem (read_hlend_lem f) (length f))))) s f names)
      go false p b q c r = NamesRow.state_out_of_range p refl
      go true p false q c r = NamesRow.frame_length_unfit p q refl
      go true p true q false r = NamesRow.list-too-short p q (leb-false most_structures (length names) r) refl
      go true p true q true r = names_by_hlend (record { state = p; frame = q; list = leb-true most_structures (length names) r }) (read_hlend_lem f) refl

-- ---- the writers

write_row : (fit : Bool) (octets t : List ℕ) → Writes fit octets t (wrote fit octets t)
write_row fit octets t = go fit refl (leb (length octets) (length t)) refl
  where
    go
        : (a : Bool) → fit ≡ a → (b : Bool) → leb (length octets) (length t) ≡ b
        → Writes fit octets t (cond {A = writing.WriteLeft} (a && b) (record { answer = Done; target = put t octets }) (record { answer = NotWritten; target = t }))
    go true p true q = WriteRow.done p (leb-true (length octets) (length t) q) refl
    go true p false q = WriteRow.too_short p (leb-false (length octets) (length t) q) refl
    go false p b q = WriteRow.too_wide p refl

pub meets_demand_1 : Demand1 lingbarrow
meets_demand_1 = record {
  power-on = powered_on;
  frame = table;
  lost = lost_row;
  add = add_row;
  remove = remove_row;
  key = key_row;
  stretch = stretch_row;
  stretches = stretches-row;
  names = names-row;
  hlend = λ h t. write_row (hlend_fits h) (octets 4 (hlend_word h)) t;
  allocation = λ a t. write_row (allocation_fits a) (octets 8 (allocation_word a)) t;
  xgem = λ x t. write_row (xgem_fits x) (octets 8 (xgem_word x)) t;
  xgem-frame = λ x sdu t. write_row (xgem_fits (carrying x sdu)) (xgem_frame (carrying x sdu) sdu) t;
}
