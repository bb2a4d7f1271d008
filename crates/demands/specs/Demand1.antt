-- Demand 1: "Every call answers for every frame, every state and every lent buffer. What is unfit gets a numbered answer, and for
-- each number it is fixed what the state and the buffers hold afterwards. The caller is never asked to have checked."
-- No hypothesis stands before a row: the caller grants nothing.
-- Assumes nothing.
use Rattle.std.specs.Prelude.{ℕ, ◌≤◌, ◌<◌, ◌≡◌, Bool, true, false, ◌&&◌, List, length, replicate}
use Rattle.xgtc.specs.declared.hlend.Hlend.{Hlend}
use Rattle.xgtc.specs.declared.allocation.Allocation.{Allocation}
use Rattle.xgem.specs.declared.frame.XgemHeader.{XgemHeader}
use Rattle.octets.specs.Octets.{octets}
use Rattle.xgem.specs.Layouts.{xgem_fits, xgem_word}
use Rattle.xgtc.specs.Layouts.{hlend_fits, hlend_word, allocation_fits, allocation_word}
use Rattle.xgem.specs.Writes.{WriteLeft, put, carrying, xgem_frame}
use Rattle.xgem.specs.Reads.{fields, unreadable}
use Rattle.xgtc.specs.Reads.{read_hlend_lem}
use Rattle.ids.specs.declared.PortId.{PortId}
use Rattle.ids.specs.Ids.{assignable_port}
use Rattle.station.specs.declared.Station.{Station}
use Rattle.station.specs.declared.Activation.TheVariants.{Initial}
use Rattle.answers.specs.declared.Answer.TheVariants.{StateOutOfRange, FrameLengthUnfit, BufferTooShort, HlendUnreadable, HeaderTooLong}
use Rattle.answers.specs.Answers.{answer_number}
use Rattle.station.specs.States.{holds_identity_lem}
use Rattle.link.specs.declared.Response.TheVariants.{Registration}
use Rattle.link.specs.Limits.{added_allocs, most_owed, key_octets}
use Rattle.link.specs.Link.{with_key_lem, installed}
use Rattle.ports.specs.Limits.{added_ports, slots}
use Rattle.ports.specs.Ports.{port_place, vacancy, add_port_lem, remove_port_lem}
use Rattle.station.specs.Station.{with_link_lem, with_ports_lem}
use Rattle.validity.specs.Ranges.{in_range}
use Rattle.timing.specs.Timing.{lost_time_lem}
use Rattle.ids.specs.Places.{is_held}
use Rattle.payload.specs.Frames.{parse}
use Rattle.downstream.specs.Lengths.{length_fits_lem}
use Rattle.frame.specs.Given.{Arrival, Lent}
use Rattle.downstream.specs.Partitions.{header_end_lem, payload_of}
use Rattle.station.specs.States.{is_operating_lem}
use Rattle.engine.specs.Answers.{Row}
use Rattle.engine.specs.declared.stretching.StretchPlace.{StretchPlace}
use Rattle.engine.specs.Stretch.{empty, place_in, PlacesLeft, no_places, places_fit}
use Rattle.engine.specs.Each.{EachStretch}
use Rattle.engine.specs.Naming.{NamesLeft, unnamed, named_in, most_structures}
use Rattle.demands.specs.Engine.{Engine}

-- ---- power-on

-- "Power-on takes a serial number and a Registration ID and gives O1 with nothing held or carried"
pub record PoweredOn (serial registration : List ℕ) (s : Station) : Type 0 where
  pub state : s.activation ≡ Initial
  pub serial-number : s.serial ≡ serial
  pub registration-id : s.registration ≡ registration
  -- "ONU-ID .. else 1,023"
  pub onu : s.link.onu.0 ≡ 1023
  pub allocs : s.link.allocs ≡ record { ids = replicate added_allocs (record { 0 = 0 }); count = 0 }
  pub owed : s.link.owed ≡ record { answers = replicate most_owed (record { response = Registration; seq_no = 0 }); count = 0 }
  pub key : s.link.key ≡ record { held = false; octets = replicate key_octets 0 }
  pub delay : s.link.delay ≡ 0
  pub ports : s.ports.ids ≡ replicate added_ports (record { 0 = 0 })
  pub partials : s.ports.lengths ≡ replicate slots 0
  -- "every port then waits, the management port too, and from power-on"
  pub waiting : s.ports.waiting ≡ replicate slots true
  pub carried : s.carried ≡ 0

-- ---- the rows of each call, by the answer's number: when it is given, and what is left. A call has no number but those of its rows

-- the lost frame time
pub data LostRow (s next : Station) : ℕ → Type 0 where
  done : in_range s ≡ true → next ≡ lost_time_lem s → LostRow s next 0
  state_out_of_range : in_range s ≡ false → next ≡ s → LostRow s next 1

-- a port is added: it has the lowest empty slot
pub data AddRow (s : Station) (port : PortId) (next : Station) : ℕ → Type 0 where
  done
      : in_range s ≡ true → assignable_port port ≡ true → is_held (port_place s.ports port) ≡ false → is_held (vacancy s.ports) ≡ true
      → next ≡ with_ports_lem s (add_port_lem s.ports port) → AddRow s port next 0
  state_out_of_range : in_range s ≡ false → next ≡ s → AddRow s port next 1
  port_out_of_range : in_range s ≡ true → assignable_port port ≡ false → next ≡ s → AddRow s port next 7
  port_held : in_range s ≡ true → assignable_port port ≡ true → is_held (port_place s.ports port) ≡ true → next ≡ s → AddRow s port next 8
  slots-taken
      : in_range s ≡ true → assignable_port port ≡ true → is_held (port_place s.ports port) ≡ false → is_held (vacancy s.ports) ≡ false → next ≡ s
      → AddRow s port next 9

-- a port is removed
pub data RemoveRow (s : Station) (port : PortId) (next : Station) : ℕ → Type 0 where
  done
      : in_range s ≡ true → assignable_port port ≡ true → is_held (port_place s.ports port) ≡ true → next ≡ with_ports_lem s (remove_port_lem s.ports port)
      → RemoveRow s port next 0
  state_out_of_range : in_range s ≡ false → next ≡ s → RemoveRow s port next 1
  port_out_of_range : in_range s ≡ true → assignable_port port ≡ false → next ≡ s → RemoveRow s port next 7
  port_not_held : in_range s ≡ true → assignable_port port ≡ true → is_held (port_place s.ports port) ≡ false → next ≡ s → RemoveRow s port next 8

-- a key is given
pub data KeyRow (s : Station) (octets : List ℕ) (next : Station) : ℕ → Type 0 where
  done
      : in_range s ≡ true → holds_identity_lem s.activation ≡ true → next ≡ with_link_lem s (with_key_lem s.link (installed octets)) → KeyRow s octets next 0
  state_out_of_range : in_range s ≡ false → next ≡ s → KeyRow s octets next 1
  key_refused : in_range s ≡ true → holds_identity_lem s.activation ≡ false → next ≡ s → KeyRow s octets next 10

-- where an unfragmented SDU stands in the frame: the frame call's numbers without 3, and no stretch after 1, 2, 4 and 5
pub record Placed (s : Station) (f : List ℕ) (k : ℕ) (lost : Bool) (p : StretchPlace) : Type 0 where
  pub state : in_range s ≡ true
  pub frame : length_fits_lem (length f) ≡ true
  pub hlend : Hlend
  pub reads : read_hlend_lem f ≡ fields hlend
  pub fits : header_end_lem hlend ≤ length f
  pub delineation : (is_operating_lem s.activation && (parse (header_end_lem hlend) (payload_of hlend f)).lost) ≡ lost
  pub place : p ≡ place_in s hlend f k

pub record NoPlace (s : Station) (f : List ℕ) (p : StretchPlace) : Type 0 where
  pub state : in_range s ≡ true
  pub frame : length_fits_lem (length f) ≡ true
  pub hlend : Hlend
  pub reads : read_hlend_lem f ≡ fields hlend
  pub longer : length f < header_end_lem hlend
  pub place : p ≡ empty HeaderTooLong

pub data StretchRow (s : Station) (f : List ℕ) (k : ℕ) (p : StretchPlace) : ℕ → Type 0 where
  done : Placed s f k false p → StretchRow s f k p 0
  state_out_of_range : in_range s ≡ false → p ≡ empty StateOutOfRange → StretchRow s f k p 1
  frame_length_unfit : in_range s ≡ true → length_fits_lem (length f) ≡ false → p ≡ empty FrameLengthUnfit → StretchRow s f k p 2
  hlend_unreadable
      : in_range s ≡ true → length_fits_lem (length f) ≡ true → read_hlend_lem f ≡ unreadable → p ≡ empty HlendUnreadable → StretchRow s f k p 4
  header_too_long : NoPlace s f p → StretchRow s f k p 5
  delineation_lost : Placed s f k true p → StretchRow s f k p 6

-- all stretches of a frame: what the call for one gives, entry by entry, where the list has room or the call is refused before; 3 where
-- the list is too short
pub data StretchesRow (s : Station) (f places : List ℕ) (left : PlacesLeft) : ℕ → Type 0 where
  each
      : (in_range s ≡ true → length_fits_lem (length f) ≡ true → places_fit f places ≡ true) → EachStretch s f places left
      → StretchesRow s f places left (answer_number left.found.answer)
  list-too-short
      : in_range s ≡ true → length_fits_lem (length f) ≡ true → places_fit f places ≡ false → left ≡ no_places BufferTooShort places → StretchesRow s f places left 3

-- what became of each structure of the map. "Refusals: 1, 2, 4 and 5 as for a frame, 3 for a list of under 2,047 names": after each
-- nothing is named. No state comes out
pub record Passed (s : Station) (f names : List ℕ) : Type 0 where
  pub state : in_range s ≡ true
  pub frame : length_fits_lem (length f) ≡ true
  pub list : most_structures ≤ length names

pub data NamesRow (s : Station) (f names : List ℕ) (left : NamesLeft) : ℕ → Type 0 where
  done
      : Passed s f names → (h : Hlend) → read_hlend_lem f ≡ fields h → header_end_lem h ≤ length f → left ≡ named_in s h f names → NamesRow s f names left 0
  state_out_of_range : in_range s ≡ false → left ≡ unnamed StateOutOfRange names → NamesRow s f names left 1
  frame_length_unfit : in_range s ≡ true → length_fits_lem (length f) ≡ false → left ≡ unnamed FrameLengthUnfit names → NamesRow s f names left 2
  list-too-short
      : in_range s ≡ true → length_fits_lem (length f) ≡ true → length names < most_structures → left ≡ unnamed BufferTooShort names → NamesRow s f names left 3
  hlend_unreadable : Passed s f names → read_hlend_lem f ≡ unreadable → left ≡ unnamed HlendUnreadable names → NamesRow s f names left 4
  header_too_long
      : Passed s f names → (h : Hlend) → read_hlend_lem f ≡ fields h → length f < header_end_lem h → left ≡ unnamed HeaderTooLong names → NamesRow s f names left 5

-- the writers: every value fits its field and the target has room; or nothing is changed
pub data WriteRow (fit : Bool) (octets target left : List ℕ) : ℕ → Type 0 where
  done : fit ≡ true → length octets ≤ length target → left ≡ put target octets → WriteRow fit octets target left 0
  too_wide : fit ≡ false → left ≡ target → WriteRow fit octets target left 11
  too_short : fit ≡ true → length target < length octets → left ≡ target → WriteRow fit octets target left 11

-- what a writer leaves of the octets that it is to write, where fit says whether every value fits its field
abbrev pub Writes : Bool → List ℕ → List ℕ → WriteLeft → Type 0
Writes fit octets target left = WriteRow fit octets target left.target (answer_number left.answer)

pub record Demand1 (E : Engine) : Type 0 where
  pub power-on : (serial registration : List ℕ) → PoweredOn serial registration (E.power_on_lem serial registration)
  pub frame : (s : Station) (a : Arrival) (lent : Lent) → Row s a lent (E.frame s a lent) (answer_number (E.frame s a lent).outcome.answer)
  pub lost : (s : Station) → LostRow s (E.lost s).station (answer_number (E.lost s).answer)
  pub add : (s : Station) (port : PortId) → AddRow s port (E.add_port_lem s port).station (answer_number (E.add_port_lem s port).answer)
  pub remove : (s : Station) (port : PortId) → RemoveRow s port (E.remove_port_lem s port).station (answer_number (E.remove_port_lem s port).answer)
  pub key : (s : Station) (octets : List ℕ) → KeyRow s octets (E.give_key_lem s octets).station (answer_number (E.give_key_lem s octets).answer)
  pub stretch : (s : Station) (f : List ℕ) (k : ℕ) → StretchRow s f k (E.stretch_place_lem s f k) (answer_number (E.stretch_place_lem s f k).answer)
  pub stretches : (s : Station) (f places : List ℕ) → StretchesRow s f places (E.stretch_places_lem s f places) (answer_number (E.stretch_places_lem s f places).found.answer)
  pub names : (s : Station) (f names : List ℕ) → NamesRow s f names (E.why_dark_lem s f names) (answer_number (E.why_dark_lem s f names).found.answer)
  pub hlend : (h : Hlend) (t : List ℕ) → Writes (hlend_fits h) (octets 4 (hlend_word h)) t (E.writers.hlend h t)
  pub allocation : (a : Allocation) (t : List ℕ) → Writes (allocation_fits a) (octets 8 (allocation_word a)) t (E.writers.allocation a t)
  pub xgem : (x : XgemHeader) (t : List ℕ) → Writes (xgem_fits x) (octets 8 (xgem_word x)) t (E.writers.xgem x t)
  pub xgem-frame : (x : XgemHeader) (sdu t : List ℕ)
      → Writes (xgem_fits (carrying x sdu)) (xgem_frame (carrying x sdu) sdu) t (E.writers.xgem_frame x sdu t)
