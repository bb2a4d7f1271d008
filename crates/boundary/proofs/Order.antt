-- Answers "in the order of the numbers": every call on a state answers 1 exactly where the call that asks for its range does, whatever
-- else it is lent; and where what comes back has no room, 2 comes before 3.
-- Assumes nothing.
use mathlib.Core.Path.{◌≡◌, refl, sym, ap, ◌∙◌}
use mathlib.Core.Bool.{Bool, true, false, not, cond}
use mathlib.Core.List.{List}
use Prim.Native.Nat.{ℕ}
use lib.Dec.{eqb, leb}
use lib.ListN.{length, take}
use Rattle.ids.specs.declared.PortId.{PortId}
use Rattle.ids.specs.Ids.{assignable_port, management_port_lem}
use Rattle.ids.specs.Places.{is_held}
use Rattle.link.specs.Limits.{key_octets}
use Rattle.ports.specs.Ports.{port_place, vacancy}
use Rattle.xgem.specs.Reads.{Found, fields, unreadable, short}
use Rattle.xgtc.specs.declared.hlend.Hlend.{Hlend}
use Rattle.xgtc.specs.Reads.{read_hlend_lem}
use Rattle.station.specs.declared.Station.{Station}
use Rattle.answers.specs.declared.Answer.{Answer}
use Rattle.answers.specs.declared.Answer.TheVariants.{Done, StateOutOfRange, FrameLengthUnfit, BufferTooShort, HeaderTooLong, PortOutOfRange, PortHeldOrNotHeld, SlotsTaken, KeyRefused}
use Rattle.station.specs.declared.Outcome.{Outcome}
use Rattle.answers.specs.Answers.{answer_number}
use Rattle.station.specs.States.{holds_identity_lem, is_operating_lem}
use Rattle.validity.specs.Ranges.{in_range}
use Rattle.host.specs.Host.{answer_to_add_lem, answer_to_remove_lem, answer_to_key_lem, after_add, after_remove, after_key}
use Rattle.stretches.specs.Stretch.{stretch_of}
use Rattle.downstream.specs.declared.Opening.TheVariants.{Refused, Unread, Opened}
use Rattle.downstream.specs.Lengths.{length_fits_lem}
use Rattle.downstream.specs.Partitions.{header_end_lem}
use Rattle.downstream.specs.Opening.{by_hlend_lem, opening}
use Rattle.frame.specs.Given.{Arrival, Lent}
use Rattle.frame.specs.Frame.{FrameLeft, frame_left}
use Rattle.engine.specs.Lods.{lost_left}
use Rattle.engine.specs.Stretch.{empty, answer_if_lem, told, place_in, place_by as placed_by, stretch_place_lem}
use Rattle.engine.specs.Answers.{Row}
use Rattle.engine.proofs.Table.{table}
use Rattle.layout.specs.Layout.{decoded}
use Rattle.boundary.specs.Calls.{by, asked, in_range_on, lost_on, add_on, remove_on, key_left, key_on}
use Rattle.boundary.specs.Frames.{count_numbers, place_numbers, answer_by_lem, opened_by, frame_by, frame_on, place_by, place_on}

-- 1: "state out of range"
abbrev pub is_one : ℕ → Bool
is_one answer = eqb answer (answer_number StateOutOfRange)

-- ---- 1, 2 and 3 where what comes back has no room

pub in_order
    : (s : Station) (f : List ℕ)
    → answer_by_lem (opening s f false) ≡ cond (not (in_range s)) StateOutOfRange (cond (not (length_fits_lem (length f))) FrameLengthUnfit BufferTooShort)
unfolding opening
in_order s f = go (in_range s) (length_fits_lem (length f))
  where
    go
        : (v fit : Bool)
        → answer_by_lem (cond (not v) (Refused StateOutOfRange) (cond (not fit) (Refused FrameLengthUnfit) (Refused BufferTooShort)))
        ≡ cond (not v) StateOutOfRange (cond (not fit) FrameLengthUnfit BufferTooShort)
    go false fit = refl
    go true false = refl
    go true true = refl

-- ---- 1 on a state that is held

asked-one : (room : Bool) (s : Station) → is_one (answer_number (asked room s).answer) ≡ not (in_range s)
asked-one room s = go (in_range s) room
  where
    go : (v r : Bool) → is_one (answer_number (cond (not v) StateOutOfRange (cond (not r) BufferTooShort Done))) ≡ not v
    go false r = refl
    go true false = refl
    go true true = refl

lost_answer : (s : Station) → (lost_left s).answer ≡ (asked true s).answer
unfolding lost_left
lost_answer s = go (in_range s) refl
  where
    go : (v : Bool) → in_range s ≡ v → (lost_left s).answer ≡ (asked true s).answer
    go false e = rw e
    go true e = rw e

add-one : (s : Station) (port : PortId) → is_one (answer_number (after_add s port).answer) ≡ not (in_range s)
unfolding after_add answer_to_add_lem
add-one s port = go (in_range s) (assignable_port port) (is_held (port_place s.ports port)) (is_held (vacancy s.ports))
  where
    go : (v a h w : Bool) → is_one (answer_number (cond (not v) StateOutOfRange (cond (not a) PortOutOfRange (cond h PortHeldOrNotHeld (cond w Done SlotsTaken))))) ≡ not v
    go false a h w = refl
    go true false h w = refl
    go true true true w = refl
    go true true false true = refl
    go true true false false = refl

remove_one : (s : Station) (port : PortId) → is_one (answer_number (after_remove s port).answer) ≡ not (in_range s)
unfolding after_remove answer_to_remove_lem
remove_one s port = go (in_range s) (assignable_port port) (is_held (port_place s.ports port))
  where
    go : (v a h : Bool) → is_one (answer_number (cond (not v) StateOutOfRange (cond (not a) PortOutOfRange (cond h Done PortHeldOrNotHeld)))) ≡ not v
    go false a h = refl
    go true false h = refl
    go true true true = refl
    go true true false = refl

given-one : (s : Station) (octets : List ℕ) → is_one (answer_number (after_key s octets).answer) ≡ not (in_range s)
unfolding after_key answer_to_key_lem
given-one s octets = go (in_range s) (holds_identity_lem s.activation)
  where
    go : (v h : Bool) → is_one (answer_number (cond (not v) StateOutOfRange (cond h Done KeyRefused))) ≡ not v
    go false h = refl
    go true true = refl
    go true false = refl

key_one : (s : Station) (key : List ℕ) → is_one (answer_number (key_left s key).answer) ≡ not (in_range s)
unfolding key_left
key_one s key = go (leb key_octets (length key))
  where
    go : (fit : Bool) → is_one (answer_number (cond fit (after_key s (take key_octets key)) (asked false s)).answer) ≡ not (in_range s)
    go true = given-one s (take key_octets key)
    go false = asked-one false s

row_one : (s : Station) (a : Arrival) (lent : Lent) (n : ℕ) (left : FrameLeft) → Row s a lent left n → is_one n ≡ not (in_range s)
row_one s a lent n left (Row.done r) = rw r.passed.state
row_one s a lent n left (Row.state_out_of_range p e) = rw p
row_one s a lent n left (Row.frame_length_unfit p q e) = rw p
row_one s a lent n left (Row.buffer-too-short p q r e) = rw p
row_one s a lent n left (Row.hlend_unreadable p q e) = rw p.state
row_one s a lent n left (Row.header_too_long t e) = rw t.passed.state
row_one s a lent n left (Row.delineation_lost r) = rw r.passed.state

frame-one : (s : Station) (a : Arrival) (lent : Lent) → is_one (answer_number (frame_left s a lent).outcome.answer) ≡ not (in_range s)
frame-one s a lent = row_one s a lent (answer_number (frame_left s a lent).outcome.answer) (frame_left s a lent) (table s a lent)

done_or_lost : (lost : Bool) → is_one (answer_number (answer_if_lem lost)) ≡ false
done_or_lost true = refl
done_or_lost false = refl

place_in_one : (s : Station) (h : Hlend) (f : List ℕ) (k : ℕ) → is_one (answer_number (place_in s h f k).answer) ≡ false
unfolding place_in
place_in_one s h f k = go (is_operating_lem s.activation)
  where
    go : (b : Bool) → is_one (answer_number (cond b (told (stretch_of (management_port_lem s.link.onu) s.ports (header_end_lem h) f k)) (empty Done)).answer) ≡ false
    go true = done_or_lost (stretch_of (management_port_lem s.link.onu) s.ports (header_end_lem h) f k).lost
    go false = refl

place-one : (s : Station) (f : List ℕ) (k : ℕ) → is_one (answer_number (stretch_place_lem s f k).answer) ≡ not (in_range s)
unfolding stretch_place_lem opening
place-one s f k = go (in_range s) (length_fits_lem (length f)) (read_hlend_lem f)
  where
    open-one : (h : Hlend) (b : Bool) → is_one (answer_number (placed_by (cond b (Opened h) (Unread HeaderTooLong)) s f k).answer) ≡ false
    open-one h true = place_in_one s h f k
    open-one h false = refl

    go
        : (v fit : Bool) (r : Found Hlend)
        → is_one (answer_number (placed_by (cond (not v) (Refused StateOutOfRange) (cond (not fit) (Refused FrameLengthUnfit) (by_hlend_lem r (length f)))) s f k).answer) ≡ not v
    go false fit r = refl
    go true false r = refl
    go true true unreadable = refl
    go true true short = refl
    go true true (fields h) = open-one h (leb (header_end_lem h) (length f))

room-one : (s : Station) (f : List ℕ) → is_one (answer_number (answer_by_lem (opening s f false))) ≡ not (in_range s)
room-one s f = ap (λ (a : Answer). is_one (answer_number a)) (in_order s f) ∙ go (in_range s) (length_fits_lem (length f))
  where
    go : (v fit : Bool) → is_one (answer_number (cond (not v) StateOutOfRange (cond (not fit) FrameLengthUnfit BufferTooShort))) ≡ not v
    go false fit = refl
    go true false = refl
    go true true = refl

-- ---- and on the octets that stand there

module _ (b : List ℕ) where
  same-one : (call : Station → Outcome) → ((s : Station) → is_one (answer_number (call s).answer) ≡ not (in_range s)) → is_one (by (decoded b) call b).answer ≡ is_one (in_range_on b)
  unfolding in_range_on
  same-one call one = go (decoded b)
    where
      go : (f : Found Station) → is_one (by f call b).answer ≡ is_one (by f (asked true) b).answer
      go (fields s) = one s ∙ sym (asked-one true s)
      go unreadable = refl
      go short = refl

  -- the lost call's answers are this call's
  pub lost_as_range : (lost_on b).answer ≡ in_range_on b
  unfolding lost_on in_range_on
  lost_as_range = go (decoded b)
    where
      go : (f : Found Station) → (by f lost_left b).answer ≡ (by f (asked true) b).answer
      go (fields s) = ap answer_number (lost_answer s)
      go unreadable = refl
      go short = refl

  pub one_on_lost : is_one (lost_on b).answer ≡ is_one (in_range_on b)
  one_on_lost = ap is_one lost_as_range

  pub one_on_add : (port : ℕ) → is_one (add_on b port).answer ≡ is_one (in_range_on b)
  unfolding add_on
  one_on_add port = same-one (λ (s : Station). after_add s (record { 0 = port })) (λ s. add-one s (record { 0 = port }))

  pub one_on_remove : (port : ℕ) → is_one (remove_on b port).answer ≡ is_one (in_range_on b)
  unfolding remove_on
  one_on_remove port = same-one (λ (s : Station). after_remove s (record { 0 = port })) (λ s. remove_one s (record { 0 = port }))

  pub one_on_key : (key : List ℕ) → is_one (key_on b key).answer ≡ is_one (in_range_on b)
  unfolding key_on
  one_on_key key = same-one (λ (s : Station). key_left s key) (λ s. key_one s key)

  room_on : (f : List ℕ) → is_one (opened_by (decoded b) f false) ≡ is_one (in_range_on b)
  unfolding in_range_on
  room_on f = go (decoded b)
    where
      go : (g : Found Station) → is_one (opened_by g f false) ≡ is_one (by g (asked true) b).answer
      go (fields s) = room-one s f ∙ sym (asked-one true s)
      go unreadable = refl
      go short = refl

  pub one_on_frame : (a : Arrival) (counts : List ℕ) (lent : Lent) → is_one (frame_on b a counts lent).answer ≡ is_one (in_range_on b)
  unfolding frame_on in_range_on
  one_on_frame a counts lent = go (leb count_numbers (length counts))
    where
      held : (g : Found Station) → is_one (frame_by g b a counts lent).answer ≡ is_one (by g (asked true) b).answer
      held (fields s) = frame-one s a lent ∙ sym (asked-one true s)
      held unreadable = refl
      held short = refl

      whole : is_one (frame_by (decoded b) b a counts lent).answer ≡ is_one (in_range_on b)
      whole = held (decoded b)

      go : (fit : Bool) → is_one (cond fit (frame_by (decoded b) b a counts lent) (record { answer = opened_by (decoded b) a.octets false; state = b; counts = counts; lent = lent })).answer ≡ is_one (in_range_on b)
      go true = whole
      go false = room_on a.octets

  pub one_on_stretch : (f : List ℕ) (k : ℕ) (place : List ℕ) → is_one (place_on b f k place).answer ≡ is_one (in_range_on b)
  unfolding place_on in_range_on
  one_on_stretch f k place = go (leb place_numbers (length place))
    where
      held : (g : Found Station) → is_one (place_by g f k place).answer ≡ is_one (by g (asked true) b).answer
      held (fields s) = place-one s f k ∙ sym (asked-one true s)
      held unreadable = refl
      held short = refl

      whole : is_one (place_by (decoded b) f k place).answer ≡ is_one (in_range_on b)
      whole = held (decoded b)

      go : (fit : Bool) → is_one (cond fit (place_by (decoded b) f k place) (record { answer = opened_by (decoded b) f false; place = place })).answer ≡ is_one (in_range_on b)
      go true = whole
      go false = room_on f
