-- The table of answers is exact: the frame call's number has its row, and a row that holds has the frame call's number.
-- Assumes nothing.
use Prim.Native.Nat.{ℕ, ◌≤◌}
use mathlib.Core.Path.{◌≡◌, ◌∙◌, refl, sym, ap, subst}
use mathlib.Core.Bool.{Bool, true, false, not, cond, ◌&&◌, false≢true}
use mathlib.Core.List.{List}
use lib.Dec.{leb}
use lib.ListN.{length, take}
use borrow.Author.Tests.{leb-true, leb-false, le-leb, lt-leb}
use Rattle.ids.specs.Ids.{management_port_lem}
use Rattle.xgtc.specs.declared.hlend.Hlend.{Hlend}
use Rattle.hec.specs.Reads.{Reading, word, unreadable as unreadable-word, reading}
use Rattle.octets.specs.Octets.{value}
use Rattle.xgtc.specs.Layouts.{hlend_of}
use Rattle.xgem.specs.Reads.{Found, fields, unreadable, short, taken}
use Rattle.xgtc.specs.Reads.{read_hlend_lem}
use Rattle.station.specs.declared.Station.{Station}
use Rattle.answers.specs.declared.Answer.{Answer}
use Rattle.answers.specs.declared.Answer.TheVariants.{Done, StateOutOfRange, FrameLengthUnfit, BufferTooShort, HeaderTooLong, DelineationLost}
use Rattle.answers.specs.Answers.{answer_number}
use Rattle.station.specs.States.{is_operating_lem}
use Rattle.validity.specs.Ranges.{in_range}
use Rattle.validity.proofs.Tests.{both}
use Rattle.payload.specs.declared.walk.Delineation.TheVariants.{Kept}
use Rattle.payload.specs.Frames.{parse}
use Rattle.payload.specs.Walk.{walk_of, left_by, delineation_of}
use Rattle.downstream.specs.declared.Opening.TheVariants.{Refused, Unread, Opened}
use Rattle.downstream.specs.Lengths.{length_fits_lem}
use Rattle.downstream.specs.Partitions.{header_end_lem, payload_of}
use Rattle.downstream.specs.Opening.{by_hlend_lem, opening}
use Rattle.frame.specs.Given.{Arrival, Lent, buffers_fit}
use Rattle.frame.specs.Frame.{FrameLeft, unread, answer_to_lem, payload_in, done, handled, by_opening, frame_left}
use Rattle.engine.specs.Answers.{Passed, lost_in, Handled, Row, done as done-row, state_out_of_range, frame_length_unfit, buffer-too-short, hlend_unreadable, header_too_long, delineation_lost}

-- ---- the answer of a frame that is done

abbrev number : FrameLeft → ℕ
number left = answer_number left.outcome.answer

answer_lost : (lost : Bool) → answer_to_lem (delineation_of lost) ≡ cond lost DelineationLost Done
answer_lost true = refl
answer_lost false = refl

pub done_answer : (s : Station) (h : Hlend) (a : Arrival) (lent : Lent) → (handled s h a lent).outcome.answer ≡ cond (lost_in s h a) DelineationLost Done
unfolding handled done payload_in walk_of left_by lost_in
done_answer s h a lent = go (is_operating_lem s.activation)
  where
    go
        : (b : Bool)
        → answer_to_lem (cond b (walk_of (management_port_lem s.link.onu) (record { ports = s.ports; bytes = 0; memory = lent.memory; deliveries = lent.deliveries }) (header_end_lem h) (payload_of h a.octets)) (record { receiver = record { ports = s.ports; bytes = 0; memory = lent.memory; deliveries = lent.deliveries }; delineation = Kept })).delineation
        ≡ cond (b && (parse (header_end_lem h) (payload_of h a.octets)).lost) DelineationLost Done
    go true = answer_lost (parse (header_end_lem h) (payload_of h a.octets)).lost
    go false = refl

-- a frame that passed answer 2 is not too short for HLend
pub not_short : (f : List ℕ) → length_fits_lem (length f) ≡ true → read_hlend_lem f ≡ short → ⊥
unfolding length_fits_lem
not_short f h e = nowhere (reading 32 (value (take 4 f))) (rw (both (leb 4 (length f)) _ h).0 at e)
  where
    is_short : Found Hlend → Bool
    is_short (fields h) = false
    is_short unreadable = false
    is_short short = true

    nowhere : (r : Reading) → taken hlend_of r ≡ short → ⊥
    nowhere (word v) t = false≢true (ap is_short t)
    nowhere unreadable-word t = false≢true (ap is_short t)

-- ---- the number has its row

module _ (s : Station) (arrived : Arrival) (lent : Lent) where
  -- the row of what is left, by its own answer
  abbrev Rowed : FrameLeft → Type 0
  Rowed left = Row s arrived lent left (answer_number left.outcome.answer)

  handled-row : Passed s arrived lent → (h : Hlend) → read_hlend_lem arrived.octets ≡ fields h → header_end_lem h ≤ length arrived.octets → Rowed (handled s h arrived lent)
  handled-row p h e fits = subst (λ (a : Answer). Row s arrived lent (handled s h arrived lent) (answer_number a)) (sym (done_answer s h arrived lent)) (go (lost_in s h arrived) refl)
    where
      whole : (b : Bool) → lost_in s h arrived ≡ b → Handled s arrived lent b (handled s h arrived lent)
      whole b q = record { passed = p; hlend = h; reads = e; fits = fits; delineation = q; leaves = refl }

      go : (b : Bool) → lost_in s h arrived ≡ b → Row s arrived lent (handled s h arrived lent) (answer_number (cond b DelineationLost Done))
      go true q = delineation_lost (whole true q)
      go false q = done-row (whole false q)

  hlend_row : Passed s arrived lent → (r : Found Hlend) → read_hlend_lem arrived.octets ≡ r → Rowed (by_opening (by_hlend_lem r (length arrived.octets)) s arrived lent)
  hlend_row p unreadable e = hlend_unreadable p e refl
  hlend_row p short e = absurd (not_short arrived.octets p.frame e)
  hlend_row p (fields h) e = go (leb (header_end_lem h) (length arrived.octets)) refl
    where
      go : (b : Bool) → leb (header_end_lem h) (length arrived.octets) ≡ b → Rowed (by_opening (cond b (Opened h) (Unread HeaderTooLong)) s arrived lent)
      go true q = handled-row p h e (leb-true (header_end_lem h) (length arrived.octets) q)
      go false q = header_too_long (record { passed = p; hlend = h; reads = e; longer = leb-false (header_end_lem h) (length arrived.octets) q }) refl

  pub table : Row s arrived lent (frame_left s arrived lent) (answer_number (frame_left s arrived lent).outcome.answer)
  unfolding frame_left opening
  table = go (in_range s) refl (length_fits_lem (length arrived.octets)) refl (buffers_fit arrived lent) refl
    where
      go
          : (a : Bool) → in_range s ≡ a → (b : Bool) → length_fits_lem (length arrived.octets) ≡ b → (c : Bool) → buffers_fit arrived lent ≡ c
          → Rowed (by_opening (cond (not a) (Refused StateOutOfRange) (cond (not b) (Refused FrameLengthUnfit) (cond (not c) (Refused BufferTooShort) (by_hlend_lem (read_hlend_lem arrived.octets) (length arrived.octets))))) s arrived lent)
      go false p b q c r = state_out_of_range p refl
      go true p false q c r = frame_length_unfit p q refl
      go true p true q false r = buffer-too-short p q r refl
      go true p true q true r = hlend_row (record { state = p; frame = q; buffers = r }) (read_hlend_lem arrived.octets) refl

  -- ---- a row that holds is the frame call's

  passed_on : Passed s arrived lent → by_opening (by_hlend_lem (read_hlend_lem arrived.octets) (length arrived.octets)) s arrived lent ≡ frame_left s arrived lent
  unfolding frame_left opening
  passed_on p = rw (p.state, p.frame, p.buffers)

  by_fields : (h : Hlend) → read_hlend_lem arrived.octets ≡ fields h → by_opening (by_hlend_lem (fields h) (length arrived.octets)) s arrived lent ≡ by_opening (by_hlend_lem (read_hlend_lem arrived.octets) (length arrived.octets)) s arrived lent
  by_fields h e = ap (λ (r : Found Hlend). by_opening (by_hlend_lem r (length arrived.octets)) s arrived lent) (sym e)

  handled_only : (lost : Bool) (left : FrameLeft) → Handled s arrived lent lost left
      → (left ≡ frame_left s arrived lent) × (left.outcome.answer ≡ cond lost DelineationLost Done)
  handled_only lost left r =
      let fits : handled s r.hlend arrived lent ≡ by_opening (by_hlend_lem (fields r.hlend) (length arrived.octets)) s arrived lent = rw (le-leb (header_end_lem r.hlend) (length arrived.octets) r.fits) in (
        r.leaves ∙ fits ∙ by_fields r.hlend r.reads ∙ passed_on r.passed,
        ap (λ (x : FrameLeft). x.outcome.answer) r.leaves ∙ done_answer s r.hlend arrived lent ∙ ap (λ (b : Bool). cond b DelineationLost Done) r.delineation,
      )

  numbered : (left : FrameLeft) (answer : Answer) → left.outcome.answer ≡ answer → answer_number left.outcome.answer ≡ answer_number answer
  numbered left answer e = ap answer_number e

  pub only
      : (n : ℕ) (left : FrameLeft) → Row s arrived lent left n → (left ≡ frame_left s arrived lent) × (answer_number left.outcome.answer ≡ n)
  unfolding frame_left opening
  only n left (done-row r) = let o = handled_only false left r in (o.0, numbered left Done o.1)
  only n left (state_out_of_range p e) = (e ∙ rw p, ap number e)
  only n left (frame_length_unfit p q e) = (e ∙ rw (p, q), ap number e)
  only n left (buffer-too-short p q r e) = (e ∙ rw (p, q, r), ap number e)
  only n left (hlend_unreadable p q e) =
      (e ∙ ap (λ (r : Found Hlend). by_opening (by_hlend_lem r (length arrived.octets)) s arrived lent) (sym q) ∙ passed_on p, ap number e)
  only n left (header_too_long t e) =
      let cut : unread HeaderTooLong s lent ≡ by_opening (by_hlend_lem (fields t.hlend) (length arrived.octets)) s arrived lent = rw (lt-leb (header_end_lem t.hlend) (length arrived.octets) t.longer) in
      (e ∙ cut ∙ by_fields t.hlend t.reads ∙ passed_on t.passed, ap number e)
  only n left (delineation_lost r) = let o = handled_only true left r in (o.0, numbered left DelineationLost o.1)
