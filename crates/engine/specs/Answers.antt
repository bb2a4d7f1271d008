-- The paper's table "What comes back", for the frame call: when each number is given, and what is left.
-- Assumes nothing.
use Rattle.std.specs.Prelude.{ℕ, ◌≤◌, ◌<◌, ◌≡◌, Bool, true, false, ◌&&◌, length}
use Rattle.xgtc.specs.declared.hlend.Hlend.{Hlend}
use Rattle.xgem.specs.Reads.{fields, unreadable}
use Rattle.xgtc.specs.Reads.{read_hlend_lem}
use Rattle.station.specs.declared.Station.{Station}
use Rattle.answers.specs.declared.Answer.TheVariants.{StateOutOfRange, FrameLengthUnfit, BufferTooShort, HlendUnreadable, HeaderTooLong}
use Rattle.station.specs.States.{is_operating_lem}
use Rattle.validity.specs.Ranges.{in_range}
use Rattle.payload.specs.Frames.{parse}
use Rattle.downstream.specs.Lengths.{length_fits_lem}
use Rattle.downstream.specs.Partitions.{header_end_lem, payload_of}
use Rattle.frame.specs.Given.{Arrival, Lent, buffers_fit}
use Rattle.frame.specs.Frame.{FrameLeft, refused, unread, handled}

-- state, length and buffers are fit
pub record Passed (s : Station) (a : Arrival) (lent : Lent) : Type 0 where
  pub state : in_range s ≡ true
  pub frame : length_fits_lem (length a.octets) ≡ true
  pub buffers : buffers_fit a lent ≡ true

-- "An unreadable header, or a payload longer than what is left", where the payload is walked
unfoldable pub lost_in : Station → Hlend → Arrival → Bool
lost_in s h a = is_operating_lem s.activation && (parse (header_end_lem h) (payload_of h a.octets)).lost

-- 5: "header longer than frame"
pub record TooLong (s : Station) (a : Arrival) (lent : Lent) : Type 0 where
  pub passed : Passed s a lent
  pub hlend : Hlend
  pub reads : read_hlend_lem a.octets ≡ fields hlend
  pub longer : length a.octets < header_end_lem hlend

-- 0: "done", and 6: "delineation lost, the frame otherwise done"
pub record Handled (s : Station) (a : Arrival) (lent : Lent) (lost : Bool) (left : FrameLeft) : Type 0 where
  pub passed : Passed s a lent
  pub hlend : Hlend
  pub reads : read_hlend_lem a.octets ≡ fields hlend
  pub fits : header_end_lem hlend ≤ length a.octets
  pub delineation : lost_in s hlend a ≡ lost
  pub leaves : left ≡ handled s hlend a lent

-- the row of each answer by its number: when it is given, and what the call returns and leaves. The frame call has no other number
pub data Row (s : Station) (a : Arrival) (lent : Lent) (left : FrameLeft) : ℕ → Type 0 where
  done : Handled s a lent false left → Row s a lent left 0
  state_out_of_range : in_range s ≡ false → left ≡ refused StateOutOfRange s lent → Row s a lent left 1
  frame_length_unfit : in_range s ≡ true → length_fits_lem (length a.octets) ≡ false → left ≡ refused FrameLengthUnfit s lent → Row s a lent left 2
  buffer-too-short
      : in_range s ≡ true → length_fits_lem (length a.octets) ≡ true → buffers_fit a lent ≡ false → left ≡ refused BufferTooShort s lent → Row s a lent left 3
  hlend_unreadable : Passed s a lent → read_hlend_lem a.octets ≡ unreadable → left ≡ unread HlendUnreadable s lent → Row s a lent left 4
  header_too_long : TooLong s a lent → left ≡ unread HeaderTooLong s lent → Row s a lent left 5
  delineation_lost : Handled s a lent true left → Row s a lent left 6
