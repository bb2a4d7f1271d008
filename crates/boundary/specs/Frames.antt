-- The frame call and the stretch, over the octets of a lent state.
-- Assumes nothing.
use Rattle.std.specs.Prelude.{ℕ, ◌≡◌, Bool, false, cond, List, [], ◌∷◌, leb, length}
use Rattle.xgem.specs.Reads.{Found, fields, unreadable, short}
use Rattle.xgem.specs.Writes.{put}
use Rattle.station.specs.declared.Station.{Station}
use Rattle.answers.specs.declared.Answer.{Answer}
use Rattle.answers.specs.declared.Answer.TheVariants.{Done, StateOutOfRange, BufferTooShort}
use Rattle.answers.specs.Answers.{answer_number}
use Rattle.downstream.specs.declared.Opening.{Opening}
use Rattle.downstream.specs.declared.Opening.TheVariants.{Refused, Unread, Opened}
use Rattle.downstream.specs.Opening.{opening}
use Rattle.frame.specs.declared.Counts.{Counts}
use Rattle.frame.specs.Given.{Arrival, Lent}
use Rattle.frame.specs.Frame.{FrameLeft, no_counts, frame_left}
use Rattle.engine.specs.Stretch.{stretch_place_lem}
use Rattle.layout.specs.Layout.{decoded, stored}

-- numbers in the buffer of the counts, and in that of the place
abbrev pub count_numbers : ℕ
count_numbers = 3

abbrev pub place_numbers : ℕ
place_numbers = 2

-- ---- the room for what comes back, one more buffer that can be too short

abbrev pub answer_by_lem : Opening → Answer
answer_by_lem (Refused answer) = answer
answer_by_lem (Unread answer) = answer
answer_by_lem (Opened h) = Done

-- "Tested in the order of the numbers": as a frame is opened, 1 and 2 come before 3
abbrev pub opened_by : Found Station → List ℕ → Bool → ℕ
opened_by (fields s) f room = answer_number (answer_by_lem (opening s f room))
opened_by unreadable f room = answer_number StateOutOfRange
opened_by short f room = answer_number BufferTooShort

-- ---- the frame call

-- the answer's number, and what every lent buffer then holds
pub record BuffersLeft : Type 0 where
  pub answer : ℕ
  pub state : List ℕ
  pub counts : List ℕ
  pub lent : Lent

-- records, replies and bytes of deliveries
abbrev pub counted : List ℕ → Counts → List ℕ
counted counts c = put counts (c.records ∷ (c.replies ∷ (c.bytes ∷ [])))

abbrev pub after_frame : FrameLeft → List ℕ → List ℕ → BuffersLeft
after_frame l b counts =
    record {
      answer = answer_number l.outcome.answer;
      state = stored l.outcome.station b;
      counts = counted counts l.counts;
      lent = l.lent;
    }

-- "After 1 to 5 the three counts are 0"
abbrev pub refused_frame : ℕ → List ℕ → List ℕ → Lent → BuffersLeft
refused_frame answer b counts lent = record { answer = answer; state = b; counts = counted counts no_counts; lent = lent }

abbrev pub frame_by : Found Station → List ℕ → Arrival → List ℕ → Lent → BuffersLeft
frame_by (fields s) b a counts lent = after_frame (frame_left s a lent) b counts
frame_by unreadable b a counts lent = refused_frame (answer_number StateOutOfRange) b counts lent
frame_by short b a counts lent = refused_frame (answer_number BufferTooShort) b counts lent

-- without room for the counts nothing is changed
unfoldable pub frame_on : List ℕ → Arrival → List ℕ → Lent → BuffersLeft
frame_on b a counts lent =
    cond (leb count_numbers (length counts)) (frame_by (decoded b) b a counts lent)
    (record { answer = opened_by (decoded b) a.octets false; state = b; counts = counts; lent = lent })

-- the whole contract: of the answer's number and of the buffers at exit
abbrev pub BuffersAre : ℕ → List ℕ → List ℕ → Lent → BuffersLeft → Type 0
BuffersAre answer state counts lent left = record { answer = answer; state = state; counts = counts; lent = lent } ≡ left

-- ---- the stretch

-- as its offset in the frame and its length
pub record PlaceLeft : Type 0 where
  pub answer : ℕ
  pub place : List ℕ

abbrev pub placed : ℕ → List ℕ → ℕ → ℕ → PlaceLeft
placed answer place at bytes = record { answer = answer; place = put place (at ∷ (bytes ∷ [])) }

abbrev pub place_by : Found Station → List ℕ → ℕ → List ℕ → PlaceLeft
place_by (fields s) f k place = placed (answer_number (stretch_place_lem s f k).answer) place (stretch_place_lem s f k).at (stretch_place_lem s f k).bytes
place_by unreadable f k place = placed (answer_number StateOutOfRange) place 0 0
place_by short f k place = placed (answer_number BufferTooShort) place 0 0

-- without room for the place nothing is changed
unfoldable pub place_on : List ℕ → List ℕ → ℕ → List ℕ → PlaceLeft
place_on b f k place =
    cond (leb place_numbers (length place)) (place_by (decoded b) f k place) (record { answer = opened_by (decoded b) f false; place = place })

abbrev pub PlaceIs : ℕ → List ℕ → PlaceLeft → Type 0
PlaceIs answer place left = record { answer = answer; place = place } ≡ left
