-- The calls that fill a lent list and count its entries, over the octets of a lent state: all stretches of a frame, and the names of a
-- map's structures.
-- Assumes nothing.
use Rattle.std.specs.Prelude.{ℕ, ◌≡◌, false, cond, List, [], ◌∷◌, leb, length}
use Rattle.xgem.specs.Reads.{Found, fields, unreadable, short}
use Rattle.xgem.specs.Writes.{put}
use Rattle.station.specs.declared.Station.{Station}
use Rattle.answers.specs.declared.Answer.{Answer}
use Rattle.answers.specs.declared.Answer.TheVariants.{StateOutOfRange, BufferTooShort}
use Rattle.answers.specs.Answers.{answer_number}
use Rattle.engine.specs.Stretch.{PlacesLeft, stretch_places_lem}
use Rattle.engine.specs.Naming.{NamesLeft, why_dark_lem}
use Rattle.layout.specs.Layout.{decoded}
use Rattle.boundary.specs.Frames.{opened_by}

-- numbers in the buffer of the count
abbrev pub list_counts : ℕ
list_counts = 1

-- what the engine's call comes back with: its answer, how many entries it has written, and what the list then holds
pub record Listing : Type 0 where
  pub answer : Answer
  pub count : ℕ
  pub list : List ℕ

-- the answer's number, and what the list and the buffer of the count then hold
pub record ListLeft : Type 0 where
  pub answer : ℕ
  pub list : List ℕ
  pub counts : List ℕ

abbrev pub listed : Listing → List ℕ → ListLeft
listed l counts = record { answer = answer_number l.answer; list = l.list; counts = put counts (l.count ∷ []) }

-- the list is unchanged, and the count 0
abbrev pub unlisted : ℕ → List ℕ → List ℕ → ListLeft
unlisted answer list counts = record { answer = answer; list = list; counts = put counts (0 ∷ []) }

abbrev pub list_by : Found Station → (Station → Listing) → List ℕ → List ℕ → ListLeft
list_by (fields s) call list counts = listed (call s) counts
list_by unreadable call list counts = unlisted (answer_number StateOutOfRange) list counts
list_by short call list counts = unlisted (answer_number BufferTooShort) list counts

-- without room for the count nothing is changed
unfoldable pub list_on : List ℕ → List ℕ → (Station → Listing) → List ℕ → List ℕ → ListLeft
list_on b f call list counts =
    cond (leb list_counts (length counts)) (list_by (decoded b) call list counts)
    (record { answer = opened_by (decoded b) f false; list = list; counts = counts })

abbrev pub stretches : PlacesLeft → Listing
stretches l = record { answer = l.found.answer; count = l.found.count; list = l.places }

abbrev pub stretches_on : List ℕ → List ℕ → List ℕ → List ℕ → ListLeft
stretches_on b f places counts = list_on b f (λ s. stretches (stretch_places_lem s f places)) places counts

abbrev pub named : NamesLeft → Listing
named l = record { answer = l.found.answer; count = l.found.count; list = l.names }

abbrev pub why_dark_on : List ℕ → List ℕ → List ℕ → List ℕ → ListLeft
why_dark_on b f names counts = list_on b f (λ s. named (why_dark_lem s f names)) names counts

-- the whole contract: of the answer's number, the list and the buffer of the count at exit
abbrev pub ListIs : ℕ → List ℕ → List ℕ → ListLeft → Type 0
ListIs answer list counts left = record { answer = answer; list = list; counts = counts } ≡ left
