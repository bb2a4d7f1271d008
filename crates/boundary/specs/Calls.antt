-- The calls that take and leave a state, over the octets of a lent buffer: each is the engine's call on the state that stands there.
-- Assumes nothing.
use Rattle.std.specs.Prelude.{ℕ, ◌≡◌, Bool, true, false, ◌&&◌, not, cond, List, leb, length, take}
use Rattle.xgem.specs.declared.ReadError.{ReadError}
use Rattle.xgem.specs.declared.ReadError.TheVariants.{Unreadable, Short}
use Rattle.xgem.specs.Reads.{Found, fields, unreadable, short}
use Rattle.station.specs.declared.Station.{Station}
use Rattle.answers.specs.declared.Answer.{Answer}
use Rattle.answers.specs.declared.Answer.TheVariants.{Done, StateOutOfRange, BufferTooShort}
use Rattle.answers.specs.Answers.{answer_number}
use Rattle.station.specs.Limits.{serial_octets_lem, registration_octets_lem}
use Rattle.station.specs.Station.{power_on_lem}
use Rattle.link.specs.Limits.{key_octets}
use Rattle.station.specs.declared.Outcome.{Outcome}
use Rattle.validity.specs.Ranges.{in_range}
use Rattle.host.specs.Host.{after_add, after_remove, after_key}
use Rattle.engine.specs.Lods.{lost_left}
use Rattle.layout.specs.Layout.{state_bytes, decoded, stored}

-- the answer's number, and what the state's buffer then holds
pub record StateLeft : Type 0 where
  pub answer : ℕ
  pub state : List ℕ

-- the whole contract: of the answer's number and of the state's buffer at exit
abbrev pub StateIs : ℕ → List ℕ → StateLeft → Type 0
StateIs answer state left = record { answer = answer; state = state } ≡ left

-- "nothing changed"
abbrev pub refused : ℕ → List ℕ → StateLeft
refused answer b = record { answer = answer; state = b }

-- octets that are no state's are answered like a state out of range; a buffer that holds no state is too short
abbrev pub by : Found Station → (Station → Outcome) → List ℕ → StateLeft
by (fields s) call b = record { answer = answer_number (call s).answer; state = stored (call s).station b }
by unreadable call b = refused (answer_number StateOutOfRange) b
by short call b = refused (answer_number BufferTooShort) b

-- the answer where no state was read
abbrev pub unread_answer : ReadError → Answer
unread_answer Unreadable = StateOutOfRange
unread_answer Short = BufferTooShort

-- 1, "state out of range", comes before 3, "a buffer too short", for a call whose own buffer has room or not
abbrev pub asked : Bool → Station → Outcome
asked room s = record { answer = cond (not (in_range s)) StateOutOfRange (cond (not room) BufferTooShort Done); station = s }

-- whether octets are those of a state in range: this call leaves nothing but its answer
unfoldable pub in_range_on : List ℕ → ℕ
in_range_on b = (by (decoded b) (asked true) b).answer

unfoldable pub lost_on : List ℕ → StateLeft
lost_on b = by (decoded b) lost_left b

unfoldable pub add_on : List ℕ → ℕ → StateLeft
add_on b port = by (decoded b) (λ (s : Station). after_add s (record { 0 = port })) b

unfoldable pub remove_on : List ℕ → ℕ → StateLeft
remove_on b port = by (decoded b) (λ (s : Station). after_remove s (record { 0 = port })) b

-- a key has sixteen octets; one that is too short is a buffer too short
unfoldable pub key_left : Station → List ℕ → Outcome
key_left s key = cond (leb key_octets (length key)) (after_key s (take key_octets key)) (asked false s)

unfoldable pub key_on : List ℕ → List ℕ → StateLeft
key_on b key = by (decoded b) (λ (s : Station). key_left s key) b

-- power-on has no refusal but that of a buffer too short: eight octets of serial number, thirty-six of Registration ID
unfoldable pub power_on_in : List ℕ → List ℕ → List ℕ → StateLeft
power_on_in b serial registration =
    cond (leb state_bytes (length b) && (leb serial_octets_lem (length serial) && leb registration_octets_lem (length registration)))
    (record { answer = answer_number Done; state = stored (power_on_lem (take serial_octets_lem serial) (take registration_octets_lem registration)) b })
    (refused (answer_number BufferTooShort) b)
