-- A run of the calls that C and Rust link, over octets: each gets the state's octets and the port memory that the last one left. It is a
-- run of the engine.
-- Assumes nothing.
use Rattle.std.specs.Prelude.{ℕ, ◌≤◌, ◌≡◌, cond, List, [], ◌∷◌, ◌++◌, leb, length, take}
use Rattle.aes.specs.Words.{Octets}
use Rattle.link.specs.Limits.{key_octets}
use Rattle.station.specs.Limits.{serial_octets_lem, registration_octets_lem}
use Rattle.answers.specs.Answers.{answer_number}
use Rattle.frame.specs.Given.{Arrival, Lent, lending}
use Rattle.frame.specs.Frame.{FrameLeft}
use Rattle.station.specs.declared.Outcome.{Outcome}
use Rattle.layout.specs.Layout.{state_bytes, encoded, stored}
use Rattle.boundary.specs.Calls.{StateLeft, lost_on, add_on, remove_on, key_on, power_on_in}
use Rattle.boundary.specs.Frames.{count_numbers, after_frame, frame_on}
use Rattle.boundary.specs.Lists.{list_counts, listed, named, why_dark_on}
use Rattle.demands.specs.Engine.{lingbarrow}
use Rattle.demands.specs.Runs.{Call, Buffers, Progress, lend, run_of}
use Rattle.demands.specs.Runs as engine

-- a call, with what it is lent beside the state and the port memory
pub data Exported : Type 0 where
  frame : Arrival → List ℕ → Buffers → Exported
  lost : Exported
  add_port_lem : ℕ → Exported
  remove_port_lem : ℕ → Exported
  give_key_lem : List ℕ → Exported
  why_dark_lem : List ℕ → List ℕ → List ℕ → Exported

-- the octets of a frame are octets: C's type says so
abbrev pub OfOctets : Exported → Type 0
OfOctets (frame a counts b) = Octets a.octets
OfOctets lost = Unit {0}
OfOctets (add_port_lem number) = Unit {0}
OfOctets (remove_port_lem number) = Unit {0}
OfOctets (give_key_lem key) = Unit {0}
OfOctets (why_dark_lem f names counts) = Unit {0}

abbrev pub AllOfOctets : List Exported → Type 0
AllOfOctets [] = Unit {0}
AllOfOctets (c ∷ l) = OfOctets c × AllOfOctets l

-- the state's octets and the port memory, as they are handed on
pub record Held : Type 0 where
  pub state : List ℕ
  pub memory : List ℕ

abbrev pub lend_to : Held → Buffers → Lent
lend_to held b = lending held.memory b.plan b.replies b.deliveries

abbrev pub after : Held → Exported → Held
after held (frame a counts b) =
    record { state = (frame_on held.state a counts (lend_to held b)).state; memory = (frame_on held.state a counts (lend_to held b)).lent.memory }
after held lost = record { state = (lost_on held.state).state; memory = held.memory }
after held (add_port_lem number) = record { state = (add_on held.state number).state; memory = held.memory }
after held (remove_port_lem number) = record { state = (remove_on held.state number).state; memory = held.memory }
after held (give_key_lem key) = record { state = (key_on held.state key).state; memory = held.memory }
after held (why_dark_lem f names counts) = held

abbrev pub run : Held → List Exported → Held
run held [] = held
run held (c ∷ l) = run (after held c) l

-- from power-on in a buffer b
abbrev pub run_in : List ℕ → List ℕ → List ℕ → List ℕ → List Exported → Held
run_in b serial registration memory calls = run (record { state = (power_on_in b serial registration).state; memory = memory }) calls

-- ---- the engine's run

-- the engine's call that it stands for; none where its own buffer, of counts or of a key, is too short
abbrev pub calls_of : Exported → List Call
calls_of (frame a counts b) = cond (leb count_numbers (length counts)) (engine.frame a b ∷ []) []
calls_of lost = engine.lost ∷ []
calls_of (add_port_lem number) = engine.add_port_lem (record { 0 = number }) ∷ []
calls_of (remove_port_lem number) = engine.remove_port_lem (record { 0 = number }) ∷ []
calls_of (give_key_lem key) = cond (leb key_octets (length key)) (engine.give_key_lem (take key_octets key) ∷ []) []
calls_of (why_dark_lem f names counts) = cond (leb list_counts (length counts)) (engine.why_dark_lem f names ∷ []) []

abbrev pub engine_calls : List Exported → List Call
engine_calls [] = []
engine_calls (c ∷ l) = calls_of c ++ engine_calls l

abbrev pub engine_run : List ℕ → List ℕ → List ℕ → List Exported → Progress
engine_run serial registration memory calls =
    run_of lingbarrow (take serial_octets_lem serial) (take registration_octets_lem registration) memory (engine_calls calls)

-- what a call that takes and leaves a state comes back with
abbrev pub leaving : Outcome → List ℕ → StateLeft
leaving o state = record { answer = answer_number o.answer; state = stored o.station state }

-- after any list of calls: the octets are those of the run's station, and the port memory is the run's; and each call that comes next
-- answers by the number of the engine's, leaves its octets, and leaves in every buffer what the engine leaves
pub record Linked (b serial registration memory : List ℕ) (calls : List Exported) : Type 0 where
  pub octets
      : (run_in b serial registration memory calls).state ≡ stored (engine_run serial registration memory calls).station b
  pub memory_is : (run_in b serial registration memory calls).memory ≡ (engine_run serial registration memory calls).memory
  pub frames
      : (a : Arrival) (counts : List ℕ) (buffers : Buffers) → count_numbers ≤ length counts
      → let held = run_in b serial registration memory calls in
      let st = engine_run serial registration memory calls in
      frame_on held.state a counts (lend_to held buffers) ≡ after_frame (lingbarrow.frame st.station a (lend st buffers)) held.state counts
  pub lost
      : let held = run_in b serial registration memory calls in
      let st = engine_run serial registration memory calls in lost_on held.state ≡ leaving (lingbarrow.lost st.station) held.state
  pub adds
      : (number : ℕ)
      → let held = run_in b serial registration memory calls in
      let st = engine_run serial registration memory calls in
      add_on held.state number ≡ leaving (lingbarrow.add_port_lem st.station (record { 0 = number })) held.state
  pub removes
      : (number : ℕ)
      → let held = run_in b serial registration memory calls in
      let st = engine_run serial registration memory calls in
      remove_on held.state number ≡ leaving (lingbarrow.remove_port_lem st.station (record { 0 = number })) held.state
  pub keys
      : (key : List ℕ) → key_octets ≤ length key
      → let held = run_in b serial registration memory calls in
      let st = engine_run serial registration memory calls in
      key_on held.state key ≡ leaving (lingbarrow.give_key_lem st.station (take key_octets key)) held.state
  pub names
      : (f names counts : List ℕ) → list_counts ≤ length counts
      → let held = run_in b serial registration memory calls in
      let st = engine_run serial registration memory calls in
      why_dark_on held.state f names counts ≡ listed (named (lingbarrow.why_dark_lem st.station f names)) counts

-- of every buffer that holds a state, every serial number and Registration ID that is long enough, every port memory and every list of calls
abbrev pub AlwaysLinked : Type 0
AlwaysLinked =
    (b serial registration memory : List ℕ) (calls : List Exported) → state_bytes ≤ length b → serial_octets_lem ≤ length serial → registration_octets_lem ≤ length registration
    → AllOfOctets calls → Linked b serial registration memory calls
