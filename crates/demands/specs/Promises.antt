-- What else the paper promises of an engine: nobody else's bytes matter, the counts are true, what is not written stays, and a
-- run never leaves the ranges.
-- Assumes nothing.
use Rattle.std.specs.Prelude.{ℕ, zero, suc, ◌+◌, ◌*◌, ◌<◌, ◌≡◌, ◌⊎◌, ◌↔◌, true, false, cond, List, [], ◌∷◌, leb, length, get_or, take, drop, replicate}
use Rattle.octets.specs.Octets.{value}
use Rattle.ids.specs.Ids.{management_port_lem}
use Rattle.xgtc.specs.declared.hlend.Hlend.{Hlend}
use Rattle.xgem.specs.Reads.{fields}
use Rattle.xgtc.specs.Reads.{read_hlend_lem}
use Rattle.ploam.specs.Layout.{message_octets}
use Rattle.station.specs.declared.Station.{Station}
use Rattle.answers.specs.Answers.{answer_number}
use Rattle.station.specs.Limits.{registration_octets_lem}
use Rattle.station.specs.States.{holds_identity_lem, silent}
use Rattle.link.specs.Link.{nothing}
use Rattle.validity.specs.Ranges.{in_range}
use Rattle.entries.specs.declared.Verdict.{Verdict}
use Rattle.entries.specs.declared.Verdict.TheVariants.{Silent}
use Rattle.entries.specs.Names.{name_number}
use Rattle.bwmap.specs.Verdicts.{entries}
use Rattle.reasons.specs.Names.{TrueName}
use Rattle.reasons.specs.Called.{called_planned, records_called}
use Rattle.downstream.specs.Partitions.{map_of}
use Rattle.plan.specs.Limits.{numbers_a_record}
use Rattle.plan.specs.Laser.{Sending}
use Rattle.frame.specs.Given.{Arrival, Lent, with_octets}
use Rattle.frame.specs.Frame.{FrameLeft, no_counts, own_of}
use Rattle.engine.specs.Alike.{AlikeFrames}
use Rattle.engine.specs.Naming.{NamesLeft}
use Rattle.engine.specs.Counts.{Received, receiving, xgem_frames}
use Rattle.engine.specs.declared.stretching.StretchPlace.{StretchPlace}
use Rattle.demands.specs.Engine.{Engine}
use Rattle.demands.specs.Runs.{Call, Buffers, lend, is_done_lem, run_of}
use Rattle.demands.specs.Demand3.{sendings}

-- "Two frames that differ only in payload bytes of ports not ours have equal answers, outputs and next states": in every state,
-- and the port memory is equal too
abbrev pub Isolated : Engine → Type 0
Isolated E = (s : Station) (a : Arrival) (g : List ℕ) (lent : Lent) → AlikeFrames s a.octets g → E.frame s a lent ≡ E.frame s (with_octets a g) lent

-- and their stretches are equal
abbrev pub StretchesIsolated : Engine → Type 0
StretchesIsolated E = (s : Station) (f g : List ℕ) (k : ℕ) → AlikeFrames s f g → E.stretch_place_lem s f k ≡ E.stretch_place_lem s g k

-- ---- the stretch

-- the SDUs that stand in deliveries, as a caller reads them: "Port-ID (2 bytes), length (2), bytes", with a count that is large enough
abbrev pub length_in : List ℕ → ℕ
length_in d = value (take 2 (drop 2 d))

abbrev pub sdus_in : ℕ → List ℕ → List (List ℕ)
sdus_in zero d = []
sdus_in (suc n) d = cond (leb 4 (length d)) (take (length_in d) (drop 4 d) ∷ sdus_in n (drop (4 + length_in d) d)) []

abbrev pub delivered : FrameLeft → List (List ℕ)
delivered left = sdus_in left.counts.bytes (take left.counts.bytes left.lent.deliveries)

-- "An unfragmented SDU can also be had as its own stretch of the lent frame": the answer is the frame call's, and where it is not
-- empty it is the delivery of that number that the frame call leaves
pub record Stretched (f : List ℕ) (k : ℕ) (p : StretchPlace) (left : FrameLeft) : Type 0 where
  pub answer : answer_number p.answer ≡ answer_number left.outcome.answer
  pub is : (p.bytes ≡ 0) ⊎ (take p.bytes (drop p.at f) ≡ get_or (delivered left) k [])

-- at every frame of every run, wherever the frame call has its buffers
abbrev pub TrueStretches : Engine → Type 0
TrueStretches E =
    (serial registration memory : List ℕ) (calls : List Call) (a : Arrival) (b : Buffers) (k : ℕ)
    → let st = run_of E serial registration memory calls in
    let left = E.frame st.station a (lend st b) in
    (answer_number left.outcome.answer ≡ 3 → ⊥) → Stretched a.octets k (E.stretch_place_lem st.station a.octets k) left

-- ---- "invented counts of records, replies or bytes (each equals what was written)"

-- the grants of all bursts, and how many of the bursts send a message
abbrev pub grants_in : List Sending → ℕ
grants_in [] = 0
grants_in (b ∷ l) = length b.grants + grants_in l

abbrev pub messages_in : List Sending → ℕ
messages_in [] = 0
messages_in (b ∷ l) = cond b.ploamu 1 0 + messages_in l

-- after 0 and 6: HLend was read, and the payload behind what it counts was received
pub record Handed (s : Station) (a : Arrival) (lent : Lent) (left : FrameLeft) : Type 0 where
  pub hlend : Hlend
  pub reads : read_hlend_lem a.octets ≡ fields hlend
  pub received
      : Received (management_port_lem s.link.onu) (receiving s lent) (xgem_frames s hlend a.octets) left.counts.bytes left.lent.deliveries left.lent.memory

-- "After 1 to 5 the three counts are 0", and deliveries and slots are as they were
pub record Untouched (lent : Lent) (left : FrameLeft) : Type 0 where
  pub counts : left.counts ≡ no_counts
  pub deliveries : left.lent.deliveries ≡ lent.deliveries
  pub memory : left.lent.memory ≡ lent.memory

pub record Counted (s : Station) (a : Arrival) (lent : Lent) (left : FrameLeft) : Type 0 where
  -- the laser sends so many grants, and so many bursts with a message; past the records the plan is as it was
  pub records : left.counts.records ≡ grants_in (sendings left)
  pub replies : left.counts.replies ≡ messages_in (sendings left)
  pub plan : drop (numbers_a_record * left.counts.records) left.lent.plan ≡ drop (numbers_a_record * left.counts.records) lent.plan
  pub done : is_done_lem (answer_number left.outcome.answer) ≡ true → Handed s a lent left
  pub otherwise : is_done_lem (answer_number left.outcome.answer) ≡ false → Untouched lent left

-- at every frame of every run
abbrev pub TrueCounts : Engine → Type 0
TrueCounts E =
    (serial registration memory : List ℕ) (calls : List Call) (a : Arrival) (b : Buffers)
    → let st = run_of E serial registration memory calls in Counted st.station a (lend st b) (E.frame st.station a (lend st b))

-- and of the replies: a Registration ID has 36 octets
abbrev pub RepliesKept : Engine → Type 0
RepliesKept E =
    (s : Station) (a : Arrival) (lent : Lent) → length s.registration ≡ registration_octets_lem
    → drop (message_octets * (E.frame s a lent).counts.replies) (E.frame s a lent).lent.replies
    ≡ drop (message_octets * (E.frame s a lent).counts.replies) lent.replies

-- ---- "Why did it stay dark?"

-- an octet that is the number of a name
pub record Name (octet : ℕ) : Type 0 where
  pub verdict : Verdict
  pub number : octet ≡ name_number verdict

-- "names, for every structure of the map, what became of it"; "each name is given exactly when its fact holds and nothing earlier in this
-- list applies", over the map as mended and the state in which the frame arrives
pub record TrulyNamed (s : Station) (f : List ℕ) (left : NamesLeft) : Type 0 where
  pub hlend : Hlend
  pub reads : read_hlend_lem f ≡ fields hlend
  pub count : left.found.count ≡ hlend.bwmap
  pub every : (i : ℕ) → i < hlend.bwmap → Name (get_or left.names i 0)
  pub exact
      : (i : ℕ) → i < hlend.bwmap → (v : Verdict)
      → (get_or left.names i 0 ≡ name_number v) ↔ TrueName (own_of s) (map_of hlend f) s.carried i v
  -- "the silent state comes before all"
  pub dark : silent s.activation ≡ true → take hlend.bwmap left.names ≡ replicate hlend.bwmap (name_number Silent)

abbrev pub TruthfulNames : Engine → Type 0
TruthfulNames E =
    (s : Station) (f names : List ℕ) → answer_number (E.why_dark_lem s f names).found.answer ≡ 0 → TrulyNamed s f (E.why_dark_lem s f names)

-- "The entries called planned are exactly the plan's": the records that the frame call leaves are those of the structures that are called
-- planned, in map order, number by number
abbrev pub PlannedNames : Engine → Type 0
PlannedNames E =
    (s : Station) (a : Arrival) (lent : Lent) (names : List ℕ) (h : Hlend)
    → let left = E.frame s a lent in
    let called = E.why_dark_lem s a.octets names in
    is_done_lem (answer_number left.outcome.answer) ≡ true → answer_number called.found.answer ≡ 0 → read_hlend_lem a.octets ≡ fields h
    → take (numbers_a_record * left.counts.records) left.lent.plan
    ≡ records_called (called_planned (take called.found.count called.names) (entries (map_of h a.octets)))

-- ---- over any run from power-on

-- at every call of every run the state is in range, so that none is answered 1
abbrev pub NeverOutOfRange : Engine → Type 0
NeverOutOfRange E = (serial registration memory : List ℕ) (calls : List Call) → in_range (run_of E serial registration memory calls).station ≡ true

-- "Entering O1, O2-3 or O7 forgets ONU-ID, Alloc-IDs, delay, key, owed answers": while it stands there nothing of these is held, not an
-- octet of a key
abbrev pub Forgets : Engine → Type 0
Forgets E =
    (serial registration memory : List ℕ) (calls : List Call)
    → let s = (run_of E serial registration memory calls).station in holds_identity_lem s.activation ≡ false → s.link ≡ nothing
