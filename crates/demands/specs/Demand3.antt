-- Demand 3: "Over any run from power-on, of frames, lost frame times and host calls, each burst planned is one series of that
-- frame's map, in a state that may send, on the discovery number 1023 while we hold no identity and otherwise on numbers that
-- messages accepted in earlier frames gave us and nothing before that frame took back. Every such series in a frame answered 0
-- or 6 is planned once, in map order, except one that is too long, starts before the last planned burst has ended, or comes
-- when that frame already has four planned. No two planned bursts of the run share an upstream word."
-- Assumes nothing.
use Rattle.std.specs.Prelude.{ℕ, ◌+◌, ◌-◌, ◌*◌, ◌%◌, ◌≤◌, ◌≡◌, true, false, cond, List, [], ◌∷◌, ◌++◌, length, take}
use Rattle.xgtc.specs.declared.allocation.Allocation.{Allocation}
use Rattle.xgtc.specs.declared.hlend.Hlend.{Hlend}
use Rattle.xgem.specs.Reads.{fields}
use Rattle.xgtc.specs.Reads.{read_hlend_lem}
use Rattle.station.specs.declared.Station.{Station}
use Rattle.answers.specs.Answers.{answer_number}
use Rattle.station.specs.Limits.{upstream_words}
use Rattle.station.specs.States.{holds_identity_lem, silent}
use Rattle.ploam.specs.Layout.{number16}
use Rattle.messages.specs.Receiving.{messages_in}
use Rattle.series.specs.Limits.{ploamu_words}
use Rattle.series.specs.Series.{Series, outset, standings, series_of}
use Rattle.bwmap.specs.Promises.{SeriesIn, Account}
use Rattle.plan.specs.Limits.{numbers_a_record}
use Rattle.plan.specs.Plan.{numbers}
use Rattle.plan.specs.Laser.{Grant, Sending, laser, burst_of, bursts_of}
use Rattle.bwmap.specs.Upstream.{Burst, finish, takers}
use Rattle.ledger.specs.Events.{Event}
use Rattle.ledger.specs.Ledger.{ledger, holds}
use Rattle.ledger.specs.Promises.{Holds}
use Rattle.ledger.specs.Plan.{own_of, own_at, Listed, Discovery, Ours}
use Rattle.frame.specs.Given.{Arrival}
use Rattle.downstream.specs.Partitions.{header_end_lem, map_of, messages_of}
use Rattle.frame.specs.Frame.{FrameLeft}
use Rattle.demands.specs.Engine.{Engine}
use Rattle.demands.specs.Runs.{Call, frame, lost, add_port_lem, remove_port_lem, give_key_lem, why_dark_lem, Buffers, Progress, lend, is_done_lem, after, run_of, start}

-- ---- what the laser sends

-- by what stands in the lent plan at exit, and so many records of it
abbrev pub sendings : FrameLeft → List Sending
sendings left = laser left.counts.records left.lent.plan

-- a burst's words, from its records: "1 word, 12 more if its head has PLOAMu, its GrantSizes, and 1 word"
abbrev pub granted : List Grant → ℕ
granted [] = 0
granted (g ∷ l) = g.words + granted l

abbrev pub words_of : Sending → ℕ
words_of b = 1 + cond b.ploamu ploamu_words 0 + granted b.grants + 1

-- upstream words are counted from power-on: 9,720 times the frame time, and the word in the frame
abbrev pub placed : ℕ → List Sending → List Burst
placed time [] = []
placed time (b ∷ l) = record { from = upstream_words * time + b.start; size = words_of b } ∷ placed time l

-- all bursts of a run
abbrev pub bursts_by : Engine → Progress → Call → List Burst
bursts_by E st (frame a b) = placed st.times (sendings (E.frame st.station a (lend st b)))
bursts_by E st lost = []
bursts_by E st (add_port_lem port) = []
bursts_by E st (remove_port_lem port) = []
bursts_by E st (give_key_lem octets) = []
bursts_by E st (why_dark_lem f names) = []

abbrev pub bursts_from : Engine → Station → Progress → List Call → List Burst
bursts_from E first st [] = []
bursts_from E first st (c ∷ l) = bursts_by E st c ++ bursts_from E first (after E first st c) l

-- those of a run from power-on
abbrev pub bursts_of_run : Engine → List ℕ → List ℕ → List ℕ → List Call → List Burst
bursts_of_run E serial registration memory calls =
    bursts_from E (E.power_on_lem serial registration) (start (E.power_on_lem serial registration) memory) calls

-- the word where the last of them ends
abbrev pub last_finish : ℕ → List Burst → ℕ
last_finish word [] = word
last_finish word (b ∷ l) = last_finish (finish b) l

-- "At the next frame time, lost or not and in every state, the words carried over are the part of the last burst beyond word
-- 9,719": of what the run has sent, that which lies beyond the frame times that have passed
abbrev pub carried_into : ℕ → List Burst → ℕ
carried_into times bursts = last_finish 0 bursts - upstream_words * times

-- ---- one frame of a run, which comes after the history h

-- every entry of a series is on a number of the ledger; while no identity is held it is one grant to 1023
abbrev pub Numbered : Station → List Event → List Allocation → Type 0
Numbered first h [] = Unit {0}
Numbered first h (a ∷ l) =
    (holds_identity_lem (own_at first h).activation ≡ true → Listed first h a) × (holds_identity_lem (own_at first h).activation ≡ false → Discovery a)
    × Numbered first h l

-- a planned burst: one series of the map as mended, in a state that may send
pub record Planned (first : Station) (h : List Event) (m : List ℕ) (b : Sending) : Type 0 where
  pub series : Series
  pub obeyed : b ≡ burst_of series
  pub lies : SeriesIn (own_at first h) m series
  pub sends : silent (own_at first h).activation ≡ false
  pub numbers : Numbered first h (series.head ∷ series.more)

abbrev pub AllPlanned : Station → List Event → List ℕ → List Sending → Type 0
AllPlanned first h m [] = Unit {0}
AllPlanned first h m (b ∷ l) = Planned first h m b × AllPlanned first h m l

-- what a frame answered 0 or 6 plans, with so many words taken already by the last burst of the frame before
pub record Obeys (first : Station) (h : List Event) (m : List ℕ) (carried : ℕ) (left : FrameLeft) : Type 0 where
  -- each burst that the laser sends is one series of ours
  pub each : AllPlanned first h m (sendings left)
  -- and the series of ours, in map order, are each planned once or left out for a fact that is shown
  pub planned : List Series
  pub account : Account (outset carried) (series_of (standings (own_at first h) m)) planned
  pub are : sendings left ≡ bursts_of planned
  -- the records that are counted are theirs, number by number
  pub records : take (numbers_a_record * left.counts.records) left.lent.plan ≡ numbers planned

-- HLend was read, and what it counts lies within the frame
pub record Plans (first : Station) (h : List Event) (a : Arrival) (carried : ℕ) (left : FrameLeft) : Type 0 where
  pub hlend : Hlend
  pub reads : read_hlend_lem a.octets ≡ fields hlend
  pub fits : header_end_lem hlend ≤ length a.octets
  pub obeys : Obeys first h (map_of hlend a.octets) carried left

-- ---- "numbers that messages accepted in earlier frames gave us"

-- one of the messages of a frame
pub record MessageOf (a : Arrival) (m : List ℕ) : Type 0 where
  pub hlend : Hlend
  pub reads : read_hlend_lem a.octets ≡ fields hlend
  pub before : List (List ℕ)
  pub behind : List (List ℕ)
  pub lies : messages_in (messages_of hlend a.octets) ≡ before ++ (m ∷ behind)

-- a number that stands in octets 5-6 of a message of one of the run's frames, in their low 14 bits
pub record GivenIn (calls : List Call) (n : ℕ) : Type 0 where
  pub before : List Call
  pub arrival : Arrival
  pub buffers : Buffers
  pub behind : List Call
  pub call : calls ≡ before ++ (frame arrival buffers ∷ behind)
  pub message : List ℕ
  pub of : MessageOf arrival message
  pub number : n ≡ number16 message 5 % 16384

-- ---- the demand, over any run from power-on

pub record Demand3 (E : Engine) : Type 0 where
  -- what the engine holds as a frame arrives is what the ledger of the run before it says
  pub held : (serial registration memory : List ℕ) (calls : List Call)
      → let st = run_of E serial registration memory calls in Holds (ledger (E.power_on_lem serial registration) st.history) st.station
  -- by what it holds, these entries of a map are ours
  pub ours : (serial registration memory : List ℕ) (calls : List Call)
      → let st = run_of E serial registration memory calls in Ours (ledger (E.power_on_lem serial registration) st.history) (own_of st.station)
  -- and a message of an earlier frame gave each number that it holds
  pub given : (serial registration memory : List ℕ) (calls : List Call) (n : ℕ)
      → holds (run_of E serial registration memory calls).station n ≡ true → GivenIn calls n
  -- a frame answered 0 or 6 is planned so
  pub plans : (serial registration memory : List ℕ) (calls : List Call) (a : Arrival) (b : Buffers)
      → let st = run_of E serial registration memory calls in
      let left = E.frame st.station a (lend st b) in
      is_done_lem (answer_number left.outcome.answer) ≡ true
      → Plans (E.power_on_lem serial registration) st.history a (carried_into st.times (bursts_of_run E serial registration memory calls)) left
  -- and after any other answer nothing is sent
  pub silent : (serial registration memory : List ℕ) (calls : List Call) (a : Arrival) (b : Buffers)
      → let st = run_of E serial registration memory calls in
      let left = E.frame st.station a (lend st b) in
      is_done_lem (answer_number left.outcome.answer) ≡ false → sendings left ≡ []
  -- "No two planned bursts of the run share an upstream word"
  pub once : (serial registration memory : List ℕ) (calls : List Call) (word : ℕ)
      → takers word (bursts_of_run E serial registration memory calls) ≤ 1
