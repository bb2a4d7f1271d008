-- What demand 3 asks of an engine at a frame of a run, where the station that the history leaves and the engine's own are
-- known: the start is power-on, and a frame that is answered 0 leads on.
-- Assumes nothing.
use Prim.Native.Nat.{ℕ, ◌+◌, ◌<◌, ◌≤◌}
use native.Mathlib.Omega.{arith}
use mathlib.Core.Path.{◌≡◌, ◌∙◌, refl, sym, ap, ap₂, subst}
use mathlib.Core.Bool.{Bool, true, false, ◌&&◌}
use mathlib.Core.List.{List, [], ◌∷◌}
use lib.Dec.{lit<}
use lib.ListN.{replicate}
use lib.Count.{ones_in}
use Rattle.hec.specs.Reads.{word}
use Rattle.hec.proofs.Compute.{computed32}
use Rattle.bch.specs.Code.{remainder_from}
use Rattle.flips.proofs.FlipRule.{flips}
use Rattle.xgtc.specs.declared.hlend.Hlend.{Hlend}
use Rattle.xgtc.specs.Layouts.{hlend_of}
use Rattle.xgem.specs.Reads.{Found, fields, unreadable, short, taken}
use Rattle.xgtc.specs.Reads.{read_hlend_lem}
use Rattle.station.specs.declared.Activation.TheVariants.{SerialNumber}
use Rattle.station.specs.declared.Station.{Station}
use Rattle.answers.specs.Answers.{answer_number}
use Rattle.station.specs.Limits.{serial_octets_lem, registration_octets_lem}
use Rattle.station.specs.Station.{power_on_lem, enter}
use Rattle.validity.specs.Ranges.{in_range}
use Rattle.timing.specs.Timing.{frame_end_lem}
use Rattle.payload.specs.Frames.{parse}
use Rattle.payload.specs.Walk.{memory_bytes}
use Rattle.series.specs.declared.Around.{Around}
use Rattle.series.specs.Limits.{words_a_burst, bursts_a_frame}
use Rattle.series.specs.Series.{Series, standings, series_of, burst_words, outset, beyond}
use Rattle.plan.specs.Limits.{plan_numbers}
use Rattle.bwmap.specs.Promises.{Account, done as none_left, plans, too_long, overlapping, after_the_last}
use Rattle.plan.specs.Laser.{Sending, bursts_of}
use Rattle.invariants.proofs.InRange.{sound_in_range, power_on_sound, enter-sound}
use Rattle.ledger.specs.Events.{station_of}
use Rattle.ledger.specs.Ledger.{holds}
use Rattle.ledger.proofs.Runs.{ledger-exact}
use Rattle.station.specs.declared.Outcome.{Outcome}
use Rattle.downstream.specs.Lengths.{length_fits_lem}
use Rattle.frame.specs.Given.{Arrival, Lent, arriving, lending, reply_octets, enough}
use Rattle.downstream.specs.Partitions.{map_of}
use Rattle.station.specs.States.{is_operating_lem}
use Rattle.frame.specs.Frame.{FrameLeft, own_of, planned_in, replies_in, payload_in, found_by, next, done, handled, frame_left}
use Rattle.engine.specs.Answers.{lost_in, Handled, Row}
use Rattle.engine.proofs.Table.{only}
use Rattle.demands.specs.Runs.{Call, Buffers, frame, Progress, befell, lend, is_done_lem, after, start, run_of}
use Rattle.demands.specs.Demand3.{sendings, bursts_of_run, carried_into, Demand3}
use Rattle.demands.specs.Wrong.{with_calls}
use Rattle.demands.proofs.Runs.{frame-history}

-- ---- power-on, with the bench run's serial number and Registration ID, and what is lent to every call

abbrev pub serial : List ℕ
serial = replicate serial_octets_lem 0

abbrev pub registration : List ℕ
registration = replicate registration_octets_lem 0

abbrev pub fresh : Station
fresh = power_on_lem serial registration

unfoldable pub memory : List ℕ
memory = replicate memory_bytes 0

-- deliveries for a frame of up to 148 bytes
unfoldable pub buffers : Buffers
buffers = record { plan = replicate plan_numbers 0; replies = replicate reply_octets 0; deliveries = replicate (148 + memory_bytes) 0 }

abbrev pub lent : Lent
lent = lend (start fresh memory) buffers

-- a frame arrives, with random delay 0
abbrev pub arrives : List ℕ → Arrival
arrives f = arriving f 0

-- ---- how far a run has come

pub record Stands (st : Progress) (right own : Station) : Type 0 where
  pub history : station_of fresh st.history ≡ right
  pub station : st.station ≡ own
  pub memory : st.memory ≡ memory

pub begun : Stands (start fresh memory) fresh fresh
begun = record { history = refl; station = refl; memory = refl }

-- what the next call finds of what a frame call left, where that answered 0 and wrote no port memory
pub record Leads (left : FrameLeft) (to : Station) : Type 0 where
  pub answer : answer_number left.outcome.answer ≡ 0
  pub station : left.outcome.station ≡ to
  pub memory : left.lent.memory ≡ memory

-- what is sent is the series that an account has as planned, where no words are carried
pub record Asked (right : Station) (m : List ℕ) (bursts : List Sending) : Type 0 where
  pub planned : List Series
  pub are : bursts ≡ bursts_of planned
  pub account : Account (outset 0) (series_of (standings (own_of right) m)) planned

-- the HLend that was read
hlend_in : Found Hlend → Hlend → Hlend
hlend_in (fields h) other = h
hlend_in unreadable other = other
hlend_in short other = other

module _ (call : Station → Arrival → Lent → FrameLeft) (lose : Station → Outcome) where
  module _ (st : Progress) (right own : Station) (k : Stands st right own) (f : List ℕ) where
    same : call st.station (arrives f) (lend st buffers) ≡ call own (arrives f) lent
    same = ap₂ (λ (s : Station) (m : List ℕ). call s (arrives f) (lending m buffers.plan buffers.replies buffers.deliveries)) k.station k.memory

    -- a frame that is answered 0, as it should be
    pub on : (right' own' : Station) → Leads (frame_left right (arrives f) lent) right' → Leads (call own (arrives f) lent) own'
        → Stands (after (with_calls call lose) fresh st (frame (arrives f) buffers)) right' own'
    on right' own' r w =
        let h = st.history in
        let l = lend st buffers in
        let due : frame_left (station_of fresh h) (arrives f) l ≡ frame_left right (arrives f) lent
        = ap₂ (λ (s : Station) (m : List ℕ). frame_left s (arrives f) (lending m buffers.plan buffers.replies buffers.deliveries)) k.history k.memory in
        let answers : answer_number (call st.station (arrives f) l).outcome.answer ≡ answer_number (frame_left (station_of fresh h) (arrives f) l).outcome.answer
        = ap (λ (x : FrameLeft). answer_number x.outcome.answer) same ∙ w.answer ∙ sym (ap (λ (x : FrameLeft). answer_number x.outcome.answer) due ∙ r.answer) in
        record {
          history = ap (λ (n : ℕ). station_of fresh (befell n (station_of fresh h) (arrives f) l h)) answers
              ∙ frame-history fresh h (arrives f) l ∙ ap (λ (x : FrameLeft). x.outcome.station) due ∙ r.station;
          station = ap (λ (x : FrameLeft). x.outcome.station) same ∙ w.station;
          memory = ap (λ (x : FrameLeft). x.lent.memory) same ∙ w.memory;
        }

  pub asked : Demand3 (with_calls call lose) → (calls : List Call) (right own : Station) → Stands (run_of (with_calls call lose) serial registration memory calls) right own
      → bursts_of_run (with_calls call lose) serial registration memory calls ≡ [] → (f : List ℕ) (h : Hlend) → read_hlend_lem f ≡ fields h
      → answer_number (call own (arrives f) lent).outcome.answer ≡ 0 → Asked right (map_of h f) (sendings (call own (arrives f) lent))
  unfolding hlend_in
  asked d calls right own k dark f h reads answer =
      let st = run_of (with_calls call lose) serial registration memory calls in
      let e = same st right own k f in
      let o = d.plans serial registration memory calls (arrives f) buffers
      (ap (λ (x : FrameLeft). is_done_lem (answer_number x.outcome.answer)) e ∙ ap is_done_lem answer) in
      let one : o.hlend ≡ h = ap (λ (x : Found Hlend). hlend_in x h) (sym o.reads ∙ reads) in
      let none : carried_into st.times (bursts_of_run (with_calls call lose) serial registration memory calls) ≡ 0 = rw dark (omega arith) in
      record {
        planned = o.obeys.planned;
        are = ap sendings (sym e) ∙ o.obeys.are;
        account = subst (λ (x : Hlend). Account (outset 0) (series_of (standings (own_of right) (map_of x f))) o.obeys.planned) one
            (subst (λ (s : Station). Account (outset 0) (series_of (standings (own_of s) (map_of o.hlend f))) o.obeys.planned) k.history
            (subst (λ (n : ℕ). Account (outset n) (series_of (standings (own_of (station_of fresh st.history)) (map_of o.hlend f))) o.obeys.planned) none o.obeys.account));
      }

  -- what the right station holds, the engine's own does
  pub must_hold : Demand3 (with_calls call lose) → (calls : List Call) (right own : Station) → Stands (run_of (with_calls call lose) serial registration memory calls) right own
      → (n : ℕ) → holds right n ≡ true → holds own n ≡ true
  must_hold d calls right own k n h =
      let st = run_of (with_calls call lose) serial registration memory calls in
      let listed = (ledger-exact serial registration st.history n).1 (ap (λ (s : Station). holds s n) k.history ∙ h) in
      sym (ap (λ (s : Station). holds s n) k.station) ∙ (d.held serial registration memory calls n).0 listed

-- ---- the account

-- a series that is not too long, does not overlap and comes before the bound is planned
pub record Next (around : Around) (s : Series) (l p : List Series) : Type 0 where
  pub rest : List Series
  pub is : p ≡ s ∷ rest
  pub account : Account (beyond around s) l rest

pub next-planned
    : {around : Around} {s : Series} {l p : List Series} → burst_words s ≤ words_a_burst → around.end ≤ s.head.start → around.bursts < bursts_a_frame
    → Account around (s ∷ l) p → Next around s l p
next-planned a b c (plans because rest) = record { rest = _; is = refl; account = rest }
next-planned a b c (too_long because rest) = absurd (omega arith)
next-planned a b c (overlapping because rest) = absurd (omega arith)
next-planned a b c (after_the_last because rest) = absurd (omega arith)

pub none_planned : {around : Around} {p : List Series} → Account around [] p → p ≡ []
none_planned none_left = refl

-- ---- a frame with no map and no message, at power-on and in any state

unfoldable pub bare : List ℕ
bare = 0 ∷ 0 ∷ 0 ∷ 0 ∷ []

unfoldable pub no_entries : Hlend
no_entries = record { bwmap = 0; ploam = 0 }

pub reads-bare : read_hlend_lem bare ≡ fields no_entries
unfolding bare no_entries remainder_from ones_in flips
reads-bare = ap (taken hlend_of) (computed32 0 (lit< tt) (word 0) refl)

-- what a frame call that is handled leads to
pub led : (s to : Station) (f : List ℕ) (h : Hlend) → Handled s (arrives f) lent false (handled s h (arrives f) lent) → (handled s h (arrives f) lent).outcome.station ≡ to
    → (handled s h (arrives f) lent).lent.memory ≡ memory → Leads (frame_left s (arrives f) lent) to
led s to f h r station kept =
    let o = only s (arrives f) lent 0 (handled s h (arrives f) lent) (Row.done r) in
    subst (λ (x : FrameLeft). Leads x to) o.0 (record { answer = o.1; station = station; memory = kept })

no_payload : (b : Bool) → (b && (parse 4 []).lost) ≡ false
unfolding parse
no_payload true = refl
no_payload false = refl

pub bare-handled : (s : Station) → in_range s ≡ true → Handled s (arrives bare) lent false (handled s no_entries (arrives bare) lent)
unfolding lost_in length_fits_lem enough bare memory buffers no_entries
bare-handled s ok =
    record {
      passed = record { state = ok; frame = refl; buffers = refl };
      hlend = no_entries;
      reads = reads-bare;
      fits = omega arith;
      delineation = no_payload (is_operating_lem s.activation);
      leaves = refl;
    }

fresh-handled : Handled fresh (arrives bare) lent false (handled fresh no_entries (arrives bare) lent)
fresh-handled = bare-handled fresh (sound_in_range fresh (power_on_sound serial registration))

-- at power-on it leads to O2-3
abbrev pub searching : Station
searching = enter fresh SerialNumber

pub searching_in_range : in_range searching ≡ true
searching_in_range = sound_in_range searching (enter-sound fresh SerialNumber refl refl (power_on_sound serial registration))

pub left-bare : handled fresh no_entries (arrives bare) lent ≡ frame_left fresh (arrives bare) lent
left-bare = (only fresh (arrives bare) lent 0 (handled fresh no_entries (arrives bare) lent) (Row.done fresh-handled)).0

pub bare_leads : Leads (frame_left fresh (arrives bare) lent) searching
unfolding handled done found_by next planned_in replies_in payload_in bare no_entries frame_end_lem
bare_leads = led fresh searching bare no_entries fresh-handled refl refl
