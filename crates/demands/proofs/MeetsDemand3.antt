-- This engine meets demand 3.
-- Assumes nothing.
use Prim.Native.Nat.{ℕ, ◌-◌, ◌*◌}
use native.Mathlib.Omega.{arith}
use mathlib.Core.Path.{◌≡◌, ◌∙◌, ap, subst}
use mathlib.Core.Bool.{true}
use mathlib.Core.List.{List}
use Rattle.station.specs.declared.Station.{Station}
use Rattle.answers.specs.Answers.{answer_number}
use Rattle.station.specs.Limits.{upstream_words}
use Rattle.station.specs.Station.{power_on_lem}
use Rattle.ledger.specs.Events.{station_of}
use Rattle.ledger.specs.Ledger.{ledger, holds}
use Rattle.ledger.specs.Promises.{Holds}
use Rattle.ledger.specs.Plan.{own_of, Ours}
use Rattle.ledger.proofs.Runs.{ledger-exact}
use Rattle.ledger.proofs.Plan.{always_ours, always_numbered}
use Rattle.frame.specs.Given.{Arrival}
use Rattle.frame.specs.Frame.{frame_left}
use Rattle.engine.proofs.Table.{table}
use Rattle.demands.specs.Engine.{lingbarrow}
use Rattle.demands.specs.Runs.{Call, Buffers, Progress, lend, is_done_lem, start, run_of}
use Rattle.demands.specs.Demand3.{bursts_of_run, carried_into, Plans, GivenIn, Demand3}
use Rattle.demands.proofs.Runs.{always_kept, started}
use Rattle.demands.proofs.GivenIn.{given-in}
use Rattle.demands.proofs.Planning.{plans, nothing-sent}
use Rattle.demands.proofs.Timeline.{carried_by, no_word_shared}

module _ (serial registration memory : List ℕ) (calls : List Call) where
  abbrev first : Station
  first = power_on_lem serial registration

  abbrev st : Progress
  st = run_of lingbarrow serial registration memory calls

  same : station_of first st.history ≡ st.station
  same = (always_kept serial registration memory calls).same

  held : Holds (ledger first st.history) st.station
  held = subst (Holds (ledger first st.history)) same (ledger-exact serial registration st.history)

  ours : Ours (ledger first st.history) (own_of st.station)
  ours = subst (λ (s : Station). Ours (ledger first st.history) (own_of s)) same (always_ours serial registration st.history)

  -- the words carried over, by what the run has sent
  carried_sent : (station_of first st.history).carried ≡ carried_into st.times (bursts_of_run lingbarrow serial registration memory calls)
  carried_sent = ap (λ (s : Station). s.carried) same ∙ carried_by first calls (start first memory) (started serial registration memory) 0 (omega arith)

  given : (n : ℕ) → holds st.station n ≡ true → GivenIn calls n
  given n h = given-in lingbarrow first memory calls n ((held n).1 h)

  module _ (arrival : Arrival) (b : Buffers) where
    frame-plans
        : let left = frame_left st.station arrival (lend st b) in
        is_done_lem (answer_number left.outcome.answer) ≡ true
        → Plans first st.history arrival (carried_into st.times (bursts_of_run lingbarrow serial registration memory calls)) left
    frame-plans answered =
        let h = st.history in
        let s = station_of first h in
        let left = frame_left s arrival (lend st b) in
        subst (λ (x : ℕ). Plans first h arrival x (frame_left st.station arrival (lend st b))) carried_sent
        (subst
        (λ (x : Station). is_done_lem (answer_number (frame_left x arrival (lend st b)).outcome.answer) ≡ true → Plans first h arrival s.carried (frame_left x arrival (lend st b))) same
        (plans first h arrival (lend st b) (always_numbered serial registration h) (answer_number left.outcome.answer) left (table s arrival (lend st b))) answered)

pub meets_demand_3 : Demand3 lingbarrow
meets_demand_3 =
    record {
      held = held;
      ours = ours;
      given = given;
      plans = frame-plans;
      silent = λ serial registration memory calls arrival b other.
          let s = run_of lingbarrow serial registration memory calls in
          let left = frame_left s.station arrival (lend s b) in
          nothing-sent s.station arrival (lend s b) (answer_number left.outcome.answer) left (table s.station arrival (lend s b)) other;
      once = λ serial registration memory calls word.
          no_word_shared (power_on_lem serial registration) calls (start (power_on_lem serial registration) memory) (started serial registration memory) word;
    }
