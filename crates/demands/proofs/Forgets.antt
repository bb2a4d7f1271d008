-- The demands bite: an engine that forgets an Alloc-ID in O6 does not meet demand 3. A run of three frame times has it refuted: a
-- bare frame leads to O2-3, one with three messages to O5 with Alloc-ID 1024, and a lost time to O6. Nothing took 1024 back: the
-- ledger lists it, and this engine does not hold it.
-- Assumes nothing.
use Prim.Native.Nat.{ℕ}
use mathlib.Core.Path.{◌≡◌, ◌∙◌, refl, ap}
use mathlib.Core.Bool.{true, false, cond, false≢true}
use mathlib.Core.List.{List, [], ◌∷◌}
use Rattle.station.specs.declared.Activation.TheVariants.{Intermittent}
use Rattle.station.specs.declared.Station.{Station}
use Rattle.answers.specs.declared.Answer.TheVariants.{Done}
use Rattle.station.specs.declared.Outcome.{Outcome}
use Rattle.answers.specs.Answers.{answer_number}
use Rattle.link.specs.declared.Allocs.{Allocs}
use Rattle.station.specs.Limits.{to2}
use Rattle.link.specs.Link.{no_allocs}
use Rattle.ports.specs.Ports.{no_ports}
use Rattle.validity.specs.Ranges.{in_range, identity_fits_lem, allocs_fit_lem, ports_fit_lem, partials_fit_lem, slot_fits, partial_fits}
use Rattle.timing.specs.Timing.{lost_state_lem, lost_time_lem, silence}
use Rattle.ledger.specs.Events.{station_of}
use Rattle.ledger.specs.Events as event
use Rattle.ledger.specs.Ledger.{holds}
use Rattle.frame.specs.Frame.{frame_left}
use Rattle.engine.specs.Lods.{lost_left}
use Rattle.demands.specs.Runs.{Call, frame, lost, Progress, passes, after, run_of}
use Rattle.demands.specs.Demand3.{Demand3}
use Rattle.demands.specs.Wrong.{forgetful, forgets_allocs}
use Rattle.demands.proofs.RefutingRuns.{serial, registration, fresh, memory, buffers, arrives, Stands, begun, on, must_hold, bare, searching, bare_leads}
use Rattle.demands.proofs.Activated.{activating, station_with, given, operating, activated}

-- ---- the states, with the Alloc-IDs that should be held and with none

-- O6
abbrev interrupted : Allocs → Station
interrupted allocs = station_with (Intermittent to2) allocs no_ports

operating_in_range : in_range operating ≡ true
unfolding in_range identity_fits_lem allocs_fit_lem ports_fit_lem partials_fit_lem slot_fits partial_fits
operating_in_range = refl

lost_operating : lost_time_lem operating ≡ interrupted given
unfolding lost_time_lem lost_state_lem silence
lost_operating = refl

interrupting : lost_left operating ≡ record { answer = Done; station = interrupted given }
unfolding lost_left
interrupting = rw operating_in_range (ap (λ (s : Station). record { answer = Done; station = s }) lost_operating)

-- ---- the run: the station that the history leaves, and the engine's

past : (st : Progress) → Stands st operating operating → Stands (after forgets_allocs fresh st lost) (interrupted given) (interrupted no_allocs)
past st k =
    let e : lost_left st.station ≡ record { answer = Done; station = interrupted given } = ap lost_left k.station ∙ interrupting in
    record {
      history = ap (λ (x : Outcome). station_of fresh (cond (passes (answer_number x.answer)) (event.lost ∷ st.history) st.history)) e ∙ ap lost_time_lem k.history ∙ lost_operating;
      station = ap (λ (x : Outcome). forgetful x.station) e;
      memory = k.memory;
    }

calls : List Call
calls = frame (arrives bare) buffers ∷ frame (arrives activating) buffers ∷ lost ∷ []

reached : Stands (run_of forgets_allocs serial registration memory calls) (interrupted given) (interrupted no_allocs)
unfolding calls
reached =
    let k1 = on frame_left forgets_allocs.lost _ fresh fresh begun bare searching searching bare_leads bare_leads in
    let k2 = on frame_left forgets_allocs.lost _ searching searching k1 activating operating operating activated activated in
    past _ k2

pub forgets-allocs : Demand3 forgets_allocs → ⊥
unfolding holds
forgets-allocs d =
    false≢true (must_hold frame_left forgets_allocs.lost d calls (interrupted given) (interrupted no_allocs) reached 1024 refl)
