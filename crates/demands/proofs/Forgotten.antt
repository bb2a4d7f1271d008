-- Along every run of this engine nothing of what a head end gave is held in O1, O2-3 and O7.
-- Assumes nothing.
use Prim.Native.Nat.{ℕ}
use mathlib.Core.Path.{subst}
use mathlib.Core.List.{List, [], ◌∷◌}
use Rattle.station.specs.declared.Station.{Station}
use Rattle.station.specs.Station.{power_on_lem}
use Rattle.invariants.proofs.Forgotten.{Forgotten, power_on_forgotten, messages-forgotten, reply_forgotten, frame_end_forgotten, lost_forgotten, unread-forgotten, add-forgotten, remove_forgotten, key_forgotten}
use Rattle.ledger.specs.Events.{Event, considered, ended, unread, lost, replied, walked, carried_over_lem, port_added, port_removed, key_given, after, station_of}
use Rattle.demands.specs.Engine.{lingbarrow}
use Rattle.demands.specs.Runs.{Call, run_of}
use Rattle.demands.proofs.Runs.{always_kept}

event-forgotten : (s : Station) (e : Event) → Forgotten s → Forgotten (after s e)
event-forgotten s (considered m) f = messages-forgotten s (m ∷ []) f
event-forgotten s (ended arrivedRanging) f = frame_end_forgotten s arrivedRanging f
event-forgotten s unread f = unread-forgotten s f
event-forgotten s lost f = lost_forgotten s f
event-forgotten s replied f = reply_forgotten s f
event-forgotten s (walked ports) f = f
event-forgotten s (carried_over_lem words) f = f
event-forgotten s (port_added port) f = add-forgotten s port f
event-forgotten s (port_removed port) f = remove_forgotten s port f
event-forgotten s (key_given octets) f = key_forgotten s octets f

history_forgotten : (serial registration : List ℕ) (h : List Event) → Forgotten (station_of (power_on_lem serial registration) h)
history_forgotten serial registration [] = power_on_forgotten serial registration
history_forgotten serial registration (e ∷ h) = event-forgotten (station_of (power_on_lem serial registration) h) e (history_forgotten serial registration h)

pub always_forgotten : (serial registration memory : List ℕ) (calls : List Call) → Forgotten (run_of lingbarrow serial registration memory calls).station
always_forgotten serial registration memory calls =
    subst Forgotten (always_kept serial registration memory calls).same (history_forgotten serial registration (run_of lingbarrow serial registration memory calls).history)
