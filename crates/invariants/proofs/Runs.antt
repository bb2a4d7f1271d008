-- Over any run of what can befall a station, from power-on: it is always in range, and in O1, O2-3 and O7 it always holds
-- nothing of what a head end gave it.
-- Assumes nothing.
use Prim.Native.Nat.{ℕ}
use mathlib.Core.Path.{◌≡◌}
use mathlib.Core.Bool.{Bool, true}
use mathlib.Core.List.{List, [], ◌∷◌}
use Rattle.ids.specs.declared.PortId.{PortId}
use Rattle.station.specs.declared.Station.{Station}
use Rattle.station.specs.Station.{power_on_lem}
use Rattle.validity.specs.Ranges.{in_range}
use Rattle.timing.specs.Timing.{frame_end_lem, lost_time_lem, unread_time_lem}
use Rattle.messages.specs.Receiving.{receive_all}
use Rattle.replies.specs.Replying.{after_reply_lem}
use Rattle.host.specs.Host.{after_add, after_remove, after_key}
use Rattle.invariants.proofs.Forgotten.{Forgotten, power_on_forgotten, messages-forgotten, reply_forgotten, frame_end_forgotten, lost_forgotten, unread-forgotten, add-forgotten, remove_forgotten, key_forgotten}
use Rattle.invariants.proofs.InRange.{Sound, sound_in_range, power_on_sound}
use Rattle.invariants.proofs.InRangeTimes.{frame_end_sound, lost_sound, unread-sound}
use Rattle.invariants.proofs.InRangeMessages.{messages-sound, reply_sound}
use Rattle.invariants.proofs.InRangeHost.{add-sound, remove_sound, key_sound}

-- ---- the statement

pub data Event : Type 0 where
  messages : List (List ℕ) → Event
  burst : Event
  frame_ends : Bool → Event
  lost : Event
  unread : Event
  add_port_lem : PortId → Event
  remove_port_lem : PortId → Event
  give_key_lem : List ℕ → Event

pub after : Station → Event → Station
after s (messages l) = receive_all s l
after s burst = after_reply_lem s
after s (frame_ends arrivedRanging) = frame_end_lem s arrivedRanging
after s lost = lost_time_lem s
after s unread = unread_time_lem s
after s (add_port_lem p) = (after_add s p).station
after s (remove_port_lem p) = (after_remove s p).station
after s (give_key_lem octets) = (after_key s octets).station

pub run : Station → List Event → Station
run s [] = s
run s (e ∷ l) = run (after s e) l

-- ---- the proof

step-sound : (s : Station) (e : Event) → Sound s → Sound (after s e)
unfolding after
step-sound s (messages l) f = messages-sound s l f
step-sound s burst f = reply_sound s f
step-sound s (frame_ends b) f = frame_end_sound s b f
step-sound s lost f = lost_sound s f
step-sound s unread f = unread-sound s f
step-sound s (add_port_lem p) f = add-sound s p f
step-sound s (remove_port_lem p) f = remove_sound s p f
step-sound s (give_key_lem octets) f = key_sound s octets f

step-forgotten : (s : Station) (e : Event) → Forgotten s → Forgotten (after s e)
unfolding after
step-forgotten s (messages l) f = messages-forgotten s l f
step-forgotten s burst f = reply_forgotten s f
step-forgotten s (frame_ends b) f = frame_end_forgotten s b f
step-forgotten s lost f = lost_forgotten s f
step-forgotten s unread f = unread-forgotten s f
step-forgotten s (add_port_lem p) f = add-forgotten s p f
step-forgotten s (remove_port_lem p) f = remove_forgotten s p f
step-forgotten s (give_key_lem octets) f = key_forgotten s octets f

run_sound : (l : List Event) (s : Station) → Sound s → Sound (run s l)
unfolding run
run_sound [] s f = f
run_sound (e ∷ l) s f = run_sound l (after s e) (step-sound s e f)

run-forgotten : (l : List Event) (s : Station) → Forgotten s → Forgotten (run s l)
unfolding run
run-forgotten [] s f = f
run-forgotten (e ∷ l) s f = run-forgotten l (after s e) (step-forgotten s e f)

pub always_in_range : (serial registration : List ℕ) (l : List Event) → in_range (run (power_on_lem serial registration) l) ≡ true
always_in_range serial registration l =
    sound_in_range (run (power_on_lem serial registration) l) (run_sound l (power_on_lem serial registration) (power_on_sound serial registration))

pub always_forgotten : (serial registration : List ℕ) (l : List Event) → Forgotten (run (power_on_lem serial registration) l)
always_forgotten serial registration l = run-forgotten l (power_on_lem serial registration) (power_on_forgotten serial registration)
