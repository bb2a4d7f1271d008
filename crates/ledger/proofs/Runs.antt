-- Over every run from power-on, event by event: the ledger of the history is exactly the ONU-ID and the Alloc-IDs held.
-- Assumes nothing.
use Prim.Native.Nat.{ℕ}
use mathlib.Core.Path.{◌≡◌, ◌∙◌, refl, sym, ap, subst}
use mathlib.Core.Bool.{false, true≢false}
use mathlib.Core.List.{List, [], ◌∷◌}
use lib.Dec.{lit≤}
use Rattle.station.specs.declared.Activation.{Activation}
use Rattle.station.specs.declared.Activation.TheVariants.{Initial, SerialNumber, Ranging, Operation, Intermittent, EmergencyStop}
use Rattle.station.specs.declared.Station.{Station}
use Rattle.station.specs.States.{holds_identity_lem, o4}
use Rattle.station.specs.Station.{power_on_lem}
use Rattle.validity.specs.Ranges.{identity_fits_lem, allocs_fit_lem}
use Rattle.messages.specs.Receiving.{receive}
use Rattle.entries.specs.declared.Own.{Own}
use Rattle.effects.specs.declared.Change.{Change}
use Rattle.effects.specs.declared.Change.TheVariants.{Keep, Identify, Range, Delay, AddAlloc, RemoveAlloc, Enter}
use Rattle.ledger.specs.Events.{Event, considered, ended, unread, lost, replied, walked, carried_over_lem, port_added, port_removed, key_given, after, station_of}
use Rattle.ledger.specs.Entries.{Entry, neither}
use Rattle.ledger.specs.Messages.{by_message}
use Rattle.ledger.specs.Times.{o6, counts_to1, counts_to2, counted, to1_ends, to2_ends}
use Rattle.ledger.specs.Ledger.{entry_of, ledger, holds}
use Rattle.ledger.specs.Promises.{Exact, Timed}
use Rattle.ledger.specs.Plan.{own_of}
use Rattle.ledger.proofs.Book.{stands, in-stands, stands-in, posted-alike}
use Rattle.ledger.proofs.Turns.{holds_own, Fine, stays, turned, Allowed, turn-fine, turn-held}
use Rattle.ledger.proofs.Quiet.{reply_quiet, ports_quiet, carried_quiet, add_quiet, remove_quiet, key_quiet}
use Rattle.ledger.proofs.Messages.{turn_of, message_did}
use Rattle.ledger.proofs.Times.{TimedIn, stay, Move, same-stay, frame-end-moves, lost-moves, unread-moves}

-- ---- the statement

pub record Kept (first : Station) (h : List Event) : Type 0 where
  -- what is held is in range, and no Alloc-ID is held outside O5 and O6
  pub fine : Fine (own_of (station_of first h))
  -- the times counted over the history are those that the timers have run
  pub timed : TimedIn (station_of first h).activation (counted o4 counts_to1 first h) (counted o6 counts_to2 first h)
  -- the ledger is what is held
  pub exact : (n : ℕ) → stands (ledger first h) n ≡ holds (station_of first h) n

-- ---- messages

untimed : (a : Activation) → holds_identity_lem a ≡ false → (c1 c2 : ℕ) → TimedIn a c1 c2
untimed Initial h c1 c2 = tt
untimed SerialNumber h c1 c2 = tt
untimed (Ranging left) h c1 c2 = absurd (true≢false h)
untimed Operation h c1 c2 = tt
untimed (Intermittent left) h c1 c2 = absurd (true≢false h)
untimed EmergencyStop h c1 c2 = tt

module _ (s : Station) (c1 c2 : ℕ) (p : TimedIn s.activation c1 c2) where
  -- a message starts TO1, or leaves the state, or leaves the timers alone
  change-timed
      : (x : Entry) (c : Change) → Allowed (own_of s) (turn_of c) x
      → TimedIn (turned (own_of s) (turn_of c)).activation (stay o4 s.activation c1 false) (stay o6 s.activation c2 false)
  change-timed x Keep a = same-stay s.activation c1 c2 p
  change-timed x (Identify onu) a = (lit≤ tt, rw a.0)
  change-timed x (Range delay) a = tt
  change-timed x (Delay delay) a = same-stay s.activation c1 c2 p
  change-timed x (AddAlloc id) a = same-stay s.activation c1 c2 p
  change-timed x (RemoveAlloc id) a = same-stay s.activation c1 c2 p
  change-timed x (Enter b) a = untimed b a.0 _ _

  message-moves
      : (f : Fine (own_of s)) (m : List ℕ)
      → Move s (receive s m) (by_message s m) (stay o4 s.activation c1 false) (stay o6 s.activation c2 false)
  message-moves f m =
      let d = message_did s f m in
      record {
        turn = turn_of d.change;
        is = d.is;
        allowed = d.allowed;
        timed =
            rw (ap (λ (o : Own). o.activation) d.is) (change-timed (by_message s m) d.change d.allowed);
      }

  -- ---- what gives and takes nothing

  quiet-moves
      : (t : Station) → own_of t ≡ own_of s
      → Move s t neither (stay o4 s.activation c1 false) (stay o6 s.activation c2 false)
  quiet-moves t e =
      record {
        turn = stays;
        is = e;
        allowed = λ n. refl;
        timed = rw (ap (λ (o : Own). o.activation) e) (same-stay s.activation c1 c2 p);
      }

-- ---- every event

module _ (first : Station) (h : List Event) (k : Kept first h) where
  abbrev s : Station
  s = station_of first h

  abbrev c1 : ℕ
  c1 = counted o4 counts_to1 first h

  abbrev c2 : ℕ
  c2 = counted o6 counts_to2 first h

  pub moves
      : (e : Event) → Move s (after s e) (entry_of first h e) (counted o4 counts_to1 first (e ∷ h)) (counted o6 counts_to2 first (e ∷ h))
  unfolding to1_ends to2_ends
  moves (considered m) = message-moves s c1 c2 k.timed k.fine m
  moves (ended b) = frame-end-moves s c1 c2 k.fine k.timed b
  moves unread = unread-moves s c1 c2 k.fine k.timed
  moves lost = lost-moves s c1 c2 k.fine k.timed
  moves replied = quiet-moves s c1 c2 k.timed (after s replied) (reply_quiet s)
  moves (walked ports) = quiet-moves s c1 c2 k.timed (after s (walked ports)) (ports_quiet s ports)
  moves (carried_over_lem words) = quiet-moves s c1 c2 k.timed (after s (carried_over_lem words)) (carried_quiet s words)
  moves (port_added port) = quiet-moves s c1 c2 k.timed (after s (port_added port)) (add_quiet s port)
  moves (port_removed port) = quiet-moves s c1 c2 k.timed (after s (port_removed port)) (remove_quiet s port)
  moves (key_given octets) = quiet-moves s c1 c2 k.timed (after s (key_given octets)) (key_quiet s octets)

  -- the step: what holds before an event holds after it
  pub step : (e : Event) → Kept first (e ∷ h)
  unfolding holds
  step e =
      let m = moves e in
      let o = own_of s in
      let x = entry_of first h e in
      record {
        fine = rw m.is (turn-fine o k.fine m.turn x m.allowed);
        timed = m.timed;
        exact = λ n.
            posted-alike x (stands (ledger first h)) (holds_own o) n (k.exact n)
            ∙ sym (turn-held o k.fine m.turn x m.allowed n)
            ∙ sym (ap (λ (q : Own). holds_own q n) m.is);
      }

-- ---- the whole run

starts_fine : (serial registration : List ℕ) → Fine (own_of (power_on_lem serial registration))
unfolding identity_fits_lem allocs_fit_lem
starts_fine serial registration = record { long = refl; fit = refl; identity = refl; bare = λ h. refl }

pub starts : (serial registration : List ℕ) → Kept (power_on_lem serial registration) []
unfolding holds
starts serial registration = record { fine = starts_fine serial registration; timed = tt; exact = λ n. refl }

pub always : (serial registration : List ℕ) (h : List Event) → Kept (power_on_lem serial registration) h
always serial registration [] = starts serial registration
always serial registration (e ∷ h) = step (power_on_lem serial registration) h (always serial registration h) e

-- n is in the ledger of the history exactly if it is the ONU-ID of a station that holds one, or an Alloc-ID held
pub exactly : (first : Station) (h : List Event) → Kept first h → Exact first h
exactly first h k n =
    ((λ i. sym (k.exact n) ∙ in-stands (ledger first h) n i), (λ t. stands-in (ledger first h) n (k.exact n ∙ t)))

pub ledger-exact : (serial registration : List ℕ) (h : List Event) → Exact (power_on_lem serial registration) h
ledger-exact serial registration h = exactly (power_on_lem serial registration) h (always serial registration h)

-- what is counted over the history is what the timers have run
timed_agrees : (first : Station) (h : List Event) → Kept first h → Timed first h
timed_agrees first h k =
    let c1 = counted o4 counts_to1 first h in
    let c2 = counted o6 counts_to2 first h in
    record {
      ranging = λ left e. (subst (λ (a : Activation). TimedIn a c1 c2) e k.timed).1;
      intermittent = λ left e. (subst (λ (a : Activation). TimedIn a c1 c2) e k.timed).1;
    }

pub timers_agree : (serial registration : List ℕ) (h : List Event) → Timed (power_on_lem serial registration) h
timers_agree serial registration h = timed_agrees (power_on_lem serial registration) h (always serial registration h)
