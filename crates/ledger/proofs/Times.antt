-- Every frame time: the turn that it takes, that the ledger's entry goes with it, and that the times counted over the
-- history are those that the timers have run.
-- Assumes nothing.
use Prim.Native.Nat.{ℕ, ◌+◌, ◌-◌, ◌≤◌}
use mathlib.Core.Path.{◌≡◌, ◌∙◌, refl, ap}
use mathlib.Core.Bool.{Bool, true, false, ◌&&◌, ◌||◌, cond, true≢false}
use native.Mathlib.Omega.{arith}
use lib.Dec.{eqb, leb, lit≤}
use borrow.Author.Tests.{eq-eqb, ne_eqb, leb-true, leb-false}
use Rattle.station.specs.declared.Activation.{Activation}
use Rattle.station.specs.declared.Activation.TheVariants.{Initial, SerialNumber, Ranging, Operation, Intermittent, EmergencyStop}
use Rattle.station.specs.declared.Station.{Station}
use Rattle.station.specs.Limits.{to1, to2}
use Rattle.station.specs.States.{holds_identity_lem, state_number, o4}
use Rattle.station.specs.Station.{enter, with_activation_lem}
use Rattle.timing.specs.Timing.{count_to1_lem, count_to2_lem, end_from, frame_end_lem, silence, lost_from, lost_state_lem, lost_time_lem, unread_from, unread_state_lem, unread_time_lem}
use Rattle.ledger.specs.Entries.{Entry, took_all_back, neither}
use Rattle.ledger.specs.Times.{o6}
use Rattle.ledger.specs.Plan.{own_of}
use Rattle.ledger.proofs.Turns.{may_hold, Fine, Turn, stays, goes, forgets, turned, Allowed, none_held}

-- ---- the statement

-- after c1 counting times in O4, and c2 in O6, the rest of TO1, and of TO2, is left
abbrev pub TimedIn : Activation → ℕ → ℕ → Type 0
TimedIn Initial c1 c2 = Unit {0}
TimedIn SerialNumber c1 c2 = Unit {0}
TimedIn (Ranging left) c1 c2 = (1 ≤ left) × (left + c1 ≡ to1)
TimedIn Operation c1 c2 = Unit {0}
TimedIn (Intermittent left) c1 c2 = (1 ≤ left) × (left + c2 ≡ to2)
TimedIn EmergencyStop c1 c2 = Unit {0}

-- the counting times of the stay, after an event that found the state a and counts or not
abbrev pub stay : ℕ → Activation → ℕ → Bool → ℕ
stay state a c counts = cond (eqb (state_number a) state) (c + cond counts 1 0) 0

pub record Move (s t : Station) (x : Entry) (c1 c2 : ℕ) : Type 0 where
  pub turn : Turn
  pub is : own_of t ≡ turned (own_of s) turn
  pub allowed : Allowed (own_of s) turn x
  pub timed : TimedIn t.activation c1 c2

-- ---- an event that leaves the state as it is and does not count

pub same-stay : (a : Activation) (c1 c2 : ℕ) → TimedIn a c1 c2 → TimedIn a (stay o4 a c1 false) (stay o6 a c2 false)
same-stay Initial c1 c2 p = tt
same-stay SerialNumber c1 c2 p = tt
same-stay (Ranging left) c1 c2 p = (p.0, omega (arith, p.1))
same-stay Operation c1 c2 p = tt
same-stay (Intermittent left) c1 c2 p = (p.0, omega (arith, p.1))
same-stay EmergencyStop c1 c2 p = tt

-- ---- the timers

and-true : (b : Bool) → (b && true) ≡ b
and-true true = refl
and-true false = refl

pub and-false : (b : Bool) → (b && false) ≡ false
and-false true = refl
and-false false = refl

pub or_false : (b : Bool) → (b || false) ≡ b
or_false true = refl
or_false false = refl

module _ (s : Station) (c1 c2 : ℕ) (f : Fine (own_of s)) where
  counted1
      : (left : ℕ) → s.activation ≡ Ranging left → TimedIn (Ranging left) c1 c2 → (c : ℕ)
      → Move s (count_to1_lem s left) (cond (eqb (c1 + 1) to1) took_all_back neither) (c1 + 1) c
  unfolding count_to1_lem
  counted1 left e p c = go (leb left 1) refl
    where
      go
          : (b : Bool) → leb left 1 ≡ b
          → Move s (cond b (enter s SerialNumber) (with_activation_lem s (Ranging (left - 1)))) (cond (eqb (c1 + 1) to1) took_all_back neither) (c1 + 1) c
      go true t =
          let l = leb-true left 1 t in
          let q : c1 + 1 ≡ to1 = omega (arith, p.0, p.1) in
          rw (eq-eqb (c1 + 1) to1 q) (record { turn = forgets SerialNumber; is = refl; allowed = (refl, λ n. refl); timed = tt })
      go false t =
          let l = leb-false left 1 t in
          let q : eqb (c1 + 1) to1 ≡ false = ne_eqb (c1 + 1) to1 (λ (z : c1 + 1 ≡ to1). omega (arith, p.1)) in
          rw q
          (record {
            turn = goes (Ranging (left - 1));
            is = refl;
            allowed = (ap holds_identity_lem e, refl, (λ h. ap may_hold e), refl);
            timed = (omega arith, omega (arith, p.1));
          })

  counted2
      : (left : ℕ) → s.activation ≡ Intermittent left → TimedIn (Intermittent left) c1 c2 → (c : ℕ)
      → Move s (count_to2_lem s left) (cond (eqb (c2 + 1) to2) took_all_back neither) c (c2 + 1)
  unfolding count_to2_lem
  counted2 left e p c = go (leb left 1) refl
    where
      go
          : (b : Bool) → leb left 1 ≡ b
          → Move s (cond b (enter s Initial) (with_activation_lem s (Intermittent (left - 1)))) (cond (eqb (c2 + 1) to2) took_all_back neither) c (c2 + 1)
      go true t =
          let l = leb-true left 1 t in
          let q : c2 + 1 ≡ to2 = omega (arith, p.0, p.1) in
          rw (eq-eqb (c2 + 1) to2 q) (record { turn = forgets Initial; is = refl; allowed = (refl, λ n. refl); timed = tt })
      go false t =
          let l = leb-false left 1 t in
          let q : eqb (c2 + 1) to2 ≡ false = ne_eqb (c2 + 1) to2 (λ (z : c2 + 1 ≡ to2). omega (arith, p.1)) in
          rw q
          (record {
            turn = goes (Intermittent (left - 1));
            is = refl;
            allowed = (ap holds_identity_lem e, refl, (λ h. absurd (true≢false h)), refl);
            timed = (omega arith, omega (arith, p.1));
          })

  -- nothing happens, in a state whose timer stands
  still : (a : Activation) → s.activation ≡ a → TimedIn a c1 c2 → Move s s neither (stay o4 a c1 false) (stay o6 a c2 false)
  still a e p =
      record { turn = stays; is = refl; allowed = λ n. refl; timed = rw e (same-stay a c1 c2 p) }

  -- nothing was held, and nothing is
  empty : (a b : Activation) → s.activation ≡ a → holds_identity_lem a ≡ false → holds_identity_lem b ≡ false → TimedIn b 0 0 → Move s (enter s b) neither 0 0
  empty a b e h k p =
      record { turn = forgets b; is = refl; allowed = (k, none_held (own_of s) f (ap holds_identity_lem e ∙ h)); timed = p }

  -- what is held stays, in another state
  goes_on
      : (a b : Activation) → s.activation ≡ a → holds_identity_lem a ≡ true → holds_identity_lem b ≡ true
      → (may_hold b ≡ false → may_hold a ≡ false) → (d1 d2 : ℕ) → TimedIn b d1 d2
      → Move s (with_activation_lem s b) neither d1 d2
  goes_on a b e h k w d1 d2 p =
      record {
        turn = goes b;
        is = refl;
        allowed = (ap holds_identity_lem e ∙ h, k, (λ z. ap may_hold e ∙ w z), refl);
        timed = p;
      }

  -- ---- step (c)

  end-move
      : (a : Activation) → s.activation ≡ a → TimedIn a c1 c2 → (b : Bool)
      → Move s (end_from a s b) (cond ((eqb (state_number a) o4 && eqb (c1 + 1) to1) && b) took_all_back neither) (stay o4 a c1 b) (stay o6 a c2 false)
  end-move Initial e p b = empty Initial SerialNumber e refl refl tt
  end-move SerialNumber e p b = still SerialNumber e tt
  end-move (Ranging left) e p true = rw (and-true (eqb (c1 + 1) to1)) (counted1 left e p 0)
  end-move (Ranging left) e p false = rw (and-false (eqb (c1 + 1) to1)) (still (Ranging left) e p)
  end-move Operation e p b = still Operation e tt
  end-move (Intermittent left) e p b = goes_on (Intermittent left) Operation e refl refl (λ h. absurd (true≢false h)) 0 (c2 + 0) tt
  end-move EmergencyStop e p b = still EmergencyStop e tt

  -- ---- a lost time

  lost-move
      : (a : Activation) → s.activation ≡ a → TimedIn a c1 c2
      → Move s (lost_from a s)
      (cond (eqb (state_number a) o4 || (eqb (state_number a) o6 && eqb (c2 + 1) to2)) took_all_back neither)
      (stay o4 a c1 false) (stay o6 a c2 true)
  lost-move Initial e p = still Initial e tt
  lost-move SerialNumber e p = empty SerialNumber Initial e refl refl tt
  lost-move (Ranging left) e p = record { turn = forgets Initial; is = refl; allowed = (refl, λ n. refl); timed = tt }
  lost-move Operation e p =
      goes_on Operation (Intermittent to2) e refl refl (λ h. absurd (true≢false h)) 0 0 (lit≤ tt, refl)
  lost-move (Intermittent left) e p = counted2 left e p 0
  lost-move EmergencyStop e p = still EmergencyStop e tt

  -- ---- a time answered 4 or 5

  unread-move
      : (a : Activation) → s.activation ≡ a → TimedIn a c1 c2
      → Move s (unread_from a s)
      (cond ((eqb (state_number a) o4 && eqb (c1 + 1) to1) || (eqb (state_number a) o6 && eqb (c2 + 1) to2)) took_all_back neither)
      (stay o4 a c1 true) (stay o6 a c2 true)
  unread-move Initial e p = still Initial e tt
  unread-move SerialNumber e p = still SerialNumber e tt
  unread-move (Ranging left) e p = rw (or_false (eqb (c1 + 1) to1)) (counted1 left e p 0)
  unread-move Operation e p = still Operation e tt
  unread-move (Intermittent left) e p = counted2 left e p 0
  unread-move EmergencyStop e p = still EmergencyStop e tt

-- dropping partials and carried words touches no number
silence-move : (s t : Station) (x : Entry) (c1 c2 : ℕ) → Move s t x c1 c2 → Move s (silence t) x c1 c2
unfolding silence
silence-move s t x c1 c2 m = record { turn = m.turn; is = m.is; allowed = m.allowed; timed = m.timed }

module _ (s : Station) (c1 c2 : ℕ) (f : Fine (own_of s)) (p : TimedIn s.activation c1 c2) where
  pub frame-end-moves
      : (b : Bool)
      → Move s (frame_end_lem s b) (cond ((eqb (state_number s.activation) o4 && eqb (c1 + 1) to1) && b) took_all_back neither)
      (stay o4 s.activation c1 b) (stay o6 s.activation c2 false)
  unfolding frame_end_lem
  frame-end-moves b = end-move s c1 c2 f s.activation refl p b

  pub lost-moves
      : Move s (lost_time_lem s)
      (cond (eqb (state_number s.activation) o4 || (eqb (state_number s.activation) o6 && eqb (c2 + 1) to2)) took_all_back neither)
      (stay o4 s.activation c1 false) (stay o6 s.activation c2 true)
  unfolding lost_time_lem lost_state_lem
  lost-moves = silence-move s (lost_from s.activation s) _ _ _ (lost-move s c1 c2 f s.activation refl p)

  pub unread-moves
      : Move s (unread_time_lem s)
      (cond
      ((eqb (state_number s.activation) o4 && eqb (c1 + 1) to1) || (eqb (state_number s.activation) o6 && eqb (c2 + 1) to2))
      took_all_back
      neither)
      (stay o4 s.activation c1 true) (stay o6 s.activation c2 true)
  unfolding unread_time_lem unread_state_lem
  unread-moves = silence-move s (unread_from s.activation s) _ _ _ (unread-move s c1 c2 f s.activation refl p)
