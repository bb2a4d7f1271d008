-- The timers: TO1 goes to O2-3 with its 80,000th counting frame time and not before, TO2 to O1 with its 800th.
-- Assumes nothing.
use Prim.Native.Nat.{ℕ, zero, suc, ◌-◌, ◌≤◌, ◌<◌}
use mathlib.Core.Path.{◌≡◌}
use mathlib.Core.Bool.{Bool, true}
use native.Mathlib.Omega.{arith}
use borrow.Author.Tests.{le-leb, lt-leb}
use Rattle.station.specs.declared.Activation.{Activation}
use Rattle.station.specs.declared.Activation.TheVariants.{Initial, SerialNumber, Ranging, Operation, Intermittent}
use Rattle.station.specs.declared.Station.{Station}
use Rattle.station.specs.Limits.{to1, to2}
use Rattle.timing.specs.Timing.{count_to1_lem, count_to2_lem, frame_end_lem, silence, lost_state_lem, lost_time_lem, unread_state_lem, unread_time_lem}

-- a call again and again
pub times : {A : Type 0} → ℕ → (A → A) → A → A
times zero f x = x
times (suc n) f x = times n f (f x)

-- a frame time that counts: a frame that arrives in O4 and ends in it, one answered 4 or 5, a lost one
pub data Counting : Type 0 where
  frame : Counting
  unread : Counting

pub counted : Counting → Station → Station
counted frame s = frame_end_lem s true
counted unread s = unread_time_lem s

module _ (s : Station) (left : ℕ) (h : s.activation ≡ Ranging left) where
  frame-one : left ≤ 1 → (frame_end_lem s true).activation ≡ SerialNumber
  unfolding frame_end_lem count_to1_lem
  frame-one k = rw (h, le-leb left 1 k)

  frame_more : 1 < left → (frame_end_lem s true).activation ≡ Ranging (left - 1)
  unfolding frame_end_lem count_to1_lem
  frame_more k = rw (h, lt-leb left 1 k)

  unread-one : left ≤ 1 → (unread_time_lem s).activation ≡ SerialNumber
  unfolding unread_time_lem unread_state_lem count_to1_lem silence
  unread-one k = rw (h, le-leb left 1 k)

  unread_more : 1 < left → (unread_time_lem s).activation ≡ Ranging (left - 1)
  unfolding unread_time_lem unread_state_lem count_to1_lem silence
  unread_more k = rw (h, lt-leb left 1 k)

module _ (s : Station) (left : ℕ) (h : s.activation ≡ Intermittent left) where
  lost_one : left ≤ 1 → (lost_time_lem s).activation ≡ Initial
  unfolding lost_time_lem lost_state_lem count_to2_lem silence
  lost_one k = rw (h, le-leb left 1 k)

  lost_more : 1 < left → (lost_time_lem s).activation ≡ Intermittent (left - 1)
  unfolding lost_time_lem lost_state_lem count_to2_lem silence
  lost_more k = rw (h, lt-leb left 1 k)

-- a count that goes down by one at each step, and at its last step to another state
module _
    (f : Station → Station) (at : ℕ → Activation) (ended : Activation)
    (more : (s : Station) (left : ℕ) → s.activation ≡ at left → 1 < left → (f s).activation ≡ at (left - 1))
    (one : (s : Station) (left : ℕ) → s.activation ≡ at left → left ≤ 1 → (f s).activation ≡ ended)
  where
    pub runs : (n left : ℕ) (s : Station) → s.activation ≡ at left → n < left → (times n f s).activation ≡ at (left - n)
    unfolding times
    runs zero left s h k = let e : left - 0 ≡ left = omega arith in rw e h
    runs (suc n) left s h k =
        let e : left - suc n ≡ left - 1 - n = omega arith in
        let g : 1 < left = omega arith in
        let l : n < left - 1 = omega arith in
        rw e (runs n (left - 1) (f s) (more s left h g) l)

    pub ends : (left : ℕ) (s : Station) → s.activation ≡ at left → 0 < left → (times left f s).activation ≡ ended
    unfolding times
    ends zero s h k = absurd (omega arith)
    ends (suc zero) s h k = one s 1 h (omega arith)
    ends (suc (suc n)) s h k =
        let e : suc (suc n) - 1 ≡ suc n = omega arith in
        let m = more s (suc (suc n)) h (omega arith) in
        ends (suc n) (f s) (rw e at m) (omega arith)

-- "TO1 is 80,000 frame times": with n of them counted it is still O4, with all of them O2-3
pub to1_runs
    : (n : ℕ) (s : Station) → s.activation ≡ Ranging to1 → n < to1
    → (times n (λ (x : Station). frame_end_lem x true) s).activation ≡ Ranging (to1 - n)
to1_runs n s h k = runs (λ (x : Station). frame_end_lem x true) Ranging SerialNumber frame_more frame-one n to1 s h k

pub to1-ends
    : (s : Station) → s.activation ≡ Ranging to1 → (times to1 (λ (x : Station). frame_end_lem x true) s).activation ≡ SerialNumber
to1-ends s h = ends (λ (x : Station). frame_end_lem x true) Ranging SerialNumber frame_more frame-one to1 s h (omega arith)

-- the same where every frame is answered 4 or 5
pub to1_unread_runs
    : (n : ℕ) (s : Station) → s.activation ≡ Ranging to1 → n < to1 → (times n unread_time_lem s).activation ≡ Ranging (to1 - n)
to1_unread_runs n s h k = runs unread_time_lem Ranging SerialNumber unread_more unread-one n to1 s h k

pub to1_unread_ends : (s : Station) → s.activation ≡ Ranging to1 → (times to1 unread_time_lem s).activation ≡ SerialNumber
to1_unread_ends s h = ends unread_time_lem Ranging SerialNumber unread_more unread-one to1 s h (omega arith)

-- "TO2 is 800"
pub to2_runs
    : (n : ℕ) (s : Station) → s.activation ≡ Intermittent to2 → n < to2 → (times n lost_time_lem s).activation ≡ Intermittent (to2 - n)
to2_runs n s h k = runs lost_time_lem Intermittent Initial lost_more lost_one n to2 s h k

pub to2-ends : (s : Station) → s.activation ≡ Intermittent to2 → (times to2 lost_time_lem s).activation ≡ Initial
to2-ends s h = ends lost_time_lem Intermittent Initial lost_more lost_one to2 s h (omega arith)

-- O5 to O6 starts TO2, and a frame takes O6 back to O5
pub lost_starts : (s : Station) → s.activation ≡ Operation → (lost_time_lem s).activation ≡ Intermittent to2
unfolding lost_time_lem lost_state_lem silence
lost_starts s h = rw h

pub frame_returns : (s : Station) (left : ℕ) (b : Bool) → s.activation ≡ Intermittent left → (frame_end_lem s b).activation ≡ Operation
unfolding frame_end_lem
frame_returns s left b h = rw h
