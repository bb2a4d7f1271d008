-- What a state in range is, part by part, and that power-on and entering O1, O2-3 or O7 give one.
-- Assumes nothing.
use Prim.Native.Nat.{ℕ, ◌-◌}
use mathlib.Core.Path.{◌≡◌, refl}
use mathlib.Core.List.{List}
use mathlib.Core.Bool.{true, false}
use lib.ListN.{length}
use lib.Dec.{leb}
use Rattle.ids.specs.Ids.{broadcast_onu}
use Rattle.station.specs.declared.Activation.{Activation}
use Rattle.station.specs.declared.Station.{Station}
use Rattle.link.specs.Limits.{added_allocs, most_owed}
use Rattle.ports.specs.Limits.{added_ports, slots}
use Rattle.station.specs.Limits.{upstream_words}
use Rattle.station.specs.States.{holds_identity_lem}
use Rattle.link.specs.Link.{nothing}
use Rattle.station.specs.Station.{power_on_lem, enter, with_activation_lem}
use Rattle.validity.specs.Ranges.{identity_fits_lem, allocs_fit_lem, ports_fit_lem, partials_fit_lem, slot_fits, partial_fits, timer_fits_lem, in_range}
use Rattle.timing.specs.Timing.{silence}
use Rattle.effects.specs.Changes.{range}
use Rattle.validity.proofs.Tests.{both}
use Rattle.invariants.proofs.Slots.{all_wait}

-- ---- the statement: the arrays have their lengths, and the state is in range

pub record Sound (s : Station) : Type 0 where
  pub allocs_long : length s.link.allocs.ids ≡ added_allocs
  pub answers-long : length s.link.owed.answers ≡ most_owed
  pub ports_long : length s.ports.ids ≡ added_ports
  pub lengths_long : length s.ports.lengths ≡ slots
  pub waiting_long : length s.ports.waiting ≡ slots
  pub identity : identity_fits_lem s.activation s.link.onu ≡ true
  pub allocs : allocs_fit_lem s.link.allocs ≡ true
  pub ports : ports_fit_lem s.ports.ids ≡ true
  pub partials : partials_fit_lem s.ports.ids s.ports.lengths s.ports.waiting ≡ true
  pub carried : leb s.carried (upstream_words - 1) ≡ true
  pub timer : timer_fits_lem s.activation ≡ true
  pub owed : leb s.link.owed.count most_owed ≡ true

-- a sound state is in range
pub sound_in_range : (s : Station) → Sound s → in_range s ≡ true
unfolding in_range
sound_in_range s f = rw (f.identity, f.allocs, f.ports, f.partials, f.carried, f.timer) f.owed

-- a state in range, whose arrays have their lengths, is sound: the bounds that callers need
pub in_range_sound
    : (s : Station) → length s.link.allocs.ids ≡ added_allocs → length s.link.owed.answers ≡ most_owed
    → length s.ports.ids ≡ added_ports → length s.ports.lengths ≡ slots → length s.ports.waiting ≡ slots
    → in_range s ≡ true → Sound s
unfolding in_range
in_range_sound s a b c d e h =
    let x1 = both (identity_fits_lem s.activation s.link.onu) _ h in
    let x2 = both (allocs_fit_lem s.link.allocs) _ x1.1 in
    let x3 = both (ports_fit_lem s.ports.ids) _ x2.1 in
    let x4 = both (partials_fit_lem s.ports.ids s.ports.lengths s.ports.waiting) _ x3.1 in
    let x5 = both (leb s.carried (upstream_words - 1)) _ x4.1 in
    let x6 = both (timer_fits_lem s.activation) _ x5.1 in
    record {
      allocs_long = a;
      answers-long = b;
      ports_long = c;
      lengths_long = d;
      waiting_long = e;
      identity = x1.0;
      allocs = x2.0;
      ports = x3.0;
      partials = x4.0;
      carried = x5.0;
      timer = x6.0;
      owed = x6.1;
    }

-- ---- power-on and entering

pub power_on_sound : (serial registration : List ℕ) → Sound (power_on_lem serial registration)
unfolding identity_fits_lem allocs_fit_lem ports_fit_lem partials_fit_lem slot_fits partial_fits
power_on_sound serial registration =
    record {
      allocs_long = refl;
      answers-long = refl;
      ports_long = refl;
      lengths_long = refl;
      waiting_long = refl;
      identity = refl;
      allocs = refl;
      ports = refl;
      partials = refl;
      carried = refl;
      timer = refl;
      owed = refl;
    }

nobody : (a : Activation) → holds_identity_lem a ≡ false → identity_fits_lem a broadcast_onu ≡ true
unfolding identity_fits_lem
nobody a h = rw h

no-allocs : allocs_fit_lem nothing.allocs ≡ true
unfolding allocs_fit_lem
no-allocs = refl

pub enter-sound : (s : Station) (a : Activation) → holds_identity_lem a ≡ false → timer_fits_lem a ≡ true → Sound s → Sound (enter s a)
enter-sound s a h t f =
    record {
      allocs_long = refl;
      answers-long = refl;
      ports_long = f.ports_long;
      lengths_long = refl;
      waiting_long = refl;
      identity = nobody a h;
      allocs = no-allocs;
      ports = f.ports;
      partials = all_wait s.ports.ids;
      carried = f.carried;
      timer = t;
      owed = refl;
    }

-- another activation that goes with the same ONU-ID
pub with_activation_sound
    : (s : Station) (a : Activation) → identity_fits_lem a s.link.onu ≡ true → timer_fits_lem a ≡ true → Sound s → Sound (with_activation_lem s a)
with_activation_sound s a i t f =
    record {
      allocs_long = f.allocs_long;
      answers-long = f.answers-long;
      ports_long = f.ports_long;
      lengths_long = f.lengths_long;
      waiting_long = f.waiting_long;
      identity = i;
      allocs = f.allocs;
      ports = f.ports;
      partials = f.partials;
      carried = f.carried;
      timer = t;
      owed = f.owed;
    }

pub silence-sound : (s : Station) → Sound s → Sound (silence s)
unfolding silence
silence-sound s f =
    record {
      allocs_long = f.allocs_long;
      answers-long = f.answers-long;
      ports_long = f.ports_long;
      lengths_long = refl;
      waiting_long = refl;
      identity = f.identity;
      allocs = f.allocs;
      ports = f.ports;
      partials = all_wait s.ports.ids;
      carried = refl;
      timer = f.timer;
      owed = f.owed;
    }
