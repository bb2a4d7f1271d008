-- Every frame time keeps a state in range in range.
-- Assumes nothing.
use Prim.Native.Nat.{ℕ, ◌-◌}
use mathlib.Core.Path.{◌≡◌, refl, ap}
use mathlib.Core.Bool.{Bool, true, false, ◌&&◌, cond}
use native.Mathlib.Omega.{arith}
use lib.Dec.{leb}
use borrow.Author.Tests.{leb-true, leb-false, le-leb}
use Rattle.ids.specs.declared.OnuId.{OnuId}
use Rattle.station.specs.declared.Activation.{Activation}
use Rattle.station.specs.declared.Activation.TheVariants.{Initial, SerialNumber, Ranging, Operation, Intermittent, EmergencyStop}
use Rattle.station.specs.declared.Station.{Station}
use Rattle.station.specs.Limits.{to1, to2}
use Rattle.station.specs.States.{holds_identity_lem}
use Rattle.station.specs.Station.{enter, with_activation_lem}
use Rattle.validity.specs.Ranges.{identity_fits_lem}
use Rattle.timing.specs.Timing.{count_to1_lem, count_to2_lem, end_from, frame_end_lem, lost_from, lost_state_lem, lost_time_lem, unread_from, unread_state_lem, unread_time_lem}
use Rattle.validity.proofs.Tests.{both, join}
use Rattle.invariants.proofs.InRange.{Sound, enter-sound, silence-sound, with_activation_sound}

-- ---- frame times

pub identity_moves
    : (a b : Activation) (onu : OnuId) → holds_identity_lem a ≡ true → holds_identity_lem b ≡ true → identity_fits_lem a onu ≡ true
    → identity_fits_lem b onu ≡ true
unfolding identity_fits_lem
identity_moves a b onu p q e = rw q (rw p at e)

counts_down : (most left : ℕ) → (leb 1 left && leb left most) ≡ true → leb left 1 ≡ false → (leb 1 (left - 1) && leb (left - 1) most) ≡ true
counts_down most left e f =
    let b = both (leb 1 left) (leb left most) e in
    let l = leb-true left most b.1 in
    let g = leb-false left 1 f in
    join (leb 1 (left - 1)) _ (le-leb 1 (left - 1) (omega arith)) (le-leb (left - 1) most (omega arith))

module _ (s : Station) (left : ℕ) (f : Sound s) where
  count1_sound : s.activation ≡ Ranging left → Sound (count_to1_lem s left)
  unfolding count_to1_lem
  count1_sound e = go (leb left 1) refl
    where
      go : (b : Bool) → leb left 1 ≡ b → Sound (cond b (enter s SerialNumber) (with_activation_lem s (Ranging (left - 1))))
      go true t = enter-sound s SerialNumber refl refl f
      go false t =
          with_activation_sound s (Ranging (left - 1))
          (identity_moves s.activation (Ranging (left - 1)) s.link.onu (ap holds_identity_lem e) refl f.identity)
          (counts_down to1 left (rw e at f.timer) t)
          f

  count2_sound : s.activation ≡ Intermittent left → Sound (count_to2_lem s left)
  unfolding count_to2_lem
  count2_sound e = go (leb left 1) refl
    where
      go : (b : Bool) → leb left 1 ≡ b → Sound (cond b (enter s Initial) (with_activation_lem s (Intermittent (left - 1))))
      go true t = enter-sound s Initial refl refl f
      go false t =
          with_activation_sound s (Intermittent (left - 1))
          (identity_moves s.activation (Intermittent (left - 1)) s.link.onu (ap holds_identity_lem e) refl f.identity)
          (counts_down to2 left (rw e at f.timer) t)
          f

end_sound : (a : Activation) (s : Station) (b : Bool) → s.activation ≡ a → Sound s → Sound (end_from a s b)
end_sound Initial s b e f = enter-sound s SerialNumber refl refl f
end_sound SerialNumber s b e f = f
end_sound (Ranging left) s true e f = count1_sound s left f e
end_sound (Ranging left) s false e f = f
end_sound Operation s b e f = f
end_sound (Intermittent left) s b e f =
    with_activation_sound s Operation
    (identity_moves s.activation Operation s.link.onu (ap holds_identity_lem e) refl f.identity)
    refl f
end_sound EmergencyStop s b e f = f

pub frame_end_sound : (s : Station) (b : Bool) → Sound s → Sound (frame_end_lem s b)
unfolding frame_end_lem
frame_end_sound s b f = end_sound s.activation s b refl f

lost_state_sound : (a : Activation) (s : Station) → s.activation ≡ a → Sound s → Sound (lost_from a s)
lost_state_sound Initial s e f = f
lost_state_sound SerialNumber s e f = enter-sound s Initial refl refl f
lost_state_sound (Ranging left) s e f = enter-sound s Initial refl refl f
lost_state_sound Operation s e f =
    with_activation_sound s (Intermittent to2)
    (identity_moves s.activation (Intermittent to2) s.link.onu (ap holds_identity_lem e) refl f.identity)
    refl f
lost_state_sound (Intermittent left) s e f = count2_sound s left f e
lost_state_sound EmergencyStop s e f = f

pub lost_sound : (s : Station) → Sound s → Sound (lost_time_lem s)
unfolding lost_time_lem lost_state_lem
lost_sound s f = silence-sound (lost_from s.activation s) (lost_state_sound s.activation s refl f)

unread_state_sound : (a : Activation) (s : Station) → s.activation ≡ a → Sound s → Sound (unread_from a s)
unread_state_sound Initial s e f = f
unread_state_sound SerialNumber s e f = f
unread_state_sound (Ranging left) s e f = count1_sound s left f e
unread_state_sound Operation s e f = f
unread_state_sound (Intermittent left) s e f = count2_sound s left f e
unread_state_sound EmergencyStop s e f = f

pub unread-sound : (s : Station) → Sound s → Sound (unread_time_lem s)
unfolding unread_time_lem unread_state_lem
unread-sound s f = silence-sound (unread_from s.activation s) (unread_state_sound s.activation s refl f)
