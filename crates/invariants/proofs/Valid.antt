-- What a message can do where: identities are assignable, and only a station that holds one is changed or owes an answer.
-- Assumes nothing.
use Prim.Native.Nat.{ℕ}
use mathlib.Core.Path.{◌≡◌, ◌∙◌, refl, sym, ap}
use mathlib.Core.Bool.{Bool, true, false, ◌&&◌, ◌||◌, not, cond, false≢true}
use lib.Dec.{eqb, leb}
use Rattle.std.specs.Prelude.{None, Option, Some, ℕ}
use Rattle.link.specs.declared.Owed.{Owed}
use Rattle.ids.specs.declared.OnuId.{OnuId}
use Rattle.ids.specs.declared.AllocId.{AllocId}
use Rattle.ids.specs.Ids.{assignable_onu, assignable_alloc}
use Rattle.ploam.specs.declared.Adjustment.{Adjustment}
use Rattle.ploam.specs.declared.Adjustment.TheVariants.{Absolute, Add, Subtract}
use Rattle.ploam.specs.declared.Switch.{Switch}
use Rattle.ploam.specs.declared.Switch.TheVariants.{DisableOwn, EnableOwn, DisableAll, EnableAll, OtherSwitch}
use Rattle.ploam.specs.declared.AllocChange.{AllocChange}
use Rattle.ploam.specs.declared.AllocChange.TheVariants.{Assign, Deallocate, OtherChange}
use Rattle.ploam.specs.declared.Content.{Content}
use Rattle.ploam.specs.declared.Content.TheVariants.{Profile, AssignOnuId, RangingTime, DeactivateOnuId, DisableSerialNumber, RequestRegistration, AssignAllocId, KeyControl, SleepAllow, Unknown}
use Rattle.ploam.specs.declared.Message.{Message}
use Rattle.ploam.specs.Reading.{serial_at_lem}
use Rattle.station.specs.declared.Activation.{Activation}
use Rattle.station.specs.declared.Activation.TheVariants.{Initial, SerialNumber, Ranging, Operation, Intermittent, EmergencyStop}
use Rattle.station.specs.declared.Station.{Station}
use Rattle.link.specs.declared.Allocs.{Allocs}
use Rattle.link.specs.Limits.{added_allocs, most_owed}
use Rattle.station.specs.States.{holds_identity_lem, state_number, o4, o5}
use Rattle.link.specs.Link.{alloc_place}
use Rattle.validity.specs.Ranges.{timer_fits_lem}
use Rattle.validity.proofs.Tests.{both}
use Rattle.effects.specs.declared.Change.{Change}
use Rattle.effects.specs.declared.Change.TheVariants.{Keep, Identify, Range, Delay, AddAlloc, RemoveAlloc, Enter}
use Rattle.effects.specs.declared.Effect.{Effect}
use Rattle.effects.specs.Effects.{ignored, does, owes, answers}
use Rattle.decisions.specs.Ranging.{absolute, moved, answered, unanswered, ranging_time_lem}
use Rattle.decisions.specs.Decisions.{same_serial_lem, assign_onu_id_lem, alloc_change_lem, assign_alloc_id_lem, request_registration_lem, deactivate, switch_off_lem, switch_on_lem, switched, disable, unknown_type_lem, by_content_lem, is_broadcast, is_ours, effect_of, room, fitting, decision}
use Rattle.ids.specs.Places.{is_held}

-- ---- the statement

abbrev pub ValidChange : Station → Change → Type 0
ValidChange s Keep = Unit {0}
ValidChange s (Identify onu) = assignable_onu onu ≡ true
ValidChange s (Range delay) = holds_identity_lem s.activation ≡ true
ValidChange s (Delay delay) = holds_identity_lem s.activation ≡ true
ValidChange s (AddAlloc id) =
    (holds_identity_lem s.activation ≡ true) × (assignable_alloc id ≡ true) × (is_held (alloc_place s.link.allocs id) ≡ false)
ValidChange s (RemoveAlloc id) = holds_identity_lem s.activation ≡ true
ValidChange s (Enter a) = (holds_identity_lem a ≡ false) × (timer_fits_lem a ≡ true)

-- the change leaves an identity where there is one
abbrev pub steady : Change → Bool
steady Keep = true
steady (Identify onu) = true
steady (Range delay) = true
steady (Delay delay) = true
steady (AddAlloc id) = true
steady (RemoveAlloc id) = true
steady (Enter a) = false

abbrev pub ValidDebt : Station → Change → Option Owed → Type 0
ValidDebt s c None = Unit {0}
ValidDebt s c (Some answer) = (holds_identity_lem s.activation ≡ true) × (steady c ≡ true)

abbrev pub Valid : Station → Effect → Type 0
Valid s e = (ValidChange s e.change) × (ValidDebt s e.change e.debt)

-- ---- choices

choose : (P : Effect → Type 0) (b : Bool) (x y : Effect) → (b ≡ true → P x) → (b ≡ false → P y) → P (cond b x y)
choose P true x y p q = p refl
choose P false x y p q = q refl

module _ (s : Station) where
  nothing_wrong : Valid s ignored
  nothing_wrong = (tt, tt)

  in-o5 : (a : Activation) → eqb (state_number a) o5 ≡ true → holds_identity_lem a ≡ true
  in-o5 Initial e = absurd (false≢true e)
  in-o5 SerialNumber e = absurd (false≢true e)
  in-o5 (Ranging left) e = refl
  in-o5 Operation e = refl
  in-o5 (Intermittent left) e = refl
  in-o5 EmergencyStop e = absurd (false≢true e)

  in-o4 : (a : Activation) → eqb (state_number a) o4 ≡ true → holds_identity_lem a ≡ true
  in-o4 Initial e = absurd (false≢true e)
  in-o4 SerialNumber e = absurd (false≢true e)
  in-o4 (Ranging left) e = refl
  in-o4 Operation e = refl
  in-o4 (Intermittent left) e = refl
  in-o4 EmergencyStop e = absurd (false≢true e)

-- ---- the bullets
module _ (s : Station) where
  assign-onu : (b own : Bool) (onu : OnuId) → Valid s (assign_onu_id_lem (state_number s.activation) b own onu)
  unfolding assign_onu_id_lem
  assign-onu b own onu =
      choose (Valid s) (b && (eqb (state_number s.activation) 2 && (own && assignable_onu onu))) (does (Identify onu)) ignored
      (λ h. ((both own (assignable_onu onu) (both (eqb (state_number s.activation) 2) _ (both b _ h).1).1).1, tt))
      (λ h. nothing_wrong s)

  answered-valid : holds_identity_lem s.activation ≡ true → (t : Option ℕ) (seq : ℕ) → Valid s (answered t seq)
  answered-valid i (Some delay) seq = (i, (i, refl))
  answered-valid i None seq = (tt, (i, refl))

  unanswered-valid : holds_identity_lem s.activation ≡ true → (t : Option ℕ) → Valid s (unanswered t)
  unanswered-valid i (Some delay) = (i, tt)
  unanswered-valid i None = nothing_wrong s

  ranging-valid
      : (b : Bool) (delay seq : ℕ) (way : Adjustment) (amount : ℕ)
      → Valid s (ranging_time_lem (state_number s.activation) b delay seq way amount)
  unfolding ranging_time_lem
  ranging-valid true delay seq way amount =
      choose (Valid s) (eqb (state_number s.activation) o5 && not (absolute way)) (unanswered (moved way delay amount)) ignored
      (λ h. unanswered-valid (in-o5 s s.activation (both (eqb (state_number s.activation) o5) _ h).0) (moved way delay amount))
      (λ h. nothing_wrong s)
  ranging-valid false delay seq way amount =
      choose (Valid s) (eqb (state_number s.activation) o5) (answered (moved way delay amount) seq) _
      (λ h. answered-valid (in-o5 s s.activation h) (moved way delay amount) seq)
      (λ h.
      choose (Valid s) (eqb (state_number s.activation) o4 && absolute way) _ ignored
      (λ k.
      let i = in-o4 s s.activation (both (eqb (state_number s.activation) o4) _ k).0 in
      (i, (i, refl)))
      (λ k. nothing_wrong s))

  alloc-valid
      : holds_identity_lem s.activation ≡ true → (seq : ℕ) (id : AllocId) → assignable_alloc id ≡ true → (change : AllocChange)
      → Valid s (alloc_change_lem s.link.allocs seq id change)
  alloc-valid i seq id a Assign =
      choose (Valid s) (is_held (alloc_place s.link.allocs id)) _ _ (λ h. (tt, (i, refl)))
      (λ h. choose (Valid s) (leb added_allocs s.link.allocs.count) _ _ (λ k. (tt, (i, refl))) (λ k. ((i, a, h), (i, refl))))
  alloc-valid i seq id a Deallocate =
      choose (Valid s) (is_held (alloc_place s.link.allocs id)) _ _ (λ h. (i, (i, refl))) (λ h. (tt, (i, refl)))
  alloc-valid i seq id a OtherChange = (tt, (i, refl))

  assign-alloc
      : (b : Bool) (seq : ℕ) (id : AllocId) (change : AllocChange)
      → Valid s (assign_alloc_id_lem (state_number s.activation) b s.link.allocs seq id change)
  unfolding assign_alloc_id_lem
  assign-alloc b seq id change =
      choose (Valid s) (not b && eqb (state_number s.activation) o5) _ ignored
      (λ h.
      let i = in-o5 s s.activation (both (not b) (eqb (state_number s.activation) o5) h).1 in
      choose (Valid s) (assignable_alloc id) _ _ (λ a. alloc-valid i seq id a change) (λ a. (tt, (i, refl))))
      (λ h. nothing_wrong s)

  request_valid : (b : Bool) (seq : ℕ) → Valid s (request_registration_lem (state_number s.activation) b seq)
  unfolding request_registration_lem
  request_valid b seq =
      choose (Valid s) (not b && eqb (state_number s.activation) o5) _ ignored
      (λ h. (tt, (in-o5 s s.activation (both (not b) (eqb (state_number s.activation) o5) h).1, refl)))
      (λ h. nothing_wrong s)

  unknown_valid : (b : Bool) (seq : ℕ) → Valid s (unknown_type_lem (state_number s.activation) b seq)
  unfolding unknown_type_lem
  unknown_valid b seq =
      choose (Valid s) (not b && eqb (state_number s.activation) o5) _ ignored
      (λ h. (tt, (in-o5 s s.activation (both (not b) (eqb (state_number s.activation) o5) h).1, refl)))
      (λ h. nothing_wrong s)

  deactivate-valid : (a : Activation) → Valid s (deactivate a)
  unfolding deactivate
  deactivate-valid a = choose (Valid s) (holds_identity_lem a) _ ignored (λ h. ((refl, refl), tt)) (λ h. nothing_wrong s)

  off_valid : (a : Activation) → Valid s (switch_off_lem a)
  unfolding switch_off_lem
  off_valid a = choose (Valid s) (holds_identity_lem a || eqb (state_number a) 2) _ ignored (λ h. ((refl, refl), tt)) (λ h. nothing_wrong s)

  on_valid : (a : Activation) → Valid s (switch_on_lem a)
  unfolding switch_on_lem
  on_valid a = choose (Valid s) (eqb (state_number a) 7) _ ignored (λ h. ((refl, refl), tt)) (λ h. nothing_wrong s)

  switched-valid : (a : Activation) (own : Bool) (switch : Switch) → Valid s (switched a own switch)
  switched-valid a own DisableOwn = choose (Valid s) own (switch_off_lem a) ignored (λ h. off_valid a) (λ h. nothing_wrong s)
  switched-valid a own EnableOwn = choose (Valid s) own (switch_on_lem a) ignored (λ h. on_valid a) (λ h. nothing_wrong s)
  switched-valid a own DisableAll = off_valid a
  switched-valid a own EnableAll = on_valid a
  switched-valid a own OtherSwitch = nothing_wrong s

  disable-valid : (a : Activation) (b own : Bool) (switch : Switch) → Valid s (disable a b own switch)
  unfolding disable
  disable-valid a b own switch =
      choose (Valid s) b (switched a own switch) ignored (λ h. switched-valid a own switch) (λ h. nothing_wrong s)

  content_valid : (b : Bool) (seq : ℕ) (c : Content) → Valid s (by_content_lem s b seq c)
  content_valid b seq Profile = nothing_wrong s
  content_valid b seq (AssignOnuId onu serial) = assign-onu b (same_serial_lem (serial_at_lem s.serial 0) serial) onu
  content_valid b seq (RangingTime way amount) = ranging-valid b s.link.delay seq way amount
  content_valid b seq DeactivateOnuId = deactivate-valid s.activation
  content_valid b seq (DisableSerialNumber switch serial) =
      disable-valid s.activation b (same_serial_lem (serial_at_lem s.serial 0) serial) switch
  content_valid b seq RequestRegistration = request_valid b seq
  content_valid b seq (AssignAllocId id change) = assign-alloc b seq id change
  content_valid b seq KeyControl = nothing_wrong s
  content_valid b seq SleepAllow = nothing_wrong s
  content_valid b seq (Unknown type) = unknown_valid b seq

-- every decision is valid
pub decision-valid : (s : Station) (m : Message) → Valid s (decision s m)
unfolding decision effect_of
decision-valid s m =
    choose (Valid s) (is_ours s m) (fitting s.link.owed (effect_of s m)) ignored
    (λ h.
    choose (Valid s) (room s.link.owed (effect_of s m).debt) (effect_of s m) ignored
    (λ k. content_valid s (is_broadcast m) m.seq m.content)
    (λ k. nothing_wrong s))
    (λ h. nothing_wrong s)
