-- A message forgets the key only by entering O1 or O7, where only broadcasts act and from which no message leads elsewhere.
-- Assumes nothing.
use Prim.Native.Nat.{ℕ}
use mathlib.Core.Path.{◌≡◌, refl}
use mathlib.Core.Bool.{Bool, true, false, ◌&&◌, ◌||◌, not, cond, false≢true}
use mathlib.Core.Logic.{◌⊎◌, inl, inr}
use lib.Dec.{eqb, leb}
use Rattle.std.specs.Prelude.{None, Option, Some, ℕ}
use Rattle.link.specs.declared.Owed.{Owed}
use Rattle.ids.specs.declared.OnuId.{OnuId}
use Rattle.ids.specs.declared.AllocId.{AllocId}
use Rattle.ids.specs.Ids.{assignable_onu, assignable_alloc}
use Rattle.ploam.specs.declared.Switch.{Switch}
use Rattle.ploam.specs.declared.Switch.TheVariants.{DisableOwn, EnableOwn, DisableAll, EnableAll, OtherSwitch}
use Rattle.ploam.specs.declared.AllocChange.{AllocChange}
use Rattle.ploam.specs.declared.AllocChange.TheVariants.{Assign, Deallocate, OtherChange}
use Rattle.ploam.specs.declared.Content.{Content}
use Rattle.ploam.specs.declared.Content.TheVariants.{Profile, AssignOnuId, RangingTime, DeactivateOnuId, DisableSerialNumber, RequestRegistration, AssignAllocId, KeyControl, SleepAllow, Unknown}
use Rattle.ploam.specs.declared.Message.{Message}
use Rattle.link.specs.declared.Allocs.{Allocs}
use Rattle.link.specs.Link.{alloc_place}
use Rattle.link.specs.Limits.{added_allocs}
use Rattle.station.specs.declared.Activation.{Activation}
use Rattle.station.specs.declared.Activation.TheVariants.{Initial, SerialNumber, Ranging, Operation, Intermittent, EmergencyStop}
use Rattle.station.specs.declared.Station.{Station}
use Rattle.station.specs.States.{state_number, holds_identity_lem, o23, o4, o5, o7}
use Rattle.effects.specs.declared.Change.{Change}
use Rattle.effects.specs.declared.Change.TheVariants.{Keep, Identify, Range, Delay, AddAlloc, RemoveAlloc, Enter}
use Rattle.effects.specs.declared.Effect.{Effect}
use Rattle.effects.specs.Effects.{ignored, is_ignored_lem}
use Rattle.effects.specs.Changes.{identify, range, set_delay_lem, apply_change_lem, apply_debt_lem, applied}
use Rattle.decisions.specs.Ranging.{absolute, moved, answered, unanswered, ranging_time_lem}
use Rattle.decisions.specs.Decisions.{assign_onu_id_lem, alloc_change_lem, assign_alloc_id_lem, request_registration_lem, deactivate, switch_off_lem, switch_on_lem, switched, disable, unknown_type_lem, by_content_lem, is_broadcast, is_ours, effect_of, room, decision}
use Rattle.ids.specs.Places.{is_held}
use Rattle.decisions.specs.Acts.{act}
use Rattle.decisions.proofs.Acting.{order_of_tests, act-ignored}

-- O1 and O7
abbrev pub resting : Activation → Bool
resting Initial = true
resting SerialNumber = false
resting (Ranging left) = false
resting Operation = false
resting (Intermittent left) = false
resting EmergencyStop = true

either : (P : Effect → Type 0) (b : Bool) (x y : Effect) → P x → P y → P (cond b x y)
either P true x y p q = p
either P false x y p q = q

-- what is done to a message, whatever its content would do: all of it or nothing
decided : (P : Effect → Type 0) (s : Station) (m : Message) → P (effect_of s m) → P ignored → P (decision s m)
unfolding decision
decided P s m p q = either P (is_ours s m) _ _ (either P (room s.link.owed (effect_of s m).debt) _ _ p q) q

-- ---- what is entered is O1 or O7

abbrev enters_resting : Change → Bool
enters_resting Keep = true
enters_resting (Identify onu) = true
enters_resting (Range delay) = true
enters_resting (Delay delay) = true
enters_resting (AddAlloc id) = true
enters_resting (RemoveAlloc id) = true
enters_resting (Enter a) = resting a

unfoldable Leads : Effect → Type 0
Leads e = enters_resting e.change ≡ true

leads : (c : Change) (d : Option Owed) → enters_resting c ≡ true → Leads (record { change = c; debt = d })
unfolding Leads
leads c d e = e

nowhere : Leads ignored
nowhere = leads Keep None refl

unanswered-leads : (to : Option ℕ) → Leads (unanswered to)
unanswered-leads (Some delay) = leads (Delay delay) None refl
unanswered-leads None = nowhere

answered-leads : (to : Option ℕ) (seq : ℕ) → Leads (answered to seq)
answered-leads (Some delay) seq = leads (Delay delay) _ refl
answered-leads None seq = leads Keep _ refl

alloc_leads : (allocs : Allocs) (seq : ℕ) (id : AllocId) (change : AllocChange) → Leads (alloc_change_lem allocs seq id change)
alloc_leads allocs seq id Assign =
    either Leads (is_held (alloc_place allocs id)) _ _ (leads Keep _ refl)
    (either Leads (leb added_allocs allocs.count) _ _ (leads Keep _ refl) (leads (AddAlloc id) _ refl))
alloc_leads allocs seq id Deallocate =
    either Leads (is_held (alloc_place allocs id)) _ _ (leads (RemoveAlloc id) _ refl) (leads Keep _ refl)
alloc_leads allocs seq id OtherChange = leads Keep _ refl

off_leads : (a : Activation) → Leads (switch_off_lem a)
unfolding switch_off_lem
off_leads a = either Leads (holds_identity_lem a || eqb (state_number a) o23) _ _ (leads (Enter EmergencyStop) None refl) nowhere

on_leads : (a : Activation) → Leads (switch_on_lem a)
unfolding switch_on_lem
on_leads a = either Leads (eqb (state_number a) o7) _ _ (leads (Enter Initial) None refl) nowhere

switched-leads : (a : Activation) (own : Bool) (switch : Switch) → Leads (switched a own switch)
switched-leads a own DisableOwn = either Leads own _ _ (off_leads a) nowhere
switched-leads a own EnableOwn = either Leads own _ _ (on_leads a) nowhere
switched-leads a own DisableAll = off_leads a
switched-leads a own EnableAll = on_leads a
switched-leads a own OtherSwitch = nowhere

assign_leads : (state : ℕ) (broadcast own : Bool) (onu : OnuId) → Leads (assign_onu_id_lem state broadcast own onu)
unfolding assign_onu_id_lem
assign_leads state broadcast own onu =
    either Leads (broadcast && (eqb state o23 && (own && assignable_onu onu))) _ _ (leads (Identify onu) None refl) nowhere

content_leads : (s : Station) (broadcast : Bool) (seq : ℕ) (c : Content) → Leads (by_content_lem s broadcast seq c)
unfolding ranging_time_lem deactivate disable request_registration_lem assign_alloc_id_lem unknown_type_lem
content_leads s broadcast seq Profile = nowhere
content_leads s broadcast seq (AssignOnuId onu serial) = assign_leads (state_number s.activation) broadcast _ onu
content_leads s broadcast seq (RangingTime way amount) =
    let state = state_number s.activation in
    let to = moved way s.link.delay amount in
    either Leads broadcast _ _
    (either Leads (eqb state o5 && not (absolute way)) _ _ (unanswered-leads to) nowhere)
    (either Leads (eqb state o5) _ _ (answered-leads to seq)
    (either Leads (eqb state o4 && absolute way) _ _ (leads (Range amount) _ refl) nowhere))
content_leads s broadcast seq DeactivateOnuId = either Leads (holds_identity_lem s.activation) _ _ (leads (Enter Initial) None refl) nowhere
content_leads s broadcast seq (DisableSerialNumber switch serial) = either Leads broadcast _ _ (switched-leads s.activation _ switch) nowhere
content_leads s broadcast seq RequestRegistration =
    either Leads (not broadcast && eqb (state_number s.activation) o5) _ _ (leads Keep _ refl) nowhere
content_leads s broadcast seq (AssignAllocId id change) =
    either Leads (not broadcast && eqb (state_number s.activation) o5) _ _
    (either Leads (assignable_alloc id) _ _ (alloc_leads s.link.allocs seq id change) (leads Keep _ refl))
    nowhere
content_leads s broadcast seq KeyControl = nowhere
content_leads s broadcast seq SleepAllow = nowhere
content_leads s broadcast seq (Unknown type) =
    either Leads (not broadcast && eqb (state_number s.activation) o5) _ _ (leads Keep _ refl) nowhere

-- ---- in O1 and O7 only broadcasts act, and what they enter is O1 or O7

abbrev stays_resting : Change → Bool
stays_resting Keep = true
stays_resting (Identify onu) = false
stays_resting (Range delay) = false
stays_resting (Delay delay) = true
stays_resting (AddAlloc id) = true
stays_resting (RemoveAlloc id) = true
stays_resting (Enter a) = resting a

unfoldable Stays : Effect → Type 0
Stays e = stays_resting e.change ≡ true

stays : (c : Change) (d : Option Owed) → stays_resting c ≡ true → Stays (record { change = c; debt = d })
unfolding Stays
stays c d e = e

still : Stays ignored
still = stays Keep None refl

-- none of the states in which other messages act
no_other
    : (a : Activation) → resting a ≡ true
    → (eqb (state_number a) o23 ≡ false) × (eqb (state_number a) o4 ≡ false) × (eqb (state_number a) o5 ≡ false) × (holds_identity_lem a ≡ false)
no_other Initial r = (refl, refl, refl, refl)
no_other SerialNumber r = absurd (false≢true r)
no_other (Ranging left) r = absurd (false≢true r)
no_other Operation r = absurd (false≢true r)
no_other (Intermittent left) r = absurd (false≢true r)
no_other EmergencyStop r = (refl, refl, refl, refl)

module _ (s : Station) (r : resting s.activation ≡ true) where
  directed_ignored : (seq : ℕ) (c : Content) → by_content_lem s false seq c ≡ ignored
  unfolding assign_onu_id_lem ranging_time_lem deactivate disable request_registration_lem assign_alloc_id_lem unknown_type_lem
  directed_ignored seq Profile = refl
  directed_ignored seq (AssignOnuId onu serial) = refl
  directed_ignored seq (RangingTime way amount) = rw ((no_other s.activation r).2, (no_other s.activation r).1)
  directed_ignored seq DeactivateOnuId = rw (no_other s.activation r).3
  directed_ignored seq (DisableSerialNumber switch serial) = refl
  directed_ignored seq RequestRegistration = rw (no_other s.activation r).2
  directed_ignored seq (AssignAllocId id change) = rw (no_other s.activation r).2
  directed_ignored seq KeyControl = refl
  directed_ignored seq SleepAllow = refl
  directed_ignored seq (Unknown type) = rw (no_other s.activation r).2

  off_stays : Stays (switch_off_lem s.activation)
  unfolding switch_off_lem
  off_stays = rw ((no_other s.activation r).3, (no_other s.activation r).0) still

  on_stays : Stays (switch_on_lem s.activation)
  unfolding switch_on_lem
  on_stays = either Stays (eqb (state_number s.activation) o7) _ _ (stays (Enter Initial) None refl) still

  switched-stays : (own : Bool) (switch : Switch) → Stays (switched s.activation own switch)
  switched-stays own DisableOwn = either Stays own _ _ off_stays still
  switched-stays own EnableOwn = either Stays own _ _ on_stays still
  switched-stays own DisableAll = off_stays
  switched-stays own EnableAll = on_stays
  switched-stays own OtherSwitch = still

  broadcast_stays : (seq : ℕ) (c : Content) → Stays (by_content_lem s true seq c)
  unfolding assign_onu_id_lem ranging_time_lem deactivate disable request_registration_lem assign_alloc_id_lem unknown_type_lem
  broadcast_stays seq Profile = still
  broadcast_stays seq (AssignOnuId onu serial) = rw (no_other s.activation r).0 still
  broadcast_stays seq (RangingTime way amount) = rw (no_other s.activation r).2 still
  broadcast_stays seq DeactivateOnuId = rw (no_other s.activation r).3 still
  broadcast_stays seq (DisableSerialNumber switch serial) = switched-stays _ switch
  broadcast_stays seq RequestRegistration = still
  broadcast_stays seq (AssignAllocId id change) = still
  broadcast_stays seq KeyControl = still
  broadcast_stays seq SleepAllow = still
  broadcast_stays seq (Unknown type) = still

  content_stays : (broadcast : Bool) (seq : ℕ) (c : Content) → Stays (by_content_lem s broadcast seq c)
  content_stays true seq c = broadcast_stays seq c
  content_stays false seq c = rw (directed_ignored seq c) still

-- ---- so of a message that acts

debt_key : (s : Station) (d : Option Owed) → (apply_debt_lem s d).link.key ≡ s.link.key
debt_key s None = refl
debt_key s (Some answer) = refl

debt_activation : (s : Station) (d : Option Owed) → (apply_debt_lem s d).activation ≡ s.activation
debt_activation s None = refl
debt_activation s (Some answer) = refl

change_forgets
    : (s : Station) (c : Change) → enters_resting c ≡ true
    → ((apply_change_lem s c).link.key ≡ s.link.key) ⊎ (resting (apply_change_lem s c).activation ≡ true)
unfolding identify range set_delay_lem
change_forgets s Keep e = inl refl
change_forgets s (Identify onu) e = inl refl
change_forgets s (Range delay) e = inl refl
change_forgets s (Delay delay) e = inl refl
change_forgets s (AddAlloc id) e = inl refl
change_forgets s (RemoveAlloc id) e = inl refl
change_forgets s (Enter a) e = inr e

change_stays : (s : Station) (c : Change) → stays_resting c ≡ true → resting s.activation ≡ true → resting (apply_change_lem s c).activation ≡ true
unfolding set_delay_lem
change_stays s Keep e r = r
change_stays s (Identify onu) e r = absurd (false≢true e)
change_stays s (Range delay) e r = absurd (false≢true e)
change_stays s (Delay delay) e r = r
change_stays s (AddAlloc id) e r = r
change_stays s (RemoveAlloc id) e r = r
change_stays s (Enter a) e r = e

-- the key that was held is held, or the station rests
pub act-forgets : (s : Station) (g : Bool) (m : Message) → ((act s g m).link.key ≡ s.link.key) ⊎ (resting (act s g m).activation ≡ true)
unfolding applied effect_of Leads
act-forgets s g m = rw (order_of_tests s g m) (go g)
  where
    go : (g : Bool) → ((cond g (applied s (decision s m)) s).link.key ≡ s.link.key) ⊎ (resting (cond g (applied s (decision s m)) s).activation ≡ true)
    go true =
        let e = decision s m in
        rw (debt_key (apply_change_lem s e.change) e.debt, debt_activation (apply_change_lem s e.change) e.debt)
        (change_forgets s e.change (decided Leads s m (content_leads s (is_broadcast m) m.seq m.content) nowhere))
    go false = inl refl

pub act_rests : (s : Station) (g : Bool) (m : Message) → resting s.activation ≡ true → resting (act s g m).activation ≡ true
unfolding applied effect_of Stays
act_rests s g m r = rw (order_of_tests s g m) (go g)
  where
    go : (g : Bool) → resting (cond g (applied s (decision s m)) s).activation ≡ true
    go true =
        let e = decision s m in
        rw (debt_activation (apply_change_lem s e.change) e.debt)
        (change_stays s e.change (decided Stays s m (content_stays s r (is_broadcast m) m.seq m.content) still) r)
    go false = r

pub directed_rests : (s : Station) (g : Bool) (m : Message) → resting s.activation ≡ true → is_broadcast m ≡ false → act s g m ≡ s
unfolding effect_of
directed_rests s g m r d =
    act-ignored s g m (decided (λ (e : Effect). is_ignored_lem e ≡ true) s m (rw (d, directed_ignored s r m.seq m.content)) refl)
