-- Every message: the turn that it takes, and that the ledger's entry goes with it.
-- Assumes nothing.
use Prim.Native.Nat.{ℕ}
use mathlib.Core.Path.{◌≡◌, ◌∙◌, refl, sym}
use mathlib.Core.Bool.{Bool, true, false, ◌&&◌, ◌||◌, not, cond, false≢true, true≢false}
use mathlib.Core.List.{List}
use lib.Dec.{eqb, leb, ltb}
use lib.ListN.{length}
use borrow.Author.Tests.{eqb-true, leb-true, leb-false, lt-ltb, le-ltb}
use Rattle.std.specs.Prelude.{None, Option, Some, ℕ}
use Rattle.link.specs.declared.Owed.{Owed}
use Rattle.ploam.specs.declared.Message.{Message}
use Rattle.ids.specs.declared.OnuId.{OnuId}
use Rattle.ids.specs.declared.AllocId.{AllocId}
use Rattle.ids.specs.Ids.{assignable_onu, assignable_alloc}
use Rattle.ploam.specs.declared.SerialNumber.{SerialNumber as Serial}
use Rattle.ploam.specs.declared.Adjustment.{Adjustment}
use Rattle.ploam.specs.declared.Switch.{Switch}
use Rattle.ploam.specs.declared.Switch.TheVariants.{DisableOwn, EnableOwn, DisableAll, EnableAll, OtherSwitch}
use Rattle.ploam.specs.declared.AllocChange.{AllocChange}
use Rattle.ploam.specs.declared.AllocChange.TheVariants.{Assign, Deallocate, OtherChange}
use Rattle.ploam.specs.declared.Content.{Content}
use Rattle.ploam.specs.declared.Content.TheVariants.{Profile, AssignOnuId, RangingTime, DeactivateOnuId, DisableSerialNumber, RequestRegistration, AssignAllocId, KeyControl, SleepAllow, Unknown}
use Rattle.ploam.specs.Layout.{message_octets}
use Rattle.ploam.specs.Reading.{message_of, content_of, received}
use Rattle.integrity.specs.Integrity.{installed_key_lem, genuine, mic_right_lem}
use Rattle.station.specs.declared.Activation.{Activation}
use Rattle.station.specs.declared.Activation.TheVariants.{Initial, SerialNumber, Ranging, Operation, Intermittent, EmergencyStop}
use Rattle.station.specs.declared.Station.{Station}
use Rattle.link.specs.declared.Allocs.{Allocs}
use Rattle.link.specs.declared.Queue.{Queue}
use Rattle.ploam.specs.declared.Completion.TheVariants.{Ok, ParameterError, ProcessingError}
use Rattle.link.specs.Limits.{added_allocs, most_owed}
use Rattle.station.specs.States.{holds_identity_lem, state_number, o23, o4, o5, o7}
use Rattle.link.specs.Link.{alloc_place, held_allocs}
use Rattle.effects.specs.declared.Change.{Change}
use Rattle.effects.specs.declared.Change.TheVariants.{Keep, Identify, Range, Delay, AddAlloc, RemoveAlloc, Enter}
use Rattle.effects.specs.declared.Effect.{Effect}
use Rattle.effects.specs.Effects.{ignored, does, answers}
use Rattle.decisions.specs.Ranging.{absolute, moved, answered, unanswered, ranging_time_lem}
use Rattle.decisions.specs.Decisions as decided
use Rattle.decisions.specs.Decisions.{assign_onu_id_lem, alloc_change_lem, assign_alloc_id_lem, request_registration_lem, deactivate, switch_off_lem, switch_on_lem, disable, unknown_type_lem, is_broadcast, is_ours, effect_of, room, fitting}
use Rattle.ids.specs.Places.{is_held}
use Rattle.effects.specs.Changes.{identify, range, set_delay_lem, apply_change_lem, apply_debt_lem, applied}
use Rattle.decisions.specs.Acts.{act}
use Rattle.decisions.proofs.Acting.{act_forged}
use Rattle.messages.specs.Receiving.{acting, receive}
use Rattle.validity.proofs.Tests.{both}
use Rattle.ledger.specs.Entries.{Entry, gave, took_back, took_all_back, neither}
use Rattle.ledger.specs.Messages.{is_own, by_assign_onu_id, accepts_alloc_id, by_type, by_assign_alloc_id, by_deactivate, disabling, by_disable, by_content_lem, heeds, by_message}
use Rattle.ledger.specs.Plan.{own_of}
use Rattle.ledger.proofs.Book.{posted}
use Rattle.ledger.proofs.Numbers.{among, found_among}
use Rattle.ledger.proofs.Turns.{holds_own, Fine, Turn, stays, named, goes, adds, drops, forgets, turned, Allowed, none_held, apart}

-- ---- the statement

abbrev pub turn_of : Change → Turn
turn_of Keep = stays
turn_of (Identify onu) = named onu
turn_of (Range delay) = goes Operation
turn_of (Delay delay) = stays
turn_of (AddAlloc id) = adds id
turn_of (RemoveAlloc id) = drops id
turn_of (Enter a) = forgets a

-- what a message did: a change, and the entry that goes with it
pub record Did (s t : Station) (x : Entry) : Type 0 where
  pub change : Change
  pub is : own_of t ≡ turned (own_of s) (turn_of change)
  pub allowed : Allowed (own_of s) (turn_of change) x

abbrev Fits : Station → Effect → Entry → Type 0
Fits s e x = Allowed (own_of s) (turn_of e.change) x

-- ---- an effect takes the turn of its change

change_turns : (s : Station) (c : Change) → own_of (apply_change_lem s c) ≡ turned (own_of s) (turn_of c)
unfolding identify range set_delay_lem
change_turns s Keep = refl
change_turns s (Identify onu) = refl
change_turns s (Range delay) = refl
change_turns s (Delay delay) = refl
change_turns s (AddAlloc id) = refl
change_turns s (RemoveAlloc id) = refl
change_turns s (Enter a) = refl

debt_keeps : (s : Station) (d : Option Owed) → own_of (apply_debt_lem s d) ≡ own_of s
debt_keeps s None = refl
debt_keeps s (Some answer) = refl

applied_turns : (s : Station) (e : Effect) → own_of (applied s e) ≡ turned (own_of s) (turn_of e.change)
unfolding applied
applied_turns s e = debt_keeps (apply_change_lem s e.change) e.debt ∙ change_turns s e.change

-- ---- choices

choose : (P : Effect → Type 0) (b : Bool) (x y : Effect) → (b ≡ true → P x) → (b ≡ false → P y) → P (cond b x y)
choose P true x y p q = p refl
choose P false x y p q = q refl

ltb_not : (a b : ℕ) → ltb a b ≡ not (leb b a)
ltb_not a b = go (leb b a) refl
  where
    go : (t : Bool) → leb b a ≡ t → ltb a b ≡ not t
    go true e = le-ltb a b (leb-true b a e)
    go false e = lt-ltb a b (leb-false b a e)

in-o23 : (a : Activation) → eqb (state_number a) o23 ≡ true → a ≡ SerialNumber
in-o23 Initial e = absurd (false≢true e)
in-o23 SerialNumber e = refl
in-o23 (Ranging left) e = absurd (false≢true e)
in-o23 Operation e = absurd (false≢true e)
in-o23 (Intermittent left) e = absurd (false≢true e)
in-o23 EmergencyStop e = absurd (false≢true e)

in-o5 : (a : Activation) → eqb (state_number a) o5 ≡ true → a ≡ Operation
in-o5 Initial e = absurd (false≢true e)
in-o5 SerialNumber e = absurd (false≢true e)
in-o5 (Ranging left) e = absurd (false≢true e)
in-o5 Operation e = refl
in-o5 (Intermittent left) e = absurd (false≢true e)
in-o5 EmergencyStop e = absurd (false≢true e)

in-o4 : (a : Activation) → eqb (state_number a) o4 ≡ true → holds_identity_lem a ≡ true
in-o4 Initial e = absurd (false≢true e)
in-o4 SerialNumber e = absurd (false≢true e)
in-o4 (Ranging left) e = refl
in-o4 Operation e = absurd (false≢true e)
in-o4 (Intermittent left) e = absurd (false≢true e)
in-o4 EmergencyStop e = absurd (false≢true e)

in-o7 : (a : Activation) → eqb (state_number a) o7 ≡ true → holds_identity_lem a ≡ false
in-o7 Initial e = absurd (false≢true e)
in-o7 SerialNumber e = absurd (false≢true e)
in-o7 (Ranging left) e = absurd (false≢true e)
in-o7 Operation e = absurd (false≢true e)
in-o7 (Intermittent left) e = absurd (false≢true e)
in-o7 EmergencyStop e = refl

module _ (s : Station) (f : Fine (own_of s)) where
  abbrev Quiet : Effect → Type 0
  Quiet e = Fits s e neither

  -- without room for its answer nothing comes of it
  quiet_fits : (q : Queue) (e : Effect) → Quiet e → Quiet (fitting q e)
  quiet_fits q e p = choose Quiet (room q e.debt) e ignored (λ h. p) (λ h n. refl)

  -- ---- Assign_ONU-ID

  assign-onu
      : (q : Queue) (b : Bool) (onu : OnuId) (serial : Serial)
      → Fits s (fitting q (assign_onu_id_lem (state_number s.activation) b (is_own s serial) onu)) (by_assign_onu_id s b onu serial)
  unfolding assign_onu_id_lem by_assign_onu_id
  assign-onu q b onu serial = go (b && (eqb (state_number s.activation) o23 && (is_own s serial && assignable_onu onu))) refl
    where
      go
          : (x : Bool) → (b && (eqb (state_number s.activation) o23 && (is_own s serial && assignable_onu onu))) ≡ x
          → Fits s (fitting q (cond x (does (Identify onu)) ignored)) (cond x (gave onu.0) neither)
      go true e =
          let p = (both b _ e).1 in
          let r = both (eqb (state_number s.activation) o23) _ p in
          (in-o23 s.activation r.0, (both (is_own s serial) (assignable_onu onu) r.1).1, refl)
      go false e = λ n. refl

  -- ---- Ranging_Time

  answered_quiet : (t : Option ℕ) (seq : ℕ) → Quiet (answered t seq)
  answered_quiet (Some delay) seq = λ n. refl
  answered_quiet None seq = λ n. refl

  unanswered_quiet : (t : Option ℕ) → Quiet (unanswered t)
  unanswered_quiet (Some delay) = λ n. refl
  unanswered_quiet None = λ n. refl

  ranging_quiet : (b : Bool) (delay seq : ℕ) (way : Adjustment) (amount : ℕ) → Quiet (ranging_time_lem (state_number s.activation) b delay seq way amount)
  unfolding ranging_time_lem
  ranging_quiet true delay seq way amount =
      choose Quiet (eqb (state_number s.activation) o5 && not (absolute way)) _ ignored
      (λ h. unanswered_quiet (moved way delay amount)) (λ h n. refl)
  ranging_quiet false delay seq way amount =
      choose Quiet (eqb (state_number s.activation) o5) _ _
      (λ h. answered_quiet (moved way delay amount) seq)
      (λ h.
      choose Quiet (eqb (state_number s.activation) o4 && absolute way) _ ignored
      (λ k. (in-o4 s.activation (both (eqb (state_number s.activation) o4) _ k).0, refl, (λ w. absurd (true≢false w)), refl))
      (λ k n. refl))

  request_quiet : (b : Bool) (seq : ℕ) → Quiet (request_registration_lem (state_number s.activation) b seq)
  unfolding request_registration_lem
  request_quiet b seq = choose Quiet (not b && eqb (state_number s.activation) o5) _ ignored (λ h n. refl) (λ h n. refl)

  unknown_quiet : (b : Bool) (seq : ℕ) → Quiet (unknown_type_lem (state_number s.activation) b seq)
  unfolding unknown_type_lem
  unknown_quiet b seq = choose Quiet (not b && eqb (state_number s.activation) o5) _ ignored (λ h n. refl) (λ h n. refl)

  -- ---- Deactivate_ONU-ID, Disable_Serial_Number

  deactivates : (q : Queue) → Fits s (fitting q (deactivate s.activation)) (by_deactivate s)
  unfolding deactivate by_deactivate
  deactivates q = go (holds_identity_lem s.activation)
    where
      go : (x : Bool) → Fits s (fitting q (cond x (does (Enter Initial)) ignored)) (cond x took_all_back neither)
      go true = (refl, λ n. refl)
      go false = λ n. refl

  off : (q : Queue) → Fits s (fitting q (switch_off_lem s.activation)) (cond (holds_identity_lem s.activation || eqb (state_number s.activation) o23) took_all_back neither)
  unfolding switch_off_lem
  off q = go (holds_identity_lem s.activation || eqb (state_number s.activation) o23)
    where
      go : (x : Bool) → Fits s (fitting q (cond x (does (Enter EmergencyStop)) ignored)) (cond x took_all_back neither)
      go true = (refl, λ n. refl)
      go false = λ n. refl

  on : (q : Queue) → Quiet (fitting q (switch_on_lem s.activation))
  unfolding switch_on_lem
  on q = go (eqb (state_number s.activation) o7) refl
    where
      go : (x : Bool) → eqb (state_number s.activation) o7 ≡ x → Quiet (fitting q (cond x (does (Enter Initial)) ignored))
      go true e = (refl, none_held (own_of s) f (in-o7 s.activation e))
      go false e = λ n. refl

  disables
      : (q : Queue) (b own : Bool) (switch : Switch)
      → Fits s (fitting q (disable s.activation b own switch))
      (cond (b && (disabling own switch && (holds_identity_lem s.activation || eqb (state_number s.activation) o23))) took_all_back neither)
  unfolding disable
  disables q false own switch = λ n. refl
  disables q true true DisableOwn = off q
  disables q true false DisableOwn = λ n. refl
  disables q true true EnableOwn = on q
  disables q true false EnableOwn = λ n. refl
  disables q true own DisableAll = off q
  disables q true own EnableAll = on q
  disables q true own OtherSwitch = λ n. refl

  -- ---- Assign_Alloc-ID

  abbrev allocs : Allocs
  allocs = s.link.allocs

  owing : (q : Queue) (seq : ℕ) (id : AllocId) (change : AllocChange) → room q (alloc_change_lem allocs seq id change).debt ≡ not (leb most_owed q.count)
  owing q seq id Assign =
      choose (λ (e : Effect). room q e.debt ≡ not (leb most_owed q.count)) (is_held (alloc_place allocs id)) _ _ (λ h. refl)
      (λ h. choose (λ (e : Effect). room q e.debt ≡ not (leb most_owed q.count)) (leb added_allocs allocs.count) _ _ (λ k. refl) (λ k. refl))
  owing q seq id Deallocate =
      choose (λ (e : Effect). room q e.debt ≡ not (leb most_owed q.count)) (is_held (alloc_place allocs id)) _ _ (λ h. refl) (λ h. refl)
  owing q seq id OtherChange = refl

  -- held already: given again, unchanged
  given-again : (id : AllocId) (n : ℕ) → is_held (alloc_place allocs id) ≡ true → posted (gave id.0) (holds_own (own_of s)) n ≡ holds_own (own_of s) n
  given-again id n h = go (eqb n id.0) refl
    where
      absorbs : (a b : Bool) → b ≡ true → true ≡ (a || b)
      absorbs true b e = refl
      absorbs false b e = sym e

      go : (x : Bool) → eqb n id.0 ≡ x → (x || holds_own (own_of s) n) ≡ holds_own (own_of s) n
      go true e =
          let m : among (held_allocs allocs) n ≡ true = rw (eqb-true n id.0 e) (sym (found_among allocs id) ∙ h) in
          absorbs (holds_identity_lem s.activation && eqb n s.link.onu.0) (among (held_allocs allocs) n) m
      go false e = refl

  -- not held: nothing is there to take back
  none-taken
      : (id : AllocId) (n : ℕ) → assignable_alloc id ≡ true → is_held (alloc_place allocs id) ≡ false
      → posted (took_back id.0) (holds_own (own_of s)) n ≡ holds_own (own_of s) n
  none-taken id n a h = go (eqb n id.0) refl
    where
      go : (x : Bool) → eqb n id.0 ≡ x → (not x && holds_own (own_of s) n) ≡ holds_own (own_of s) n
      go true e =
          let m : among (held_allocs allocs) n ≡ false = rw (eqb-true n id.0 e) (sym (found_among allocs id) ∙ h) in
          rw (apart (own_of s) f id a n e, m)
      go false e = refl

  by-type
      : (seq : ℕ) (id : AllocId) → s.activation ≡ Operation → assignable_alloc id ≡ true → (change : AllocChange)
      → Fits s (alloc_change_lem allocs seq id change) (by_type allocs id change)
  by-type seq id o a Assign = go (is_held (alloc_place allocs id)) refl (leb added_allocs allocs.count) refl
    where
      go
          : (x : Bool) → is_held (alloc_place allocs id) ≡ x → (y : Bool) → leb added_allocs allocs.count ≡ y
          → Fits s (cond x (answers Keep Ok seq) (cond y (answers Keep ProcessingError seq) (answers (AddAlloc id) Ok seq)))
          (cond (x || ltb allocs.count added_allocs) (gave id.0) neither)
      go true h y k = λ n. given-again id n h
      go false h true k = λ n. rw (ltb_not allocs.count added_allocs, k)
      go false h false k = rw (ltb_not allocs.count added_allocs, k) (o, a, h, leb-false added_allocs allocs.count k, refl)
  by-type seq id o a Deallocate =
      choose (λ (e : Effect). Fits s e (took_back id.0)) (is_held (alloc_place allocs id)) _ _ (λ h. (o, a, h, refl)) (λ h n. none-taken id n a h)
  by-type seq id o a OtherChange = λ n. refl

  assign-alloc
      : (b : Bool) (seq : ℕ) (id : AllocId) (change : AllocChange)
      → Fits s (fitting s.link.owed (assign_alloc_id_lem (state_number s.activation) b allocs seq id change)) (by_assign_alloc_id s b id change)
  unfolding assign_alloc_id_lem by_assign_alloc_id accepts_alloc_id
  assign-alloc b seq id change =
      go (not b && eqb (state_number s.activation) o5) refl (assignable_alloc id) refl (ltb s.link.owed.count most_owed) refl
    where
      fitting-is : (z : Bool) → ltb s.link.owed.count most_owed ≡ z → room s.link.owed (alloc_change_lem allocs seq id change).debt ≡ z
      fitting-is z e = owing s.link.owed seq id change ∙ sym (ltb_not s.link.owed.count most_owed) ∙ e

      go
          : (x : Bool) → (not b && eqb (state_number s.activation) o5) ≡ x → (y : Bool) → assignable_alloc id ≡ y
          → (z : Bool) → ltb s.link.owed.count most_owed ≡ z
          → Fits s (fitting s.link.owed (cond x (cond y (alloc_change_lem allocs seq id change) (answers Keep ParameterError seq)) ignored))
          (cond (x && (y && z)) (by_type allocs id change) neither)
      go false h y k z e = λ n. refl
      go true h false k z e = quiet_fits s.link.owed (answers Keep ParameterError seq) (λ n. refl)
      go true h true k false e = rw (fitting-is false e) (λ n. refl)
      go true h true k true e =
          rw (fitting-is true e) (by-type seq id (in-o5 s.activation (both (not b) _ h).1) k change)

  -- ---- every message

  by-content
      : (b : Bool) (seq : ℕ) (c : Content)
      → Fits s (fitting s.link.owed (decided.by_content_lem s b seq c)) (by_content_lem s b c)
  unfolding by_disable
  by-content b seq Profile = λ n. refl
  by-content b seq (AssignOnuId onu serial) = assign-onu s.link.owed b onu serial
  by-content b seq (RangingTime way amount) =
      quiet_fits s.link.owed (ranging_time_lem (state_number s.activation) b s.link.delay seq way amount) (ranging_quiet b s.link.delay seq way amount)
  by-content b seq DeactivateOnuId = deactivates s.link.owed
  by-content b seq (DisableSerialNumber switch serial) = disables s.link.owed b (is_own s serial) switch
  by-content b seq RequestRegistration =
      quiet_fits s.link.owed (request_registration_lem (state_number s.activation) b seq) (request_quiet b seq)
  by-content b seq (AssignAllocId id change) = assign-alloc b seq id change
  by-content b seq KeyControl = λ n. refl
  by-content b seq SleepAllow = λ n. refl
  by-content b seq (Unknown type) =
      quiet_fits s.link.owed (unknown_type_lem (state_number s.activation) b seq) (unknown_quiet b seq)

  did_nothing : Did s s neither
  did_nothing = record { change = Keep; is = refl; allowed = λ n. refl }

  -- a message that is heard out: address and integrity are right
  heard : (m : List ℕ) → Did s (acting s true (Some (message_of m))) (cond (is_ours s (message_of m)) (by_content_lem s (is_broadcast (message_of m)) (content_of m)) neither)
  unfolding act effect_of
  heard m = go (is_ours s (message_of m))
    where
      e : Effect
      e = fitting s.link.owed (effect_of s (message_of m))

      go : (x : Bool) → Did s (cond x (applied s e) s) (cond x (by_content_lem s (is_broadcast (message_of m)) (content_of m)) neither)
      go true =
          record {
            change = e.change;
            is = applied_turns s e;
            allowed = by-content (is_broadcast (message_of m)) (message_of m).seq (content_of m);
          }
      go false = did_nothing

  unheard : (r : Option Message) → acting s false r ≡ s
  unheard (Some message) = act_forged s message
  unheard None = refl

-- a message with a right integrity field is whole
genuine_whole : (key m : List ℕ) → genuine key m ≡ true → received m ≡ Some (message_of m)
unfolding genuine mic_right_lem received
genuine_whole key m e =
    let k = leb-true message_octets (length m) (both (leb message_octets (length m)) _ e).0 in
    rw (le-ltb (length m) message_octets k)

pub message_did : (s : Station) → Fine (own_of s) → (m : List ℕ) → Did s (receive s m) (by_message s m)
unfolding receive by_message heeds
message_did s f m = go (genuine (installed_key_lem s.link.key.held s.link.key.octets) m) refl
  where
    never : (b : Bool) → (b && false) ≡ false
    never true = refl
    never false = refl

    always : (b : Bool) → (b && true) ≡ b
    always true = refl
    always false = refl

    go
        : (g : Bool) → genuine (installed_key_lem s.link.key.held s.link.key.octets) m ≡ g
        → Did s (acting s g (received m)) (cond (is_ours s (message_of m) && g) (by_content_lem s (is_broadcast (message_of m)) (content_of m)) neither)
    go true e = rw (genuine_whole (installed_key_lem s.link.key.held s.link.key.octets) m e, always (is_ours s (message_of m))) (heard s f m)
    go false e = rw (never (is_ours s (message_of m)), unheard s f (received m)) (did_nothing s f)
