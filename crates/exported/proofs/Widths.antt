-- Every call keeps a station's fields as long and as wide as their types: what the ranges of a state do not say already. So the octets of
-- a run's state are read again as that state.
-- Assumes nothing.
use Prim.Native.Nat.{ℕ, zero, suc, ◌+◌, ◌-◌, ◌*◌, ◌/◌, ◌%◌, ◌^◌, ◌<◌, ◌≤◌}
use native.Mathlib.Omega.{arith}
use mathlib.Core.Path.{◌≡◌, ◌∙◌, refl, ap, subst}
use mathlib.Core.Bool.{Bool, true, false, not, cond, ◌&&◌, ◌||◌}
use mathlib.Core.List.{List, [], ◌∷◌, ◌++◌}
use lib.Dec.{eqb, leb, ltb}
use lib.ListN.{length, get_or, take, drop, set, replicate}
use borrow.Author.Tests.{leb-true}
use Rattle.std.specs.Prelude.{None, Option, Some, ℕ}
use Rattle.link.specs.declared.Owed.{Owed}
use Rattle.ids.specs.declared.AllocId.{AllocId}
use Rattle.ids.specs.declared.PortId.{PortId}
use Rattle.aes.specs.Words.{Octets}
use Rattle.xgtc.specs.declared.hlend.Hlend.{Hlend}
use Rattle.ploam.specs.declared.Adjustment.{Adjustment}
use Rattle.ploam.specs.declared.Adjustment.TheVariants.{Absolute, Add, Subtract}
use Rattle.ploam.specs.declared.AllocChange.{AllocChange}
use Rattle.ploam.specs.declared.AllocChange.TheVariants.{Assign, Deallocate, OtherChange}
use Rattle.ploam.specs.declared.Switch.{Switch}
use Rattle.ploam.specs.declared.Switch.TheVariants.{DisableOwn, EnableOwn, DisableAll, EnableAll, OtherSwitch}
use Rattle.ploam.specs.declared.Content.{Content}
use Rattle.ploam.specs.declared.Content.TheVariants.{Profile, AssignOnuId, RangingTime, DeactivateOnuId, DisableSerialNumber, RequestRegistration, AssignAllocId, KeyControl, SleepAllow, Unknown}
use Rattle.ploam.specs.declared.Message.{Message}
use Rattle.ploam.specs.Layout as layout
use Rattle.ploam.specs.Layout.{message_octets, message_at, number16, number32, type_of, octet}
use Rattle.ploam.specs.declared.Completion.TheVariants.{Ok, ProcessingError, ParameterError, UnknownMessageType}
use Rattle.ids.specs.Ids.{assignable_onu, assignable_alloc}
use Rattle.ids.specs.Places.{is_held}
use Rattle.link.specs.declared.Response.TheVariants.{Registration}
use Rattle.ploam.specs.Reading.{serial_at_lem, adjustment_of, switch_of, change_of, onu_in_lem, alloc_in_lem, serial_from, content_as, content_of, message_of, received}
use Rattle.integrity.specs.Integrity.{installed_key_lem, genuine}
use Rattle.link.specs.declared.Link.{Link}
use Rattle.link.specs.declared.Allocs.{Allocs}
use Rattle.link.specs.Limits.{added_allocs, most_owed, key_octets}
use Rattle.link.specs.Lists.{close_up}
use Rattle.link.specs.Link.{no_alloc, nothing, with_onu_lem, with_allocs_lem, with_delay_lem, with_key_lem, with_owed_lem, installed, alloc_place, add_alloc, remove_at, remove_alloc, owe, paid}
use Rattle.station.specs.declared.Activation.{Activation}
use Rattle.station.specs.declared.Activation.TheVariants.{Initial, SerialNumber, Ranging, Operation, Intermittent, EmergencyStop}
use Rattle.station.specs.declared.Station.{Station}
use Rattle.station.specs.declared.Outcome.{Outcome}
use Rattle.answers.specs.declared.Answer.TheVariants.{Done, StateOutOfRange}
use Rattle.validity.specs.Ranges.{in_range}
use Rattle.station.specs.Limits.{serial_octets_lem, registration_octets_lem}
use Rattle.station.specs.States.{state_number, o4, o5, o7, o23, holds_identity_lem, is_ranging_lem}
use Rattle.station.specs.Station.{power_on_lem, enter, with_activation_lem}
use Rattle.timing.specs.Timing.{count_to1_lem, count_to2_lem, end_from, frame_end_lem, silence, lost_from, lost_state_lem, lost_time_lem, unread_from, unread_state_lem, unread_time_lem}
use Rattle.effects.specs.declared.Change.{Change}
use Rattle.effects.specs.declared.Change.TheVariants.{Keep, Identify, Range, Delay, AddAlloc, RemoveAlloc, Enter}
use Rattle.effects.specs.declared.Effect.{Effect}
use Rattle.effects.specs.Effects.{ignored, does, owes, answers}
use Rattle.effects.specs.Changes.{identify, range, set_delay_lem, apply_change_lem, apply_debt_lem, applied}
use Rattle.decisions.specs.Ranging.{most_delay, absolute, moved, answered, unanswered, ranging_time_lem}
use Rattle.decisions.specs.Decisions.{same_serial_lem, assign_onu_id_lem, alloc_change_lem, assign_alloc_id_lem, request_registration_lem, deactivate, switch_off_lem, switch_on_lem, switched, disable, unknown_type_lem, by_content_lem, is_ours, is_broadcast, effect_of, room, fitting}
use Rattle.decisions.specs.Acts.{act}
use Rattle.messages.specs.Receiving.{acting, receive, messages_from, messages_in, receive_all}
use Rattle.replies.specs.Replying.{after_in, after_reply_lem}
use Rattle.replies.specs.Replies.{in_place, replies_from}
use Rattle.plan.specs.Plan.{messages}
use Rattle.host.specs.Host.{done, answer_to_add_lem, answer_to_remove_lem, answer_to_key_lem, after_add, after_remove, after_key}
use Rattle.downstream.specs.declared.Opening.{Opening}
use Rattle.downstream.specs.declared.Opening.TheVariants.{Refused, Unread, Opened}
use Rattle.downstream.specs.Partitions.{map_end_lem, messages_of}
use Rattle.downstream.specs.Opening.{opening}
use Rattle.frame.specs.Given.{Arrival, Lent, buffers_fit}
use Rattle.frame.specs.Frame as frame
use Rattle.frame.specs.Frame.{planned_in, replies_in, payload_in, found_by, next, handled, by_opening, frame_left}
use Rattle.engine.specs.Lods.{lost_left}
use Rattle.layout.specs.Offsets.{id_width, delay_width}
use Rattle.layout.specs.Typed.{Every}

-- ---- the statement

abbrev pub IsId : AllocId → Type 0
IsId id = id.0 < 256 ^ id_width

pub record Wide (serial registration : List ℕ) (link : Link) : Type 0 where
  pub serial-long : length serial ≡ serial_octets_lem
  pub registration-long : length registration ≡ registration_octets_lem
  pub key_long : length link.key.octets ≡ key_octets
  pub alloc_ids : Every IsId link.allocs.ids
  pub delay : link.delay < 256 ^ delay_width

abbrev pub Widths : Station → Type 0
Widths s = Wide s.serial s.registration s.link

-- ---- lists

module _ {A : Type 0} (P : A → Type 0) where
  every-replicate : (n : ℕ) (a : A) → P a → Every P (replicate n a)
  every-replicate zero a p = tt
  every-replicate (suc n) a p = (p, every-replicate n a p)

  every_set : (l : List A) (i : ℕ) (a : A) → P a → Every P l → Every P (set l i a)
  every_set [] i a p e = tt
  every_set (x ∷ l) zero a p (q, e) = (p, e)
  every_set (x ∷ l) (suc i) a p (q, e) = (q, every_set l i a p e)

  every_join : (l k : List A) → Every P l → Every P k → Every P (l ++ k)
  every_join [] k e f = f
  every_join (x ∷ l) k (q, e) f = (q, every_join l k e f)

  every_take : (n : ℕ) (l : List A) → Every P l → Every P (take n l)
  every_take zero l e = tt
  every_take (suc n) [] e = tt
  every_take (suc n) (x ∷ l) (q, e) = (q, every_take n l e)

  every_drop : (n : ℕ) (l : List A) → Every P l → Every P (drop n l)
  every_drop zero l e = e
  every_drop (suc n) [] e = tt
  every_drop (suc n) (x ∷ l) (q, e) = every_drop n l e

octets-drop : (n : ℕ) (l : List ℕ) → Octets l → Octets (drop n l)
octets-drop zero l o = o
octets-drop (suc n) [] o = o
octets-drop (suc n) (x ∷ l) o = octets-drop n l (λ i. o (suc i))

octets-take : (n : ℕ) (l : List ℕ) → Octets l → Octets (take n l)
octets-take zero l o = λ i. omega arith
octets-take (suc n) [] o = o
octets-take (suc n) (x ∷ l) o = go (octets-take n l (λ j. o (suc j)))
  where
    go : Octets (take n l) → (i : ℕ) → get_or (x ∷ take n l) i 0 < 256
    go rest zero = o 0
    go rest (suc i) = rest i

-- ---- what a message asks for is as wide as its octets

abbrev Content_wide : Content → Type 0
Content_wide Profile = Unit {0}
Content_wide (AssignOnuId onu serial) = Unit {0}
Content_wide (RangingTime way amount) = amount < 256 ^ delay_width
Content_wide DeactivateOnuId = Unit {0}
Content_wide (DisableSerialNumber switch serial) = Unit {0}
Content_wide RequestRegistration = Unit {0}
Content_wide (AssignAllocId id change) = IsId id
Content_wide KeyControl = Unit {0}
Content_wide SleepAllow = Unit {0}
Content_wide (Unknown type) = Unit {0}

either : (b : Bool) (x y : Content) → Content_wide x → Content_wide y → Content_wide (cond b x y)
either true x y p q = p
either false x y p q = q

content_wide : (m : List ℕ) → Octets m → Content_wide (content_of m)
unfolding content_as
content_wide m o =
    let type = type_of m in
    let amount : number32 m 6 < 256 ^ delay_width = omega (arith, o 5, o 6, o 7, o 8) in
    let id : number16 m 5 % 16384 < 256 ^ id_width = omega arith in
    let c8 = cond (eqb type layout.sleep_allow) SleepAllow (Unknown type) in
    let c7 = cond (eqb type layout.key_control) KeyControl c8 in
    let c6 = cond (eqb type layout.assign_alloc_id_lem) (AssignAllocId (alloc_in_lem m) (change_of (octet m 7))) c7 in
    let c5 = cond (eqb type layout.request_registration_lem) RequestRegistration c6 in
    let c4 = cond (eqb type layout.disable_serial_number) (DisableSerialNumber (switch_of (octet m 5)) (serial_from m 6)) c5 in
    let c3 = cond (eqb type layout.deactivate_onu_id) DeactivateOnuId c4 in
    let c2 = cond (eqb type layout.ranging_time_lem) (RangingTime (adjustment_of (octet m 5)) (number32 m 6)) c3 in
    let c1 = cond (eqb type layout.assign_onu_id_lem) (AssignOnuId (onu_in_lem m) (serial_from m 7)) c2 in
    either (eqb type layout.profile) Profile c1 tt
    (either (eqb type layout.assign_onu_id_lem) (AssignOnuId (onu_in_lem m) (serial_from m 7)) c2 tt
    (either (eqb type layout.ranging_time_lem) (RangingTime (adjustment_of (octet m 5)) (number32 m 6)) c3 amount
    (either (eqb type layout.deactivate_onu_id) DeactivateOnuId c4 tt
    (either (eqb type layout.disable_serial_number) (DisableSerialNumber (switch_of (octet m 5)) (serial_from m 6)) c5 tt
    (either (eqb type layout.request_registration_lem) RequestRegistration c6 tt
    (either (eqb type layout.assign_alloc_id_lem) (AssignAllocId (alloc_in_lem m) (change_of (octet m 7))) c7 id
    (either (eqb type layout.key_control) KeyControl c8 tt (either (eqb type layout.sleep_allow) SleepAllow (Unknown type) tt tt))))))))

-- ---- and so is what it does

abbrev Change_wide : Change → Type 0
Change_wide Keep = Unit {0}
Change_wide (Identify onu) = Unit {0}
Change_wide (Range delay) = delay < 256 ^ delay_width
Change_wide (Delay delay) = delay < 256 ^ delay_width
Change_wide (AddAlloc id) = IsId id
Change_wide (RemoveAlloc id) = Unit {0}
Change_wide (Enter a) = Unit {0}

choose : (b : Bool) (x y : Effect) → Change_wide x.change → Change_wide y.change → Change_wide (cond b x y).change
choose true x y p q = p
choose false x y p q = q

module _ (delay amount : ℕ) (p : delay < 256 ^ delay_width) (q : amount < 256 ^ delay_width) where
  answered-wide : (way : Adjustment) (seq : ℕ) → Change_wide (answered (moved way delay amount) seq).change
  answered-wide Absolute seq = q
  answered-wide Add seq = go (leb (delay + amount) most_delay) refl
    where
      go : (b : Bool) → leb (delay + amount) most_delay ≡ b → Change_wide (answered (moved Add delay amount) seq).change
      go true e = rw e (omega (arith, leb-true (delay + amount) most_delay e))
      go false e = rw e tt
  answered-wide Subtract seq = go (leb amount delay) refl
    where
      go : (b : Bool) → leb amount delay ≡ b → Change_wide (answered (moved Subtract delay amount) seq).change
      go true e = rw e (omega (arith, p))
      go false e = rw e tt

  unanswered-wide : (way : Adjustment) → Change_wide (unanswered (moved way delay amount)).change
  unanswered-wide Absolute = q
  unanswered-wide Add = go (leb (delay + amount) most_delay) refl
    where
      go : (b : Bool) → leb (delay + amount) most_delay ≡ b → Change_wide (unanswered (moved Add delay amount)).change
      go true e = rw e (omega (arith, leb-true (delay + amount) most_delay e))
      go false e = rw e tt
  unanswered-wide Subtract = go (leb amount delay) refl
    where
      go : (b : Bool) → leb amount delay ≡ b → Change_wide (unanswered (moved Subtract delay amount)).change
      go true e = rw e (omega (arith, p))
      go false e = rw e tt

ranging-wide : (state : ℕ) (broadcast : Bool) (delay seq : ℕ) (way : Adjustment) (amount : ℕ) → delay < 256 ^ delay_width → amount < 256 ^ delay_width
    → Change_wide (ranging_time_lem state broadcast delay seq way amount).change
unfolding ranging_time_lem
ranging-wide state broadcast delay seq way amount p q =
    let target = moved way delay amount in
    let first = answers (Range amount) Ok seq in
    let in-o4 = cond (eqb state o4 && absolute way) first ignored in
    choose broadcast (cond (eqb state o5 && not (absolute way)) (unanswered target) ignored) (cond (eqb state o5) (answered target seq) in-o4)
    (choose (eqb state o5 && not (absolute way)) (unanswered target) ignored (unanswered-wide delay amount p q way) tt)
    (choose (eqb state o5) (answered target seq) in-o4 (answered-wide delay amount p q way seq) (choose (eqb state o4 && absolute way) first ignored q tt))

alloc_wide : (allocs : Allocs) (seq : ℕ) (id : AllocId) (change : AllocChange) → IsId id → Change_wide (alloc_change_lem allocs seq id change).change
alloc_wide allocs seq id Assign p =
    choose (is_held (alloc_place allocs id)) (answers Keep Ok seq) (cond (leb added_allocs allocs.count) (answers Keep ProcessingError seq) (answers (AddAlloc id) Ok seq)) tt
    (choose (leb added_allocs allocs.count) (answers Keep ProcessingError seq) (answers (AddAlloc id) Ok seq) tt p)
alloc_wide allocs seq id Deallocate p = choose (is_held (alloc_place allocs id)) (answers (RemoveAlloc id) Ok seq) (answers Keep ParameterError seq) tt tt
alloc_wide allocs seq id OtherChange p = tt

off_wide : (a : Activation) → Change_wide (switch_off_lem a).change
unfolding switch_off_lem
off_wide a = choose (holds_identity_lem a || eqb (state_number a) o23) (does (Enter EmergencyStop)) ignored tt tt

on_wide : (a : Activation) → Change_wide (switch_on_lem a).change
unfolding switch_on_lem
on_wide a = choose (eqb (state_number a) o7) (does (Enter Initial)) ignored tt tt

switched-wide : (a : Activation) (own : Bool) (switch : Switch) → Change_wide (switched a own switch).change
switched-wide a own DisableOwn = choose own (switch_off_lem a) ignored (off_wide a) tt
switched-wide a own EnableOwn = choose own (switch_on_lem a) ignored (on_wide a) tt
switched-wide a own DisableAll = off_wide a
switched-wide a own EnableAll = on_wide a
switched-wide a own OtherSwitch = tt

effect_wide : (s : Station) (broadcast : Bool) (seq : ℕ) (c : Content) → s.link.delay < 256 ^ delay_width → Content_wide c → Change_wide (by_content_lem s broadcast seq c).change
unfolding assign_onu_id_lem assign_alloc_id_lem request_registration_lem deactivate disable unknown_type_lem
effect_wide s broadcast seq Profile d p = tt
effect_wide s broadcast seq (AssignOnuId onu serial) d p =
    choose (broadcast && (eqb (state_number s.activation) o23 && (same_serial_lem (serial_at_lem s.serial 0) serial && assignable_onu onu))) (does (Identify onu)) ignored tt tt
effect_wide s broadcast seq (RangingTime way amount) d p = ranging-wide (state_number s.activation) broadcast s.link.delay seq way amount d p
effect_wide s broadcast seq DeactivateOnuId d p = choose (holds_identity_lem s.activation) (does (Enter Initial)) ignored tt tt
effect_wide s broadcast seq (DisableSerialNumber switch serial) d p =
    let own = same_serial_lem (serial_at_lem s.serial 0) serial in
    choose broadcast (switched s.activation own switch) ignored (switched-wide s.activation own switch) tt
effect_wide s broadcast seq RequestRegistration d p = choose (not broadcast && eqb (state_number s.activation) o5) (owes Keep Registration seq) ignored tt tt
effect_wide s broadcast seq (AssignAllocId id change) d p =
    let does-it = alloc_change_lem s.link.allocs seq id change in
    choose (not broadcast && eqb (state_number s.activation) o5) (cond (assignable_alloc id) does-it (answers Keep ParameterError seq)) ignored
    (choose (assignable_alloc id) does-it (answers Keep ParameterError seq) (alloc_wide s.link.allocs seq id change p) tt) tt
effect_wide s broadcast seq KeyControl d p = tt
effect_wide s broadcast seq SleepAllow d p = tt
effect_wide s broadcast seq (Unknown type) d p = choose (not broadcast && eqb (state_number s.activation) o5) (answers Keep UnknownMessageType seq) ignored tt tt

-- ---- what a link that differs in one thing keeps

module _ (serial registration : List ℕ) (l : Link) (w : Wide serial registration l) where
  with-allocs : (allocs : Allocs) → Every IsId allocs.ids → Wide serial registration (with_allocs_lem l allocs)
  with-allocs allocs e =
      record { serial-long = w.serial-long; registration-long = w.registration-long; key_long = w.key_long; alloc_ids = e; delay = w.delay }

  with-delay : (delay : ℕ) → delay < 256 ^ delay_width → Wide serial registration (with_delay_lem l delay)
  with-delay delay p =
      record { serial-long = w.serial-long; registration-long = w.registration-long; key_long = w.key_long; alloc_ids = w.alloc_ids; delay = p }

  -- nothing is as wide as it should be
  of_nothing : Wide serial registration nothing
  of_nothing =
      record {
        serial-long = w.serial-long;
        registration-long = w.registration-long;
        key_long = refl;
        alloc_ids = every-replicate IsId added_allocs no_alloc (omega arith);
        delay = omega arith;
      }

added_ids : (a : Allocs) (id : AllocId) → IsId id → Every IsId a.ids → Every IsId (add_alloc a id).ids
added_ids a id p e = go (leb added_allocs a.count)
  where
    go : (b : Bool) → Every IsId (cond {A = Allocs} b a (record { ids = set a.ids a.count id; count = a.count + 1 })).ids
    go true = e
    go false = every_set IsId a.ids a.count id p e

removed_ids : (a : Allocs) (place : Option ℕ) → Every IsId a.ids → Every IsId (remove_at a place).ids
removed_ids a None e = e
removed_ids a (Some i) e =
    every_join IsId (take i a.ids) (drop (i + 1) a.ids ++ (no_alloc ∷ [])) (every_take IsId i a.ids e)
    (every_join IsId (drop (i + 1) a.ids) (no_alloc ∷ []) (every_drop IsId (i + 1) a.ids e) (omega arith, tt))

same_but : (serial registration : List ℕ) (l k : Link) → Wide serial registration l → k.key ≡ l.key → k.allocs ≡ l.allocs → k.delay ≡ l.delay → Wide serial registration k
same_but serial registration l k w a b c =
    record {
      serial-long = w.serial-long;
      registration-long = w.registration-long;
      key_long = rw a w.key_long;
      alloc_ids = rw b w.alloc_ids;
      delay = rw c w.delay;
    }

change_widths : (s : Station) (c : Change) → Widths s → Change_wide c → Widths (apply_change_lem s c)
unfolding identify range set_delay_lem
change_widths s Keep w p = w
change_widths s (Identify onu) w p = same_but s.serial s.registration s.link (with_onu_lem s.link onu) w refl refl refl
change_widths s (Range delay) w p = with-delay s.serial s.registration s.link w delay p
change_widths s (Delay delay) w p = with-delay s.serial s.registration s.link w delay p
change_widths s (AddAlloc id) w p = with-allocs s.serial s.registration s.link w (add_alloc s.link.allocs id) (added_ids s.link.allocs id p w.alloc_ids)
change_widths s (RemoveAlloc id) w p = with-allocs s.serial s.registration s.link w (remove_alloc s.link.allocs id) (removed_ids s.link.allocs (alloc_place s.link.allocs id) w.alloc_ids)
change_widths s (Enter a) w p = of_nothing s.serial s.registration s.link w

debt_widths : (s : Station) (d : Option Owed) → Widths s → Widths (apply_debt_lem s d)
debt_widths s None w = w
debt_widths s (Some answer) w = same_but s.serial s.registration s.link (with_owed_lem s.link (owe s.link.owed answer)) w refl refl refl

applied-widths : (s : Station) (e : Effect) → Widths s → Change_wide e.change → Widths (applied s e)
unfolding applied
applied-widths s e w p = debt_widths (apply_change_lem s e.change) e.debt (change_widths s e.change w p)

act-widths : (s : Station) (g : Bool) (m : Message) → Widths s → Content_wide m.content → Widths (act s g m)
unfolding act effect_of
act-widths s g m w p = go (is_ours s m) g
  where
    e : Effect
    e = by_content_lem s (is_broadcast m) m.seq m.content

    fits : (b : Bool) → Change_wide (cond b (by_content_lem s (is_broadcast m) m.seq m.content) ignored).change
    fits b = choose b (by_content_lem s (is_broadcast m) m.seq m.content) ignored (effect_wide s (is_broadcast m) m.seq m.content w.delay p) tt

    go : (a b : Bool) → Widths (cond a (cond b (applied s (fitting s.link.owed (by_content_lem s (is_broadcast m) m.seq m.content))) s) s)
    go true true = applied-widths s (fitting s.link.owed (by_content_lem s (is_broadcast m) m.seq m.content)) w (fits (room s.link.owed (by_content_lem s (is_broadcast m) m.seq m.content).debt))
    go true false = w
    go false b = w

receive-widths : (s : Station) (m : List ℕ) → Widths s → Octets m → Widths (receive s m)
unfolding receive received
receive-widths s m w o = go (ltb (length m) message_octets) (genuine (installed_key_lem s.link.key.held s.link.key.octets) m)
  where
    go : (b g : Bool) → Widths (acting s g (cond b None (Some (message_of m))))
    go true g = w
    go false g = act-widths s g (message_of m) w (content_wide m o)

messages-widths : (b : List ℕ) (i k : ℕ) (s : Station) → Octets b → Widths s → Widths (receive_all s (messages_from b i k))
messages-widths b i zero s o w = w
messages-widths b i (suc k) s o w =
    messages-widths b (i + 1) k (receive s (message_at b i)) o
    (receive-widths s (message_at b i) w (octets-take message_octets (drop (message_octets * i) b) (octets-drop (message_octets * i) b o)))

-- ---- frame times and replies

entered : (s : Station) (a : Activation) → Widths s → Widths (enter s a)
entered s a w = of_nothing s.serial s.registration s.link w

count1_widths : (s : Station) (left : ℕ) → Widths s → Widths (count_to1_lem s left)
unfolding count_to1_lem
count1_widths s left w = go (leb left 1)
  where
    go : (b : Bool) → Widths (cond b (enter s SerialNumber) (with_activation_lem s (Ranging (left - 1))))
    go true = entered s SerialNumber w
    go false = w

count2_widths : (s : Station) (left : ℕ) → Widths s → Widths (count_to2_lem s left)
unfolding count_to2_lem
count2_widths s left w = go (leb left 1)
  where
    go : (b : Bool) → Widths (cond b (enter s Initial) (with_activation_lem s (Intermittent (left - 1))))
    go true = entered s Initial w
    go false = w

end_widths : (s : Station) (b : Bool) → Widths s → Widths (frame_end_lem s b)
unfolding frame_end_lem
end_widths s b w = go s.activation b
  where
    go : (a : Activation) (b : Bool) → Widths (end_from a s b)
    go Initial b = entered s SerialNumber w
    go SerialNumber b = w
    go (Ranging left) true = count1_widths s left w
    go (Ranging left) false = w
    go Operation b = w
    go (Intermittent left) b = w
    go EmergencyStop b = w

lost_widths : (s : Station) → Widths s → Widths (lost_time_lem s)
unfolding lost_time_lem silence lost_state_lem
lost_widths s w = go s.activation
  where
    go : (a : Activation) → Widths (lost_from a s)
    go Initial = w
    go SerialNumber = entered s Initial w
    go (Ranging left) = entered s Initial w
    go Operation = w
    go (Intermittent left) = count2_widths s left w
    go EmergencyStop = w

unread-widths : (s : Station) → Widths s → Widths (unread_time_lem s)
unfolding unread_time_lem silence unread_state_lem
unread-widths s w = go s.activation
  where
    go : (a : Activation) → Widths (unread_from a s)
    go Initial = w
    go SerialNumber = w
    go (Ranging left) = count1_widths s left w
    go Operation = w
    go (Intermittent left) = count2_widths s left w
    go EmergencyStop = w

reply_widths : (s : Station) → Widths s → Widths (after_reply_lem s)
unfolding after_reply_lem
reply_widths s w = go s.activation
  where
    go : (a : Activation) → Widths (after_in a s)
    go Initial = w
    go SerialNumber = w
    go (Ranging left) = w
    go Operation = same_but s.serial s.registration s.link (with_owed_lem s.link (paid s.link.owed)) w refl refl refl
    go (Intermittent left) = w
    go EmergencyStop = w

replies-widths : (s : Station) (delay : ℕ) (b : List ℕ) (i k : ℕ) → Widths s → Widths (replies_from s delay b i k).station
replies-widths s delay b i zero w = w
replies-widths s delay b i (suc k) w = replies-widths (after_reply_lem s) delay (in_place s delay b i) (i + 1) k (reply_widths s w)

-- ---- the calls

pub power_on_widths : (serial registration : List ℕ) → length serial ≡ serial_octets_lem → length registration ≡ registration_octets_lem → Widths (power_on_lem serial registration)
power_on_widths serial registration a b =
    record {
      serial-long = a;
      registration-long = b;
      key_long = refl;
      alloc_ids = every-replicate IsId added_allocs no_alloc (omega arith);
      delay = omega arith;
    }

handled-widths : (s : Station) (h : Hlend) (a : Arrival) (lent : Lent) → Octets a.octets → Widths s → Widths (handled s h a lent).outcome.station
unfolding handled frame.done found_by next replies_in
handled-widths s h a lent o w =
    let b = messages_of h a.octets in
    end_widths (receive_all _ (messages_in b)) (is_ranging_lem s.activation)
    (messages-widths b 0 (length b / message_octets) _ (octets-take (message_octets * h.ploam) (drop (map_end_lem h) a.octets) (octets-drop (map_end_lem h) a.octets o))
    (replies-widths s a.random_delay_lem lent.replies 0 (messages (planned_in s h a)) w))

pub frame-widths : (s : Station) (a : Arrival) (lent : Lent) → Octets a.octets → Widths s → Widths (frame_left s a lent).outcome.station
unfolding frame_left
frame-widths s a lent o w = go (opening s a.octets (buffers_fit a lent))
  where
    go : (x : Opening) → Widths (by_opening x s a lent).outcome.station
    go (Refused answer) = w
    go (Unread answer) = unread-widths s w
    go (Opened h) = handled-widths s h a lent o w

settled : (b : Bool) (was next : Station) → Widths was → Widths next → Widths (cond b next was)
settled true was next w n = n
settled false was next w n = w

pub lost_call_widths : (s : Station) → Widths s → Widths (lost_left s).station
unfolding lost_left
lost_call_widths s w = go (in_range s)
  where
    go : (b : Bool) → Widths (cond {A = Outcome} (not b) (record { answer = StateOutOfRange; station = s }) (record { answer = Done; station = lost_time_lem s })).station
    go true = lost_widths s w
    go false = w

pub add-widths : (s : Station) (port : PortId) → Widths s → Widths (after_add s port).station
unfolding after_add
add-widths s port w = settled (done (answer_to_add_lem s port)) s _ w w

pub remove_widths : (s : Station) (port : PortId) → Widths s → Widths (after_remove s port).station
unfolding after_remove
remove_widths s port w = settled (done (answer_to_remove_lem s port)) s _ w w

pub key_widths : (s : Station) (octets : List ℕ) → length octets ≡ key_octets → Widths s → Widths (after_key s octets).station
unfolding after_key
key_widths s octets k w =
    settled (done (answer_to_key_lem s)) s _ w
    (record { serial-long = w.serial-long; registration-long = w.registration-long; key_long = k; alloc_ids = w.alloc_ids; delay = w.delay })
