-- An inert message leaves the state as it is, in every state and under every key, so that it may be passed over.
-- Assumes nothing.
use Prim.Native.Nat.{ℕ, zero, suc, ◌+◌, ◌-◌, ◌≤◌, ◌<◌}
use mathlib.Core.Path.{◌≡◌, ◌∙◌, refl, sym, ap}
use mathlib.Core.Bool.{Bool, true, false, ◌&&◌, not, cond, false≢true}
use mathlib.Core.List.{List}
use native.Mathlib.Omega.{arith}
use lib.Dec.{eqb, ltb, leb}
use lib.ListN.{length}
use Rattle.std.specs.Prelude.{None, Option, Some, ℕ}
use Rattle.ids.specs.declared.OnuId.{OnuId}
use Rattle.ids.specs.declared.AllocId.{AllocId}
use Rattle.ids.specs.Ids.{same_onu, broadcast_onu, assignable_alloc}
use Rattle.cmac.specs.declared.Prepared.{Prepared}
use Rattle.ploam.specs.declared.AllocChange.{AllocChange}
use Rattle.ploam.specs.declared.AllocChange.TheVariants.{Assign, Deallocate, OtherChange}
use Rattle.ploam.specs.declared.Content.{Content}
use Rattle.ploam.specs.declared.Content.TheVariants.{Profile, AssignOnuId, RangingTime, DeactivateOnuId, DisableSerialNumber, RequestRegistration, AssignAllocId, KeyControl, SleepAllow, Unknown}
use Rattle.ploam.specs.declared.Message.{Message}
use Rattle.ploam.specs.Layout.{message_octets, message_at, address_of, type_of}
use Rattle.ploam.specs.Reading.{content_as, message_of, received}
use Rattle.station.specs.declared.Station.{Station}
use Rattle.link.specs.declared.Allocs.{Allocs}
use Rattle.link.specs.declared.Queue.{Queue}
use Rattle.link.specs.declared.Response.{Response}
use Rattle.link.specs.declared.Response.TheVariants.{Registration, Acknowledgement}
use Rattle.ploam.specs.declared.Completion.TheVariants.{Ok, UnknownMessageType, ParameterError, ProcessingError}
use Rattle.station.specs.States.{state_number, o4, o5}
use Rattle.link.specs.Link.{alloc_place}
use Rattle.link.specs.Limits.{added_allocs}
use Rattle.effects.specs.declared.Change.{Change}
use Rattle.effects.specs.declared.Change.TheVariants.{Keep, Range, AddAlloc, RemoveAlloc}
use Rattle.effects.specs.declared.Effect.{Effect}
use Rattle.effects.specs.Effects.{ignored, owes, is_ignored_lem}
use Rattle.decisions.specs.Ranging.{absolute, moved, answered, ranging_time_lem}
use Rattle.ids.specs.Places.{is_held}
use Rattle.decisions.specs.Decisions.{assign_onu_id_lem, alloc_change_lem, assign_alloc_id_lem, request_registration_lem, disable, unknown_type_lem, by_content_lem, is_broadcast, is_ours, effect_of, fitting, decision}
use Rattle.decisions.specs.Acts.{act}
use Rattle.decisions.proofs.Acting.{act-ignored}
use Rattle.messages.specs.Receiving.{acting, receive, messages_from, receive_all, received_by, received_each_by}
use Rattle.messages.specs.Inert.{full_of, inert, past_inert_lem}
use Rattle.messages.proofs.Receiving.{each_turn}

-- ---- what is directed owes an answer or does nothing, all but Deactivate_ONU-ID

abbrev deactivates : Content → Bool
deactivates Profile = false
deactivates (AssignOnuId onu serial) = false
deactivates (RangingTime way amount) = false
deactivates DeactivateOnuId = true
deactivates (DisableSerialNumber switch serial) = false
deactivates RequestRegistration = false
deactivates (AssignAllocId id change) = false
deactivates KeyControl = false
deactivates SleepAllow = false
deactivates (Unknown type) = false

-- an effect for which there is no room, or that does nothing
unfoldable Refused : Queue → Effect → Type 0
Refused q e = is_ignored_lem (fitting q e) ≡ true

nothing : (q : Queue) → Refused q ignored
unfolding Refused
nothing q = refl

either : (q : Queue) (b : Bool) (x y : Effect) → Refused q x → Refused q y → Refused q (cond b x y)
either q true x y p r = p
either q false x y p r = r

module _ (q : Queue) (h : full_of q ≡ true) where
  no_room : (change : Change) (response : Response) (seq : ℕ) → Refused q (owes change response seq)
  unfolding Refused
  no_room change response seq = rw h

  answered-refused : (to : Option ℕ) (seq : ℕ) → Refused q (answered to seq)
  answered-refused (Some delay) seq = no_room _ _ seq
  answered-refused None seq = no_room _ _ seq

  alloc_refused : (allocs : Allocs) (seq : ℕ) (id : AllocId) (change : AllocChange) → Refused q (alloc_change_lem allocs seq id change)
  alloc_refused allocs seq id Assign =
      either q (is_held (alloc_place allocs id)) _ _ (no_room Keep (Acknowledgement Ok) seq)
      (either q (leb added_allocs allocs.count) _ _ (no_room Keep (Acknowledgement ProcessingError) seq) (no_room (AddAlloc id) (Acknowledgement Ok) seq))
  alloc_refused allocs seq id Deallocate =
      either q (is_held (alloc_place allocs id)) _ _ (no_room (RemoveAlloc id) (Acknowledgement Ok) seq) (no_room Keep (Acknowledgement ParameterError) seq)
  alloc_refused allocs seq id OtherChange = no_room Keep (Acknowledgement ParameterError) seq

  directed_refused : (s : Station) (seq : ℕ) (c : Content) → deactivates c ≡ false → Refused q (by_content_lem s false seq c)
  unfolding assign_onu_id_lem ranging_time_lem disable request_registration_lem assign_alloc_id_lem unknown_type_lem
  directed_refused s seq Profile e = nothing q
  directed_refused s seq (AssignOnuId onu serial) e = nothing q
  directed_refused s seq (RangingTime way amount) e =
      let state = state_number s.activation in
      either q (eqb state o5) _ _ (answered-refused (moved way s.link.delay amount) seq)
      (either q (eqb state o4 && absolute way) _ _ (no_room (Range amount) (Acknowledgement Ok) seq) (nothing q))
  directed_refused s seq DeactivateOnuId e = absurd (false≢true (sym e))
  directed_refused s seq (DisableSerialNumber switch serial) e = nothing q
  directed_refused s seq RequestRegistration e = either q (eqb (state_number s.activation) o5) _ _ (no_room Keep Registration seq) (nothing q)
  directed_refused s seq (AssignAllocId id change) e =
      either q (eqb (state_number s.activation) o5) _ _
      (either q (assignable_alloc id) _ _ (alloc_refused s.link.allocs seq id change) (no_room Keep (Acknowledgement ParameterError) seq))
      (nothing q)
  directed_refused s seq KeyControl e = nothing q
  directed_refused s seq SleepAllow e = nothing q
  directed_refused s seq (Unknown type) e =
      either q (eqb (state_number s.activation) o5) _ _ (no_room Keep (Acknowledgement UnknownMessageType) seq) (nothing q)

neither : (b : Bool) (x y : Content) → deactivates x ≡ false → deactivates y ≡ false → deactivates (cond b x y) ≡ false
neither true x y p q = p
neither false x y p q = q

type_told : (type : ℕ) (m : List ℕ) → eqb type 5 ≡ false → deactivates (content_as type m) ≡ false
unfolding content_as
type_told type m e =
    neither (eqb type 1) _ _ refl (neither (eqb type 3) _ _ refl (neither (eqb type 4) _ _ refl
    (rw e (neither (eqb type 6) _ _ refl (neither (eqb type 9) _ _ refl (neither (eqb type 10) _ _ refl
    (neither (eqb type 13) _ _ refl (neither (eqb type 18) _ _ refl refl))))))))

-- an address that the code reads and compares
pub told
    : (to other : OnuId) (a b : OnuId) (r x : Bool) → to ≡ a → other ≡ b → r ≡ same_onu to other → r ≡ x → same_onu a b ≡ x
told to other a b r x e f g h =
    ap (λ (o : OnuId). same_onu o b) (sym e) ∙ ap (same_onu to) (sym f) ∙ sym g ∙ h

-- ---- so an inert message does nothing

act_other : (s : Station) (g : Bool) (m : Message) → is_broadcast m ≡ false → same_onu m.address s.link.onu ≡ false → act s g m ≡ s
unfolding act is_ours
act_other s g m p q = rw (p, q)

decided : (s : Station) (m : Message) → Refused s.link.owed (effect_of s m) → is_ignored_lem (decision s m) ≡ true
unfolding decision Refused
decided s m h = go (is_ours s m)
  where
    go : (b : Bool) → is_ignored_lem (cond b (fitting s.link.owed (effect_of s m)) ignored) ≡ true
    go true = h
    go false = refl

act_full
    : (s : Station) (g : Bool) (m : Message) → is_broadcast m ≡ false → full_of s.link.owed ≡ true → deactivates m.content ≡ false
    → act s g m ≡ s
unfolding effect_of
act_full s g m p f d = act-ignored s g m (decided s m (rw p (directed_refused s.link.owed f s m.seq m.content d)))

act-inert : (s : Station) (g : Bool) (m : List ℕ) → inert s.link.onu (full_of s.link.owed) m ≡ true → act s g (message_of m) ≡ s
unfolding inert is_broadcast
act-inert s g m h =
    go (same_onu (address_of m) broadcast_onu) refl (same_onu (address_of m) s.link.onu) refl (full_of s.link.owed) refl (eqb (type_of m) 5) refl h
  where
    go
        : (p : Bool) → same_onu (address_of m) broadcast_onu ≡ p → (q : Bool) → same_onu (address_of m) s.link.onu ≡ q
        → (f : Bool) → full_of s.link.owed ≡ f → (d : Bool) → eqb (type_of m) 5 ≡ d
        → cond p false (cond q (cond f (not d) false) true) ≡ true → act s g (message_of m) ≡ s
    go true ep q eq f ef d ed h = absurd (false≢true h)
    go false ep false eq f ef d ed h = act_other s g (message_of m) ep eq
    go false ep true eq false ef d ed h = absurd (false≢true h)
    go false ep true eq true ef true ed h = absurd (false≢true h)
    go false ep true eq true ef false ed h = act_full s g (message_of m) ep ef (type_told (type_of m) m ed)

acting-inert : (s : Station) (g : Bool) (m : List ℕ) → inert s.link.onu (full_of s.link.owed) m ≡ true → acting s g (received m) ≡ s
unfolding received
acting-inert s g m h = go (ltb (length m) message_octets)
  where
    go : (b : Bool) → acting s g (cond b None (Some (message_of m))) ≡ s
    go true = refl
    go false = act-inert s g m h

pub receive-inert : (s : Station) (m : List ℕ) → inert s.link.onu (full_of s.link.owed) m ≡ true → receive s m ≡ s
unfolding receive
receive-inert s m h = acting-inert s _ m h

pub inert-leaves
    : (usual installed : Prepared) (s : Station) (m : List ℕ) → inert s.link.onu (full_of s.link.owed) m ≡ true
    → received_by usual installed s m ≡ s
unfolding received_by
inert-leaves usual installed s m h = acting-inert s _ m h

-- ---- and the messages from the next that may act on are all that there is to do

module _ (onu : OnuId) (full : Bool) (b : List ℕ) where
  pub past_from : (k i : ℕ) → i ≤ past_inert_lem onu full b i k
  past_from zero i = omega arith
  past_from (suc k) i = go (inert onu full (message_at b i)) (past_inert_lem onu full b (i + 1) k) (past_from k (i + 1))
    where
      go : (x : Bool) (r : ℕ) → i + 1 ≤ r → i ≤ cond x r i
      go true r h = omega arith
      go false r h = omega arith

  pub past-turn
      : (n i : ℕ) → i < n → inert onu full (message_at b i) ≡ true
      → past_inert_lem onu full b (i + 1) (n - (i + 1)) ≡ past_inert_lem onu full b i (n - i)
  past-turn n i h e = let k : n - i ≡ suc (n - (i + 1)) = omega arith in rw (k, e)

  pub past-found : (n i : ℕ) → i < n → inert onu full (message_at b i) ≡ false → i ≡ past_inert_lem onu full b i (n - i)
  past-found n i h e = let k : n - i ≡ suc (n - (i + 1)) = omega arith in rw (k, e)

  pub past_end : (n i : ℕ) → n ≤ i → i ≡ past_inert_lem onu full b i (n - i)
  past_end n i h = let k : n - i ≡ 0 = omega arith in rw k

  module _ (usual installed : Prepared) (s : Station) (eo : onu ≡ s.link.onu) (ef : full ≡ full_of s.link.owed) where
    abbrev After : ℕ → ℕ → Station
    After i k = received_each_by usual installed s (messages_from b i k)

    pub passed_over : (n k i : ℕ) → k ≡ n - i → After (past_inert_lem onu full b i k) (n - past_inert_lem onu full b i k) ≡ After i k
    passed_over n zero i e = ap (After i) (sym e)
    passed_over n (suc k) i e =
        go (inert onu full (message_at b i)) refl (past_inert_lem onu full b (i + 1) k) (passed_over n k (i + 1) (omega arith))
      where
        go
            : (x : Bool) → inert onu full (message_at b i) ≡ x → (r : ℕ) → After r (n - r) ≡ After (i + 1) k
            → After (cond x r i) (n - cond x r i) ≡ After i (suc k)
        go true h r p =
            let l : inert s.link.onu (full_of s.link.owed) (message_at b i) ≡ true = rw (sym eo, sym ef) h in
            p ∙ ap (λ (x : Station). received_each_by usual installed x (messages_from b (i + 1) k)) (sym (inert-leaves usual installed s (message_at b i) l))
        go false h r p = ap (After i) (sym e)

-- ---- one turn: a message, and past the inert ones after it

module _ (usual installed : Prepared) (b : List ℕ) (n i j : ℕ) (r : Station) (full : Bool) (ej : j ≡ past_inert_lem r.link.onu full b (i + 1) (n - (i + 1))) where
  pub turn_on : i + 1 ≤ j
  turn_on = rw ej (past_from r.link.onu full b (n - (i + 1)) (i + 1))

  pub turn-passed
      : (s : Station) → i < n → r ≡ received_by usual installed s (message_at b i) → full ≡ full_of r.link.owed
      → received_each_by usual installed r (messages_from b j (n - j)) ≡ received_each_by usual installed s (messages_from b i (n - i))
  turn-passed s h er ef =
      ap (λ (k : ℕ). received_each_by usual installed r (messages_from b k (n - k))) ej
      ∙ passed_over r.link.onu full b usual installed r refl ef n (n - (i + 1)) (i + 1) refl
      ∙ each_turn usual installed b n i s r h er

-- ---- the whole: from the first message that may act on, or nothing where there is none

module _ (b : List ℕ) (n first : ℕ) (s : Station) (full : Bool) (ef : full ≡ full_of s.link.owed) (e : first ≡ past_inert_lem s.link.onu full b 0 (n - 0)) where
  pub start-passed
      : (usual installed : Prepared)
      → received_each_by usual installed s (messages_from b first (n - first)) ≡ received_each_by usual installed s (messages_from b 0 n)
  start-passed usual installed =
      let z : n - 0 ≡ n = omega arith in
      ap (λ (k : ℕ). received_each_by usual installed s (messages_from b k (n - k))) e
      ∙ passed_over s.link.onu full b usual installed s refl ef n (n - 0) 0 refl
      ∙ ap (λ (k : ℕ). received_each_by usual installed s (messages_from b 0 k)) z

  all_inert : (k i : ℕ) → i + k ≤ past_inert_lem s.link.onu full b i k → receive_all s (messages_from b i k) ≡ s
  all_inert zero i h = refl
  all_inert (suc k) i h = go (inert s.link.onu full (message_at b i)) refl (past_inert_lem s.link.onu full b (i + 1) k) h (λ g. all_inert k (i + 1) g)
    where
      go
          : (x : Bool) → inert s.link.onu full (message_at b i) ≡ x → (r : ℕ) → i + suc k ≤ cond x r i
          → (i + 1 + k ≤ r → receive_all s (messages_from b (i + 1) k) ≡ s)
          → receive_all (receive s (message_at b i)) (messages_from b (i + 1) k) ≡ s
      go true p r g rest =
          let l : inert s.link.onu (full_of s.link.owed) (message_at b i) ≡ true = rw (sym ef) p in
          ap (λ (x : Station). receive_all x (messages_from b (i + 1) k)) (receive-inert s (message_at b i) l) ∙ rest (omega arith)
      go false p r g rest = absurd (omega arith)

  pub none_acts : n ≤ first → s ≡ receive_all s (messages_from b 0 n)
  none_acts h =
      let z : n - 0 ≡ n = omega arith in
      let f : first ≡ past_inert_lem s.link.onu full b 0 n = e ∙ ap (past_inert_lem s.link.onu full b 0) z in
      sym (all_inert n 0 (omega (arith, f, h)))
