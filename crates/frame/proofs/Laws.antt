-- What a state in range and buffers that fit give to the stages of a frame.
-- Assumes nothing.
use Prim.Native.Nat.{ℕ, suc, min, ◌+◌, ◌-◌, ◌/◌, ◌≤◌, ◌<◌}
use native.Mathlib.Omega.{arith}
use native.Mathlib.Nat.{min-eq_left}
use mathlib.Core.Path.{◌≡◌, refl, ◌∙◌, ap, ap₂}
use mathlib.Core.Bool.{Bool, true, false, cond, ◌||◌}
use mathlib.Core.List.{List, [], ◌∷◌}
use lib.Dec.{leb, eqb}
use lib.ListN.{length, get_or, take, drop}
use borrow.Author.Tests.{leb-true, le-leb, eqb-true}
use Rattle.std.specs.Prelude.{Option, Some}
use Rattle.ids.specs.declared.PortId.{PortId}
use Rattle.ids.specs.Ids.{management_port_lem}
use Rattle.station.specs.declared.Station.{Station}
use Rattle.answers.specs.declared.Answer.{Answer}
use Rattle.station.specs.Station.{with_ports_lem, with_carried_lem}
use Rattle.timing.specs.Timing.{frame_end_lem}
use Rattle.messages.specs.Receiving.{receive_all, messages_in}
use Rattle.replies.specs.Replies as replied
use Rattle.replies.specs.Replies.{Replied, replies_from}
use Rattle.xgtc.specs.declared.hlend.Hlend.{Hlend}
use Rattle.ports.specs.Limits.{slots, slot_bytes}
use Rattle.validity.specs.Ranges.{in_range, identity_fits_lem, allocs_fit_lem, ports_fit_lem, slot_fits, empty_slot, partial_fits, partials_fit_lem}
use Rattle.validity.proofs.Tests.{both, join}
use Rattle.validity.proofs.Every.{every_get}
use Rattle.ploam.specs.Layout.{message_octets}
use Rattle.entries.specs.declared.Own.{Own}
use Rattle.bwmap.specs.declared.Plan.{Plan}
use Rattle.plan.specs.Limits.{plan_numbers}
use Rattle.series.specs.Series.{Series, planned_of}
use Rattle.bwmap.specs.Plan as whole
use Rattle.plan.specs.Records.{mark}
use Rattle.plan.specs.Plan.{messages, written}
use Rattle.bwmap.specs.Plan.{counted, MapLeaves, PlanLeft}
use Rattle.bwmap.proofs.Kept.{bursts-most}
use Rattle.payload.specs.Walk.{Walked, memory_bytes, all_within_lem, fit, receive_of}
use Rattle.frame.specs.Given.{Arrival, Lent, reply_octets, enough, buffers_fit}
use Rattle.payload.specs.declared.walk.Received.{Received}
use Rattle.payload.proofs.Fit.{walked}
use Rattle.downstream.specs.Partitions.{hlend_octets, map_end_lem, header_end_lem, map_of, messages_of, payload_of}
use Rattle.downstream.proofs.Laws.{map-part, messages-part, payload_part}
use Rattle.station.specs.States.{is_operating_lem, is_ranging_lem}
use Rattle.frame.specs.Frame.{own_of, plan_of, planned_in, replies_in, walked_from, payload_in, found_by, next, answer_to_lem, done, handled}

-- ---- the buffers, one by one

pub record Room (a : Arrival) (lent : Lent) : Type 0 where
  pub memory : memory_bytes ≤ length lent.memory
  pub plan : plan_numbers ≤ length lent.plan
  pub replies : reply_octets ≤ length lent.replies
  pub deliveries : length a.octets + memory_bytes ≤ length lent.deliveries

pub room : (a : Arrival) (lent : Lent) → buffers_fit a lent ≡ true → Room a lent
unfolding enough
room a lent h =
    let x1 = both (leb memory_bytes (length lent.memory)) _ h in
    let x2 = both (leb plan_numbers (length lent.plan)) _ x1.1 in
    let x3 = both (leb reply_octets (length lent.replies)) _ x2.1 in
    record {
      memory = leb-true _ _ x1.0;
      plan = leb-true _ _ x2.0;
      replies = leb-true _ _ x3.0;
      deliveries = leb-true _ _ x3.1;
    }

-- ---- the plan: long enough, so it is never refused

in_full
    : (own : Own) (m : List ℕ) (carried : ℕ) (plan : List ℕ) → plan_numbers ≤ length plan
    → whole.plan_of own m carried plan ≡ record { answer = Some (counted carried (planned_of own m carried)); plan = written (planned_of own m carried) plan }
in_full own m carried plan h = rw (le-leb plan_numbers (length plan) h)

pub planned_fully
    : (own : Own) (m : List ℕ) (carried : ℕ) (plan : List ℕ) (answer : Option Plan) (left : List ℕ) → plan_numbers ≤ length plan
    → MapLeaves own m carried plan answer left
    → (plan_of answer ≡ counted carried (planned_of own m carried)) × (left ≡ written (planned_of own m carried) plan)
planned_fully own m carried plan answer left h e =
    let full = e ∙ in_full own m carried plan h in
    (ap (λ (x : PlanLeft). plan_of x.answer) full, ap (λ (x : PlanLeft). x.plan) full)

-- ---- the replies: room for as many as can be planned

pub messages-few : (l : List Series) → messages l ≤ length l
messages-few [] = omega arith
messages-few (s ∷ l) = step s.head.ploamu (messages l) (length l) (messages-few l)
  where
    step : (b : Bool) (m n : ℕ) → m ≤ n → mark b 1 + m ≤ suc n
    step true m n h = omega arith
    step false m n h = omega arith

-- the buffer holds a reply for every burst that can be planned, so that all are written
pub all_replied
    : (own : Own) (m : List ℕ) (carried : ℕ) (b : List ℕ) → reply_octets ≤ length b
    → min (messages (planned_of own m carried)) (length b / message_octets) ≡ messages (planned_of own m carried)
all_replied own m carried b h =
    let few = messages-few (planned_of own m carried) in
    let most = bursts-most own m carried in
    let places : 4 ≤ length b / message_octets = omega arith in
    min-eq_left (omega arith)

-- ---- the payload: partials of a state in range lie within their slots

partial-most : (bytes : ℕ) (waits empty : Bool) → partial_fits bytes waits empty ≡ true → leb bytes slot_bytes ≡ true
unfolding partial_fits
partial-most bytes waits empty h = go (waits || empty) h
  where
    go : (b : Bool) → cond b (eqb bytes 0) (leb bytes slot_bytes) ≡ true → leb bytes slot_bytes ≡ true
    go true e = le-leb bytes slot_bytes (omega (arith, eqb-true bytes 0 e))
    go false e = e

slot_most : (ids : List PortId) (lengths : List ℕ) (waiting : List Bool) (i : ℕ) → slot_fits ids lengths waiting i ≡ true → leb (get_or lengths i 0) slot_bytes ≡ true
unfolding slot_fits
slot_most ids lengths waiting i h = partial-most (get_or lengths i 0) (get_or waiting i false) (empty_slot ids i) h

slot_of
    : (ids : List PortId) (lengths : List ℕ) (waiting : List Bool) → partials_fit_lem ids lengths waiting ≡ true → (i : ℕ) → i < slots
    → slot_fits ids lengths waiting i ≡ true
unfolding partials_fit_lem
slot_of ids lengths waiting h i q =
    let z : 0 + i ≡ i = omega arith in
    rw z at (every_get (slot_fits ids lengths waiting) 0 slots h i q)

within_all : (l : List ℕ) → ((i : ℕ) → i < length l → leb (get_or l i 0) slot_bytes ≡ true) → all_within_lem l ≡ true
within_all [] h = refl
within_all (n ∷ l) h = join (leb n slot_bytes) (all_within_lem l) (h 0 (omega arith)) (within_all l (λ i q. h (suc i) (omega arith)))

pub partials_within : (s : Station) → length s.ports.lengths ≡ slots → in_range s ≡ true → all_within_lem s.ports.lengths ≡ true
unfolding in_range
partials_within s long h =
    let x1 = both (identity_fits_lem s.activation s.link.onu) _ h in
    let x2 = both (allocs_fit_lem s.link.allocs) _ x1.1 in
    let x3 = both (ports_fit_lem s.ports.ids) _ x2.1 in
    let x4 = both (partials_fit_lem s.ports.ids s.ports.lengths s.ports.waiting) _ x3.1 in
    within_all s.ports.lengths
    (λ i q. slot_most s.ports.ids s.ports.lengths s.ports.waiting i
    (slot_of s.ports.ids s.ports.lengths s.ports.waiting x4.0 i (omega (arith, long))))

pub payload_fits
    : (s : Station) (memory deliveries payload : List ℕ) → length s.ports.lengths ≡ slots → in_range s ≡ true → memory_bytes ≤ length memory
    → length payload + memory_bytes ≤ length deliveries → fit s.ports memory deliveries payload ≡ true
payload_fits s memory deliveries payload long h room space =
    rw (partials_within s long h, le-leb memory_bytes (length memory) room) (le-leb (length payload + memory_bytes) (length deliveries) space)

pub payload_received
    : (s : Station) (place : ℕ) (payload memory deliveries : List ℕ) (own : PortId) (w : Walked) → length s.ports.lengths ≡ slots
    → in_range s ≡ true → memory_bytes ≤ length memory → length payload + memory_bytes ≤ length deliveries
    → is_operating_lem s.activation ≡ true → own ≡ management_port_lem s.link.onu → w ≡ receive_of s.ports own memory deliveries place payload
    → w ≡ walked_from s place payload memory deliveries
payload_received s place payload memory deliveries own w long h room space operates mine e =
    e
    ∙ ap (λ (o : PortId). receive_of s.ports o memory deliveries place payload) mine
    ∙ rw (payload_fits s memory deliveries payload long h room space, operates)

-- ---- the frame, from its stages

module _ (s : Station) (h : Hlend) (a : Arrival) (lent : Lent) where
  -- each stage's outcome by its own contract, in the order of the frame
  from-stages
      : (p : Plan) (plan replies memory deliveries : List ℕ) (sent : Station) (r : Received) (ended : Station) (answer : Answer) → Room a lent
      → p ≡ counted s.carried (planned_of (own_of s) (map_of h a.octets) s.carried) → plan ≡ written (planned_of (own_of s) (map_of h a.octets) s.carried) lent.plan
      → Replied s p.messages a.random_delay_lem lent.replies (record { station = sent; octets = replies })
      → walked memory deliveries r ≡ walked_from s (header_end_lem h) (payload_of h a.octets) lent.memory lent.deliveries
      → ended ≡ frame_end_lem (receive_all (with_carried_lem (with_ports_lem sent r.ports) p.carried) (messages_in (messages_of h a.octets))) (is_ranging_lem s.activation)
      → answer ≡ answer_to_lem r.delineation
      → record {
        outcome = record { answer = answer; station = ended };
        counts = record { records = p.records; replies = p.messages; bytes = r.bytes };
        lent = record { memory = memory; plan = plan; replies = replies; deliveries = deliveries };
      } ≡ handled s h a lent
  unfolding handled done planned_in replies_in payload_in found_by next
  from-stages p plan replies memory deliveries sent r ended answer room eP ePlan eR eW eS eA =
      let own = own_of s in
      let m = map_of h a.octets in
      let n : min p.messages (length lent.replies / message_octets) ≡ messages (planned_of own m s.carried)
      = ap (λ (x : Plan). min x.messages (length lent.replies / message_octets)) eP ∙ all_replied own m s.carried lent.replies room.replies in
      let eR' : record { station = sent; octets = replies } ≡ replies_from s a.random_delay_lem lent.replies 0 (messages (planned_of own m s.carried))
      = eR ∙ ap (replies_from s a.random_delay_lem lent.replies 0) n in
      rw (
        eS,
        eA,
        ePlan,
        ap (λ (x : replied.RepliesLeft). x.station) eR',
        ap (λ (x : replied.RepliesLeft). x.octets) eR',
        ap (λ (x : Walked). x.receiver.ports) eW,
        ap (λ (x : Walked). x.receiver.bytes) eW,
        ap (λ (x : Walked). x.receiver.memory) eW,
        ap (λ (x : Walked). x.receiver.deliveries) eW,
        ap (λ (x : Walked). x.delineation) eW,
        eP,
      )

  -- the same of the partitions by the ends that were computed, and of the station step by step
  pub from-ends
      : (m e : ℕ) → m ≡ map_end_lem h → e ≡ header_end_lem h
      → (p : Plan) (plan replies memory deliveries : List ℕ) (sent : Station) (r : Received) (ported found acted : Station) (ranging : Bool) (ended : Station) (answer : Answer)
      → Room a lent
      → p ≡ counted s.carried (planned_of (own_of s) (take (m - hlend_octets) (drop hlend_octets a.octets)) s.carried)
      → plan ≡ written (planned_of (own_of s) (take (m - hlend_octets) (drop hlend_octets a.octets)) s.carried) lent.plan
      → Replied s p.messages a.random_delay_lem lent.replies (record { station = sent; octets = replies })
      → walked memory deliveries r ≡ walked_from s e (take (length a.octets - e) (drop e a.octets)) lent.memory lent.deliveries
      → ported ≡ with_ports_lem sent r.ports → found ≡ with_carried_lem ported p.carried → acted ≡ receive_all found (messages_in (take (e - m) (drop m a.octets)))
      → ranging ≡ is_ranging_lem s.activation → ended ≡ frame_end_lem acted ranging → answer ≡ answer_to_lem r.delineation
      → record {
        outcome = record { answer = answer; station = ended };
        counts = record { records = p.records; replies = p.messages; bytes = r.bytes };
        lent = record { memory = memory; plan = plan; replies = replies; deliveries = deliveries };
      } ≡ handled s h a lent
  from-ends m e em ee p plan replies memory deliveries sent r ported found acted ranging ended answer room eP ePlan eR eW eT eF eM eG eS eA =
      let map = map-part h a.octets m em in
      let rest = payload_part h a.octets e ee in
      let found-is : found ≡ with_carried_lem (with_ports_lem sent r.ports) p.carried = eF ∙ ap (λ (x : Station). with_carried_lem x p.carried) eT in
      let acted-is : acted ≡ receive_all (with_carried_lem (with_ports_lem sent r.ports) p.carried) (messages_in (messages_of h a.octets))
      = eM ∙ ap₂ receive_all found-is (ap messages_in (messages-part h a.octets m e em ee)) in
      from-stages p plan replies memory deliveries sent r ended answer room
      (eP ∙ ap (λ (x : List ℕ). counted s.carried (planned_of (own_of s) x s.carried)) map)
      (ePlan ∙ ap (λ (x : List ℕ). written (planned_of (own_of s) x s.carried) lent.plan) map)
      eR
      (eW
      ∙ ap (λ (k : ℕ). walked_from s k (take (length a.octets - e) (drop e a.octets)) lent.memory lent.deliveries) ee
      ∙ ap (λ (x : List ℕ). walked_from s (header_end_lem h) x lent.memory lent.deliveries) rest)
      (eS ∙ ap₂ frame_end_lem acted-is eG)
      eA
