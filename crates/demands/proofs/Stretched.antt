-- Where a stretch is not empty it is the delivery of its number that the frame call leaves, and its answer is the frame call's.
-- Assumes nothing.
use Prim.Native.Nat.{ℕ, zero, suc, ◌+◌, ◌*◌, ◌^◌, ◌<◌, ◌≤◌}
use native.Mathlib.Omega.{arith}
use mathlib.Core.Path.{◌≡◌, ◌∙◌, refl, sym, ap, ap₂}
use mathlib.Core.Logic.{◌⊎◌, inl, inr}
use mathlib.Core.Bool.{Bool, true, false, not, cond, ◌&&◌}
use mathlib.Core.List.{List, [], ◌∷◌, ◌++◌}
use lib.Dec.{leb}
use lib.ListN.{length, get_or, take, drop, length-append, length-take}
use lib.Seq.{take_at, drop_at, drop-drop}
use borrow.Author.Tests.{le-leb, leb-true}
use Rattle.ids.specs.declared.PortId.{PortId}
use Rattle.ids.specs.Ids.{management_port_lem}
use Rattle.octets.specs.Octets.{value, octets}
use Rattle.octets.proofs.Numbers.{value-octets}
use Rattle.xgtc.specs.declared.hlend.Hlend.{Hlend}
use Rattle.xgem.specs.Reads.{Found, fields, unreadable, short}
use Rattle.xgtc.specs.Reads.{read_hlend_lem}
use Rattle.station.specs.declared.Station.{Station}
use Rattle.answers.specs.declared.Answer.{Answer}
use Rattle.answers.specs.declared.Answer.TheVariants.{Done, StateOutOfRange, FrameLengthUnfit, BufferTooShort, HeaderTooLong}
use Rattle.answers.specs.Answers.{answer_number}
use Rattle.station.specs.States.{is_operating_lem}
use Rattle.ports.specs.Limits.{added_ports, slot_bytes}
use Rattle.validity.specs.Ranges.{in_range}
use Rattle.invariants.proofs.InRange.{Sound}
use Rattle.fragments.specs.declared.Reassembly.{Reassembly}
use Rattle.fragments.specs.declared.Reassembly.TheVariants.{Ignored, Dropped, Delivered, Appended}
use Rattle.fragments.specs.Fragments.{reassembly_of_lem}
use Rattle.fragments.specs.Within.{Within}
use Rattle.payload.specs.Frames.{Xgem, parse}
use Rattle.payload.specs.Memory.{Receiver, delivery, partial, step}
use Rattle.payload.specs.Deliveries.{delivery_of, deliveries_of}
use Rattle.payload.proofs.Steps.{within-taken, ids_taken}
use Rattle.stretches.specs.declared.Extent.{Extent}
use Rattle.stretches.specs.Stretch.{no_extent, sdu_of, sdus, stretch_of}
use Rattle.stretches.proofs.OwnStretch.{stretch_is_delivery}
use Rattle.downstream.specs.declared.Opening.TheVariants.{Refused, Unread, Opened}
use Rattle.downstream.specs.Lengths.{length_fits_lem}
use Rattle.downstream.specs.Partitions.{header_end_lem, payload_of}
use Rattle.downstream.specs.Opening.{by_hlend_lem, opening}
use Rattle.frame.specs.Given.{Arrival, Lent, buffers_fit}
use Rattle.frame.specs.Frame.{FrameLeft, payload_in, done, handled, by_opening, frame_left}
use Rattle.frame.proofs.Laws.{room}
use Rattle.engine.specs.declared.stretching.StretchPlace.{StretchPlace}
use Rattle.engine.specs.Stretch.{empty, told, place_in, place_by, stretch_place_lem}
use Rattle.engine.specs.Answers.{lost_in}
use Rattle.engine.specs.Counts.{receiving, xgem_frames}
use Rattle.engine.proofs.TrulyCounted.{received}
use Rattle.engine.proofs.Table.{done_answer}
use Rattle.demands.specs.Promises.{length_in, sdus_in, delivered, Stretched}
use Rattle.demands.proofs.MeetsDemand1.{place_answer}

-- ---- deliveries are read back as the SDUs that were delivered

one_back : (port : PortId) (sdu rest : List ℕ) (n : ℕ) → length sdu < 256 ^ 2 → sdus_in (suc n) (delivery port sdu ++ rest) ≡ sdu ∷ sdus_in n rest
unfolding delivery
one_back port sdu rest n h =
    let d = delivery port sdu ++ rest in
    let four : leb 4 (length d) ≡ true = le-leb 4 (length d) (omega arith) in
    let l : length_in d ≡ length sdu = value-octets 2 (length sdu) h in
    let first : take (length_in d) (drop 4 d) ≡ sdu = ap (λ (k : ℕ). take k (sdu ++ rest)) l ∙ take_at sdu rest (length sdu) refl in
    let behind : drop (4 + length_in d) d ≡ rest = sym (drop-drop (length_in d) 4 d) ∙ ap (λ (k : ℕ). drop k (sdu ++ rest)) l ∙ drop_at sdu rest (length sdu) refl in
    rw four (ap₂ ◌∷◌ first (ap (sdus_in n) behind))

none_back : (n : ℕ) → sdus_in n [] ≡ []
none_back zero = refl
none_back (suc n) = refl

partial-most : (memory : List ℕ) (slot have : ℕ) → length (partial memory slot have) ≤ have
unfolding partial
partial-most memory slot have = omega (arith, length-take have (drop (slot * slot_bytes) memory))

module _ (own : PortId) where
  back_on : (s : Receiver) (e : Reassembly) (x : Xgem) (more : List ℕ) (rest : List (List ℕ)) → Within s.ports.lengths e (length x.body)
      → ((n : ℕ) → length more ≤ n → sdus_in n more ≡ rest) → (n : ℕ) → length (delivery_of s.memory e x.port x.body ++ more) ≤ n
      → sdus_in n (delivery_of s.memory e x.port x.body ++ more) ≡ sdu_of s.memory e x.body ++ rest
  unfolding delivery
  back_on s Ignored x more rest w ih n h = ih n h
  back_on s (Dropped slot waits) x more rest w ih n h = ih n h
  back_on s (Appended slot have) x more rest w ih n h = ih n h
  back_on s (Delivered slot have) x more rest w ih zero h = absurd (omega arith)
  back_on s (Delivered slot have) x more rest w ih (suc n) h =
      let sdu = partial s.memory slot have ++ x.body in
      let long : length sdu ≡ length (partial s.memory slot have) + length x.body = length-append (partial s.memory slot have) x.body in
      one_back x.port sdu more n (omega (arith, long, partial-most s.memory slot have, w.2))
      ∙ ap (λ (l : List (List ℕ)). sdu ∷ l) (ih n (omega (arith, h, length-append sdu more)))

  read_back : (s : Receiver) (frames : List Xgem) → length s.ports.ids ≡ added_ports → (n : ℕ) → length (deliveries_of own s frames) ≤ n
      → sdus_in n (deliveries_of own s frames) ≡ sdus own s frames
  unfolding deliveries_of sdus
  read_back s [] c n h = none_back n
  read_back s (x ∷ rest) c n h =
      let e = reassembly_of_lem s.ports own x.port x.last (length x.body) in
      back_on s e x (deliveries_of own (step own s x) rest) (sdus own (step own s x) rest) (within-taken own s x.port x.last x.body c)
      (read_back (step own s x) rest (ap length (ids_taken own s x.port x.last x.body) ∙ c)) n h

-- ---- a frame that is handled

module _ (s : Station) (h : Hlend) (a : Arrival) (lent : Lent) (k : ℕ) (sound : Sound s) (fit : buffers_fit a lent ≡ true) where
  same_answer : answer_number (place_in s h a.octets k).answer ≡ answer_number (handled s h a lent).outcome.answer
  unfolding lost_in
  same_answer = ap answer_number (place_answer s h a.octets k ∙ sym (done_answer s h a lent))

  -- what stands in the deliveries
  delivered_are : is_operating_lem s.activation ≡ true → delivered (handled s h a lent) ≡ sdus (management_port_lem s.link.onu) (receiving s lent) (parse (header_end_lem h) (payload_of h a.octets)).frames
  unfolding handled done
  delivered_are e =
      let own = management_port_lem s.link.onu in
      let frames = (parse (header_end_lem h) (payload_of h a.octets)).frames in
      let w = (payload_in s h a lent).receiver in
      let r = received s h a lent sound (room a lent fit) in
      let f : xgem_frames s h a.octets ≡ frames = rw e in
      let d : take w.bytes w.deliveries ≡ deliveries_of own (receiving s lent) frames = r.delivered ∙ ap (deliveries_of own (receiving s lent)) f in
      let n : w.bytes ≡ length (deliveries_of own (receiving s lent) frames) = r.count ∙ ap (λ (l : List Xgem). length (deliveries_of own (receiving s lent) l)) f in
      ap (sdus_in w.bytes) d ∙ read_back own (receiving s lent) frames sound.ports_long w.bytes (omega (arith, n))

  handled-stretched : Stretched a.octets k (place_in s h a.octets k) (handled s h a lent)
  unfolding place_in
  handled-stretched = record { answer = same_answer; is = go (is_operating_lem s.activation) refl }
    where
      found
          : let t = (stretch_of (management_port_lem s.link.onu) s.ports (header_end_lem h) a.octets k).stretch in
          (t ≡ no_extent) ⊎ (take t.bytes (drop t.at a.octets) ≡ get_or (sdus (management_port_lem s.link.onu) (receiving s lent) (parse (header_end_lem h) (payload_of h a.octets)).frames) k [])
          → is_operating_lem s.activation ≡ true → (t.bytes ≡ 0) ⊎ (take t.bytes (drop t.at a.octets) ≡ get_or (delivered (handled s h a lent)) k [])
      found (inl e) o = inl (ap (λ (t : Extent). t.bytes) e)
      found (inr q) o = inr (q ∙ ap (λ (l : List (List ℕ)). get_or l k []) (sym (delivered_are o)))

      go : (b : Bool) → is_operating_lem s.activation ≡ b
          → let p = cond {A = StretchPlace} b (told (stretch_of (management_port_lem s.link.onu) s.ports (header_end_lem h) a.octets k)) (empty Done) in
          (p.bytes ≡ 0) ⊎ (take p.bytes (drop p.at a.octets) ≡ get_or (delivered (handled s h a lent)) k [])
      go true e = found (stretch_is_delivery (management_port_lem s.link.onu) (receiving s lent) a.octets (header_end_lem h) k) e
      go false e = inl refl

-- ---- every frame

module _ (s : Station) (a : Arrival) (lent : Lent) (k : ℕ) (sound : Sound s) where
  nothing : {answer : Answer} {left : FrameLeft} → answer_number answer ≡ answer_number left.outcome.answer → Stretched a.octets k (empty answer) left
  nothing e = record { answer = e; is = inl refl }

  opened : buffers_fit a lent ≡ true → (r : Found Hlend) → Stretched a.octets k (place_by (by_hlend_lem r (length a.octets)) s a.octets k) (by_opening (by_hlend_lem r (length a.octets)) s a lent)
  opened fit unreadable = nothing refl
  opened fit short = nothing refl
  opened fit (fields h) = go (leb (header_end_lem h) (length a.octets))
    where
      go : (b : Bool) → Stretched a.octets k (place_by (cond b (Opened h) (Unread HeaderTooLong)) s a.octets k) (by_opening (cond b (Opened h) (Unread HeaderTooLong)) s a lent)
      go true = handled-stretched s h a lent k sound fit
      go false = nothing refl

  pub stretched : (answer_number (frame_left s a lent).outcome.answer ≡ 3 → ⊥) → Stretched a.octets k (stretch_place_lem s a.octets k) (frame_left s a lent)
  unfolding frame_left stretch_place_lem opening
  stretched room = go (in_range s) (length_fits_lem (length a.octets)) (buffers_fit a lent) refl room
    where
      go
          : (v l f : Bool) → buffers_fit a lent ≡ f
          → (answer_number (by_opening (cond (not v) (Refused StateOutOfRange) (cond (not l) (Refused FrameLengthUnfit) (cond (not f) (Refused BufferTooShort) (by_hlend_lem (read_hlend_lem a.octets) (length a.octets))))) s a lent).outcome.answer ≡ 3 → ⊥)
          → Stretched a.octets k (place_by (cond (not v) (Refused StateOutOfRange) (cond (not l) (Refused FrameLengthUnfit) (by_hlend_lem (read_hlend_lem a.octets) (length a.octets)))) s a.octets k)
          (by_opening (cond (not v) (Refused StateOutOfRange) (cond (not l) (Refused FrameLengthUnfit) (cond (not f) (Refused BufferTooShort) (by_hlend_lem (read_hlend_lem a.octets) (length a.octets))))) s a lent)
      go false l f e r = nothing refl
      go true false f e r = nothing refl
      go true true false e r = absurd (r refl)
      go true true true e r = opened e (read_hlend_lem a.octets)
