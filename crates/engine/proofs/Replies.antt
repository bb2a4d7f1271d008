-- Past the last reply the reply buffer keeps its octets.
-- Assumes nothing.
use Prim.Native.Nat.{ℕ, zero, suc, ◌+◌, ◌*◌, ◌≤◌}
use native.Mathlib.Omega.{arith}
use mathlib.Core.Path.{◌≡◌, ◌∙◌, refl, sym, ap, subst}
use mathlib.Core.Bool.{Bool, true, false, cond, ◌&&◌}
use mathlib.Core.List.{List, ◌++◌}
use lib.Dec.{leb}
use lib.ListN.{length, take, drop, length-take, length-drop, length-append}
use lib.Seq.{drop-drop, drop_at}
use Rattle.std.specs.Prelude.{None, Option, Some}
use Rattle.ploamu.specs.declared.UpstreamMessage.{UpstreamMessage}
use Rattle.xgtc.specs.declared.hlend.Hlend.{Hlend}
use Rattle.ploam.specs.Layout.{message_octets}
use Rattle.integrity.specs.Integrity.{mic_of, key_for}
use Rattle.integrity.specs.declared.Direction.TheVariants.{Upstream}
use Rattle.integrity.proofs.Signed.{mic_length}
use Rattle.ploamu.specs.Upstream.{upstream_address, upstream_type, upstream_octets_lem, fitting}
use Rattle.ploamu.specs.Writing.{MessageLeft, laid, written}
use Rattle.answers.specs.declared.Answer.TheVariants.{Done, NotWritten}
use Rattle.ploamu.proofs.RoundTrip.{octets-length}
use Rattle.station.specs.declared.Activation.{Activation}
use Rattle.station.specs.declared.Activation.TheVariants.{Initial, SerialNumber, Ranging, Operation, Intermittent, EmergencyStop}
use Rattle.station.specs.declared.Station.{Station}
use Rattle.station.specs.Limits.{registration_octets_lem}
use Rattle.replies.specs.Replying.{reply_of_lem, after_in, after_reply_lem}
use Rattle.replies.specs.Replies.{key_of, said, wrote, in_place, replies_from}
use Rattle.plan.specs.Plan.{messages}
use Rattle.bwmap.proofs.Kept.{bursts-most}
use Rattle.downstream.specs.declared.Opening.{Opening}
use Rattle.downstream.specs.declared.Opening.TheVariants.{Refused, Unread, Opened}
use Rattle.downstream.specs.Partitions.{map_of}
use Rattle.downstream.specs.Opening.{opening}
use Rattle.downstream.proofs.Laws.{opened}
use Rattle.frame.specs.Given.{Arrival, Lent, buffers_fit}
use Rattle.frame.specs.Frame.{FrameLeft, own_of, planned_in, replies_in, done, handled, by_opening, frame_left}
use Rattle.frame.proofs.Laws.{Room, room, messages-few}

-- ---- a message has 48 octets

laid-long : (mic octets target : List ℕ) (fits : Bool) → length mic ≡ 8 → length octets ≡ 40 → length target ≡ message_octets → length (laid mic fits octets target).target ≡ message_octets
laid-long mic octets target fits m o t = go (fits && leb message_octets (length target))
  where
    go
        : (b : Bool)
        → length (cond {A = MessageLeft} b (record { answer = Done; target = octets ++ mic ++ drop message_octets target }) (record { answer = NotWritten; target = target })).target ≡ message_octets
    go true =
        let e : length ((octets ++ mic) ++ drop message_octets target) ≡ message_octets
        = omega (arith, length-append (octets ++ mic) (drop message_octets target), length-append octets mic, length-drop message_octets target) in
        e
    go false = t

wrote-long : (s : Station) (delay : ℕ) (t : List ℕ) → length s.registration ≡ registration_octets_lem → length t ≡ message_octets → length (wrote s delay t) ≡ message_octets
unfolding wrote written
wrote-long s delay t r h = go (reply_of_lem s delay)
  where
    go : (x : Option UpstreamMessage) → length (said s x t) ≡ message_octets
    go None = h
    go (Some message) =
        laid-long (mic_of (key_for Upstream (upstream_address message) (upstream_type message) (key_of s.link.key)) Upstream (upstream_octets_lem message s.registration))
        (upstream_octets_lem message s.registration) t (fitting message) (mic_length _ _) (octets-length message s.registration r) h

-- ---- one reply in its place, and all of a frame

module _ (s : Station) (delay : ℕ) (b : List ℕ) (i : ℕ) (r : length s.registration ≡ registration_octets_lem) (fits : message_octets * i + message_octets ≤ length b) where
  one : List ℕ
  one = wrote s delay (take message_octets (drop (message_octets * i) b))

  one-long : length (wrote s delay (take message_octets (drop (message_octets * i) b))) ≡ message_octets
  one-long = wrote-long s delay (take message_octets (drop (message_octets * i) b)) r (omega (arith, length-take message_octets (drop (message_octets * i) b), length-drop (message_octets * i) b))

  front_long : length (take (message_octets * i) b) ≡ message_octets * i
  front_long = omega (arith, length-take (message_octets * i) b)

  placed_past : drop (message_octets * i + message_octets) (in_place s delay b i) ≡ drop (message_octets * i + message_octets) b
  placed_past =
      let w = wrote s delay (take message_octets (drop (message_octets * i) b)) in
      let rest = drop message_octets (drop (message_octets * i) b) in
      sym (drop-drop message_octets (message_octets * i) (in_place s delay b i))
      ∙ ap (drop message_octets) (drop_at (take (message_octets * i) b) (w ++ rest) (message_octets * i) front_long)
      ∙ drop_at w rest message_octets one-long
      ∙ drop-drop message_octets (message_octets * i) b

  placed-long : length (in_place s delay b i) ≡ length b
  placed-long =
      let w = wrote s delay (take message_octets (drop (message_octets * i) b)) in
      let rest = drop message_octets (drop (message_octets * i) b) in
      omega (arith, one-long, front_long, length-append (take (message_octets * i) b) (w ++ rest), length-append w rest, length-drop message_octets (drop (message_octets * i) b), length-drop (message_octets * i) b)

same-registration : (a : Activation) (s : Station) → (after_in a s).registration ≡ s.registration
same-registration Initial s = refl
same-registration SerialNumber s = refl
same-registration (Ranging left) s = refl
same-registration Operation s = refl
same-registration (Intermittent left) s = refl
same-registration EmergencyStop s = refl

after-registration : (s : Station) → (after_reply_lem s).registration ≡ s.registration
unfolding after_reply_lem
after-registration s = same-registration s.activation s

replies-past
    : (s : Station) (delay : ℕ) (b : List ℕ) (i k : ℕ) → length s.registration ≡ registration_octets_lem → message_octets * (i + k) ≤ length b
    → drop (message_octets * (i + k)) (replies_from s delay b i k).octets ≡ drop (message_octets * (i + k)) b
replies-past s delay b i zero r h = refl
replies-past s delay b i (suc k) r h =
    let fits : message_octets * i + message_octets ≤ length b = omega arith in
    let c = in_place s delay b i in
    let l = placed-long s delay b i r fits in
    let same : message_octets * (i + suc k) ≡ message_octets * (i + 1 + k) = omega arith in
    let split : message_octets * (i + 1 + k) ≡ message_octets * i + message_octets + message_octets * k = omega arith in
    let ih = replies-past (after_reply_lem s) delay c (i + 1) k (ap length (after-registration s) ∙ r) (omega (arith, l)) in
    rw same
    (ih ∙ ap (λ (n : ℕ). drop n c) split ∙ sym (drop-drop (message_octets * k) (message_octets * i + message_octets) c)
    ∙ ap (drop (message_octets * k)) (placed_past s delay b i r fits)
    ∙ drop-drop (message_octets * k) (message_octets * i + message_octets) b ∙ ap (λ (n : ℕ). drop n b) (sym split))

-- ---- the frame

Kept : Lent → FrameLeft → Type 0
Kept lent left = drop (message_octets * left.counts.replies) left.lent.replies ≡ drop (message_octets * left.counts.replies) lent.replies

handled-kept : (s : Station) (h : Hlend) (a : Arrival) (lent : Lent) → length s.registration ≡ registration_octets_lem → Room a lent → Kept lent (handled s h a lent)
unfolding Kept handled done replies_in planned_in
handled-kept s h a lent r m =
    let z : 0 + messages (planned_in s h a) ≡ messages (planned_in s h a) = omega arith in
    subst (λ (n : ℕ). drop (message_octets * n) (replies_from s a.random_delay_lem lent.replies 0 (messages (planned_in s h a))).octets ≡ drop (message_octets * n) lent.replies) z
    (replies-past s a.random_delay_lem lent.replies 0 (messages (planned_in s h a)) r
    (omega (arith, m.replies, messages-few (planned_in s h a), bursts-most (own_of s) (map_of h a.octets) s.carried)))

pub frame_replies_kept
    : (s : Station) (a : Arrival) (lent : Lent) → length s.registration ≡ registration_octets_lem
    → drop (message_octets * (frame_left s a lent).counts.replies) (frame_left s a lent).lent.replies
    ≡ drop (message_octets * (frame_left s a lent).counts.replies) lent.replies
unfolding Kept frame_left
frame_replies_kept s a lent r = go (opening s a.octets (buffers_fit a lent)) refl
  where
    go : (o : Opening) → opening s a.octets (buffers_fit a lent) ≡ o → Kept lent (by_opening o s a lent)
    go (Refused answer) e = refl
    go (Unread answer) e = refl
    go (Opened h) e = handled-kept s h a lent r (room a lent (opened s a.octets (buffers_fit a lent) h e).buffers)
