-- A whole frame as events: the station that its events leave is the one that the frame leaves.
-- Assumes nothing.
use Prim.Native.Nat.{ℕ, zero, suc, ◌+◌}
use mathlib.Core.Path.{◌≡◌, ◌∙◌, refl, ap}
use mathlib.Core.Bool.{Bool}
use mathlib.Core.List.{List, [], ◌∷◌}
use Rattle.station.specs.declared.Station.{Station}
use Rattle.ports.specs.declared.Ports.{Ports}
use Rattle.station.specs.Station.{with_ports_lem, with_carried_lem}
use Rattle.timing.specs.Timing.{frame_end_lem}
use Rattle.messages.specs.Receiving.{receive_all}
use Rattle.replies.specs.Replies.{replies_from, in_place}
use Rattle.ledger.specs.Events.{Event, considered, ended, replied, walked, carried_over_lem, station_of, replies, messages, frame}
use Rattle.ledger.proofs.Runs.{Kept, step}

pub replies-left
    : (first : Station) (k : ℕ) (h : List Event) (delay : ℕ) (b : List ℕ) (i : ℕ)
    → station_of first (replies k h) ≡ (replies_from (station_of first h) delay b i k).station
replies-left first zero h delay b i = refl
replies-left first (suc k) h delay b i = replies-left first k (replied ∷ h) delay (in_place (station_of first h) delay b i) (i + 1)

pub messages-left
    : (first : Station) (l : List (List ℕ)) (h : List Event) → station_of first (messages l h) ≡ receive_all (station_of first h) l
messages-left first [] h = refl
messages-left first (m ∷ l) h = messages-left first l (considered m ∷ h)

pub frame-left
    : (first : Station) (h : List Event) (k : ℕ) (ports : Ports) (words : ℕ) (l : List (List ℕ)) (arrivedRanging : Bool)
    (delay : ℕ) (b : List ℕ) (i : ℕ)
    → station_of first (frame k ports words l arrivedRanging h)
    ≡ frame_end_lem (receive_all (with_carried_lem (with_ports_lem (replies_from (station_of first h) delay b i k).station ports) words) l) arrivedRanging
frame-left first h k ports words l arrivedRanging delay b i =
    ap (λ (s : Station). frame_end_lem s arrivedRanging)
    (messages-left first l (carried_over_lem words ∷ walked ports ∷ replies k h)
    ∙ ap (λ (s : Station). receive_all (with_carried_lem (with_ports_lem s ports) words) l) (replies-left first k h delay b i))

-- ---- and what holds before the frame holds after it

pub replies-kept : (first : Station) (k : ℕ) (h : List Event) → Kept first h → Kept first (replies k h)
replies-kept first zero h p = p
replies-kept first (suc k) h p = replies-kept first k (replied ∷ h) (step first h p replied)

pub messages-kept : (first : Station) (l : List (List ℕ)) (h : List Event) → Kept first h → Kept first (messages l h)
messages-kept first [] h p = p
messages-kept first (m ∷ l) h p = messages-kept first l (considered m ∷ h) (step first h p (considered m))

pub frame-kept
    : (first : Station) (h : List Event) (k : ℕ) (ports : Ports) (words : ℕ) (l : List (List ℕ)) (arrivedRanging : Bool)
    → Kept first h → Kept first (frame k ports words l arrivedRanging h)
frame-kept first h k ports words l arrivedRanging p =
    let r = replies-kept first k h p in
    let w = step first (replies k h) r (walked ports) in
    let c = step first (walked ports ∷ replies k h) w (carried_over_lem words) in
    let m = messages-kept first l (carried_over_lem words ∷ walked ports ∷ replies k h) c in
    step first (messages l (carried_over_lem words ∷ walked ports ∷ replies k h)) m (ended arrivedRanging)
