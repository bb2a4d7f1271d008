-- The count of bytes is true: so many are the deliveries of the frame's SDUs. Slots hold what was appended. All else is as it was.
-- Assumes nothing.
use Prim.Native.Nat.{ℕ, zero, suc, ◌+◌, ◌-◌, ◌≤◌}
use native.Mathlib.Omega.{arith}
use mathlib.Core.Path.{◌≡◌, ◌∙◌, refl, sym, ap}
use mathlib.Core.Bool.{Bool, true, false, cond}
use mathlib.Core.List.{List, [], ◌++◌}
use lib.ListN.{length, take, drop, length-drop, length-take}
use lib.Seq.{take_at, drop_at}
use Rattle.ids.specs.declared.PortId.{PortId}
use Rattle.ids.specs.Ids.{management_port_lem}
use Rattle.xgtc.specs.declared.hlend.Hlend.{Hlend}
use Rattle.xgem.specs.Layouts.{payload_size_lem}
use Rattle.xgem.proofs.Frames.{covers}
use Rattle.station.specs.declared.Station.{Station}
use Rattle.station.specs.States.{is_operating_lem}
use Rattle.invariants.proofs.InRange.{Sound, sound_in_range}
use Rattle.ports.specs.Limits.{added_ports}
use Rattle.payload.specs.declared.frames.Next.{Next}
use Rattle.payload.specs.declared.frames.Next.TheVariants.{Done, Lost, Frame}
use Rattle.payload.specs.declared.walk.Delineation.TheVariants.{Kept}
use Rattle.payload.specs.Bounds.{Ready}
use Rattle.payload.specs.Deliveries.{deliveries_of}
use Rattle.payload.specs.Frames.{Xgem, next_of, parse}
use Rattle.payload.specs.Memory.{Receiver, put}
use Rattle.payload.specs.Walk.{Walked, walk_of, left_by, steps, ended_by}
use Rattle.payload.proofs.Walks.{frame-inside, parse-done, parse_lost, parse-next}
use Rattle.payload.proofs.Steps.{ready_less}
use Rattle.payload.proofs.Fit.{ready}
use Rattle.payload.proofs.Counts.{asked, counts_true}
use Rattle.payload.specs.Appends.{appends_of, laid}
use Rattle.payload.proofs.Appends.{memory-laid, appends_in}
use Rattle.downstream.specs.Partitions.{header_end_lem, payload_of}
use Rattle.frame.specs.Given.{Arrival, Lent}
use Rattle.frame.specs.Frame.{payload_in}
use Rattle.engine.specs.Counts.{Received, receiving, xgem_frames}
use Rattle.frame.proofs.Laws.{Room, partials_within}

-- ---- what the frames of a payload deliver is no more than the payload

asked-most : (s : List ℕ) (n place : ℕ) → length s ≤ n → asked (parse place s).frames ≤ length s
unfolding asked
asked-most s zero place h = go (next_of s) refl
  where
    go : (m : Next) → next_of s ≡ m → asked (parse place s).frames ≤ length s
    go Done e = rw (parse-done place s e) (omega arith)
    go Lost e = rw (parse_lost place s e) (omega arith)
    go (Frame x) e = absurd (omega (arith, frame-inside s x e))
asked-most s (suc n) place h = go (next_of s) refl (λ l p q. asked-most l n p q)
  where
    go : (m : Next) → next_of s ≡ m → ((l : List ℕ) (p : ℕ) → length l ≤ n → asked (parse p l).frames ≤ length l) → asked (parse place s).frames ≤ length s
    go Done e ih = rw (parse-done place s e) (omega arith)
    go Lost e ih = rw (parse_lost place s e) (omega arith)
    go (Frame x) e ih =
        let size : ℕ = payload_size_lem x.pli in
        let i : 8 + size ≤ length s = frame-inside s x e in
        let d : length (drop (8 + size) s) ≡ length s - (8 + size) = length-drop (8 + size) s in
        let c : x.pli ≤ size = covers x.pli in
        let m = length-take x.pli (drop 8 s) in
        let r = ih (drop (8 + size) s) (place + (8 + size)) (omega arith) in
        rw (parse-next place s x e) (omega (arith, m, r, d, c, i))

-- ---- what a walk leaves

ended-kept : (lost : Bool) (r : Receiver) → ((ended_by lost r).deliveries ≡ r.deliveries) × ((ended_by lost r).bytes ≡ r.bytes) × ((ended_by lost r).memory ≡ r.memory)
unfolding ended_by
ended-kept true r = (refl, refl, refl)
ended-kept false r = (refl, refl, refl)

walk_is : (own : PortId) (r : Receiver) (place : ℕ) (payload : List ℕ)
    → (walk_of own r place payload).receiver ≡ ended_by (parse place payload).lost (steps own r (parse place payload).frames)
unfolding walk_of left_by
walk_is own r place payload = refl

from_zero : (n : ℕ) → 0 + n ≡ n
from_zero n = omega arith

put_first : (d s : List ℕ) (n : ℕ) → n ≡ 0 → put d n s ≡ s ++ drop (length s) d
unfolding put
put_first d s n z =
    ap (λ (k : ℕ). take k d ++ (s ++ drop (k + length s) d)) z ∙ ap (λ (m : ℕ). s ++ drop m d) (from_zero (length s))

-- what stands first in a buffer
whole : (own : PortId) (begun : Receiver) (frames : List Xgem) (w : Receiver) → length begun.ports.ids ≡ added_ports
    → let d = deliveries_of own begun frames in
    (w.bytes ≡ length d) × (w.deliveries ≡ d ++ drop (length d) begun.deliveries) × (w.memory ≡ laid begun.memory (appends_of own begun frames))
    → Received own begun frames w.bytes w.deliveries w.memory
whole own begun frames w c (n, d, m) =
    let l = deliveries_of own begun frames in
    let rest = drop (length l) begun.deliveries in
    record {
      count = n;
      delivered = ap (take w.bytes) d ∙ take_at l rest w.bytes (sym n);
      kept = ap (drop w.bytes) d ∙ drop_at l rest w.bytes (sym n) ∙ ap (λ (i : ℕ). drop i begun.deliveries) (sym n);
      slots = m;
      within = appends_in own begun frames c;
    }

walked : (own : PortId) (begun : Receiver) (place : ℕ) (payload : List ℕ) → begun.bytes ≡ 0 → Ready begun (length payload)
    → let w = (walk_of own begun place payload).receiver in Received own begun (parse place payload).frames w.bytes w.deliveries w.memory
walked own begun place payload z k =
    let frames = (parse place payload).frames in
    let d = deliveries_of own begun frames in
    let c = counts_true own begun frames (ready_less begun (length payload) (asked frames) k (asked-most payload (length payload) place (omega arith))) in
    let e = ended-kept (parse place payload).lost (steps own begun frames) in
    let is = walk_is own begun place payload in
    whole own begun frames (walk_of own begun place payload).receiver k.ids (
      ap (λ (x : Receiver). x.bytes) is ∙ e.1 ∙ c.1 ∙ ap (λ (n : ℕ). n + length d) z ∙ from_zero (length d),
      ap (λ (x : Receiver). x.deliveries) is ∙ e.0 ∙ c.0 ∙ put_first begun.deliveries d begun.bytes z,
      ap (λ (x : Receiver). x.memory) is ∙ e.2 ∙ memory-laid own begun frames,
    )

-- ---- a frame

pub received : (s : Station) (h : Hlend) (a : Arrival) (lent : Lent) → Sound s → Room a lent
    → let w = (payload_in s h a lent).receiver in
    Received (management_port_lem s.link.onu) (receiving s lent) (xgem_frames s h a.octets) w.bytes w.deliveries w.memory
unfolding payload_in deliveries_of appends_of
received s h a lent k r = go (is_operating_lem s.activation)
  where
    go
        : (b : Bool)
        → let w = (cond {A = Walked} b (walk_of (management_port_lem s.link.onu) (receiving s lent) (header_end_lem h) (payload_of h a.octets)) (record { receiver = receiving s lent; delineation = Kept })).receiver in
        Received (management_port_lem s.link.onu) (receiving s lent) (cond b (parse (header_end_lem h) (payload_of h a.octets)).frames []) w.bytes w.deliveries w.memory
    go true =
        walked (management_port_lem s.link.onu) (receiving s lent) (header_end_lem h) (payload_of h a.octets) refl
        (ready s.ports (management_port_lem s.link.onu) lent.memory lent.deliveries (header_end_lem h) (payload_of h a.octets) (partials_within s k.lengths_long (sound_in_range s k)) r.memory
        (omega (arith, r.deliveries, length-drop (header_end_lem h) a.octets)) k.ports_long k.lengths_long)
    go false = record { count = refl; delivered = refl; kept = refl; slots = refl; within = tt }
