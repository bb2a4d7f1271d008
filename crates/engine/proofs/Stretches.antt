-- A stretch lies within the frame.
-- Assumes nothing.
use Prim.Native.Nat.{ℕ, zero, suc, ◌+◌, ◌-◌, ◌≤◌}
use native.Mathlib.Omega.{arith}
use mathlib.Core.Path.{◌≡◌, refl, sym, ap, subst}
use mathlib.Core.Bool.{Bool, true, false, cond}
use mathlib.Core.List.{List, [], ◌∷◌, ◌++◌}
use lib.Dec.{eqb}
use lib.ListN.{length, get_or, drop, length-take, length-drop}
use lib.Seq.{drop-drop}
use borrow.Author.Tests.{le-leb}
use Rattle.ids.specs.declared.PortId.{PortId}
use Rattle.ids.specs.Ids.{management_port_lem}
use Rattle.xgtc.specs.declared.hlend.Hlend.{Hlend}
use Rattle.xgem.specs.Layouts.{payload_size_lem}
use Rattle.xgem.proofs.Frames.{covers}
use Rattle.station.specs.declared.Station.{Station}
use Rattle.ports.specs.declared.Ports.{Ports}
use Rattle.fragments.specs.declared.Reassembly.{Reassembly}
use Rattle.fragments.specs.declared.Reassembly.TheVariants.{Ignored, Dropped, Delivered, Appended}
use Rattle.fragments.specs.Fragments.{reassembly_of_lem, ports_after}
use Rattle.payload.specs.declared.frames.Next.{Next}
use Rattle.payload.specs.declared.frames.Next.TheVariants.{Done as NoMore, Lost, Frame}
use Rattle.stretches.specs.declared.Extent.{Extent}
use Rattle.stretches.specs.declared.StretchPlace as found
use Rattle.payload.specs.Frames.{Xgem, next_of, parse}
use Rattle.stretches.specs.Stretch.{no_extent, alone_at, stretches, extents_of, stretch_of, cut_out}
use Rattle.downstream.specs.declared.Opening.{Opening}
use Rattle.downstream.specs.declared.Opening.TheVariants.{Refused, Unread, Opened}
use Rattle.downstream.specs.Partitions.{header_end_lem}
use Rattle.downstream.specs.Opening.{opening}
use Rattle.engine.specs.Stretch.{empty, told, place_in, place_by, stretch_place_lem, cut}
use Rattle.engine.specs.declared.stretching.StretchPlace.{StretchPlace}
use Rattle.answers.specs.declared.Answer.TheVariants.{Done}
use Rattle.station.specs.States.{is_operating_lem}
use Rattle.payload.proofs.Walks.{frame-inside, parse-done, parse_lost, parse-next}

abbrev AllInside : ℕ → List Xgem → Type 0
AllInside n [] = Unit {0}
AllInside n (x ∷ rest) = (x.place + 8 + length x.body ≤ n) × AllInside n rest

inside : (payload : List ℕ) (n at : ℕ) → length payload - at ≤ n → AllInside (length payload) (parse at (drop at payload)).frames
inside payload zero at h = go (next_of (drop at payload)) refl
  where
    go : (m : Next) → next_of (drop at payload) ≡ m → AllInside (length payload) (parse at (drop at payload)).frames
    go NoMore e = rw (parse-done at (drop at payload) e) tt
    go Lost e = rw (parse_lost at (drop at payload) e) tt
    go (Frame x) e = absurd (omega (arith, frame-inside (drop at payload) x e, length-drop at payload))
inside payload (suc n) at h = go (next_of (drop at payload)) refl (λ b l. inside payload n b l)
  where
    go : (m : Next) → next_of (drop at payload) ≡ m → ((b : ℕ) → length payload - b ≤ n → AllInside (length payload) (parse b (drop b payload)).frames)
        → AllInside (length payload) (parse at (drop at payload)).frames
    go NoMore e ih = rw (parse-done at (drop at payload) e) tt
    go Lost e ih = rw (parse_lost at (drop at payload) e) tt
    go (Frame x) e ih =
        let size : ℕ = payload_size_lem x.pli in
        let i : 8 + size ≤ length (drop at payload) = frame-inside (drop at payload) x e in
        let d : length (drop at payload) ≡ length payload - at = length-drop at payload in
        let c : x.pli ≤ size = covers x.pli in
        let m = length-take x.pli (drop 8 (drop at payload)) in
        rw (parse-next at (drop at payload) x e) (
          omega (arith, m),
          subst (λ (l : List ℕ). AllInside (length payload) (parse (at + (8 + size)) l).frames) (sym (drop-drop (8 + size) at payload)) (ih (at + (8 + size)) (omega arith)),
        )

abbrev In : ℕ → Extent → Type 0
In n t = t.at + t.bytes ≤ n

in_on
    : (n : ℕ) (e : Reassembly) (at m : ℕ) (ts : List Extent) → at + m ≤ n → ((k : ℕ) → In n (get_or ts k no_extent))
    → (k : ℕ) → In n (get_or (alone_at e at m ++ ts) k no_extent)
in_on n Ignored at m ts h ih k = ih k
in_on n (Dropped slot waits) at m ts h ih k = ih k
in_on n (Delivered slot have) at m ts h ih zero = go (eqb have 0)
  where
    go : (b : Bool) → In n (cond b (record { at = at; bytes = m }) no_extent)
    go true = h
    go false = omega arith
in_on n (Delivered slot have) at m ts h ih (suc k) = ih k
in_on n (Appended slot have) at m ts h ih k = ih k

in_all : (n : ℕ) (own : PortId) (p : Ports) (frames : List Xgem) → AllInside n frames → (k : ℕ) → In n (get_or (stretches own p frames) k no_extent)
unfolding stretches
in_all n own p [] c k = omega arith
in_all n own p (x ∷ rest) c k =
    in_on n (reassembly_of_lem p own x.port x.last (length x.body)) (x.place + 8) (length x.body) _ c.0
    (in_all n own (ports_after p (reassembly_of_lem p own x.port x.last (length x.body)) (length x.body)) rest c.1) k

-- the stretch of delivery k lies within the frame
pub stretch_inside : (own : PortId) (p : Ports) (begins : ℕ) (f : List ℕ) (k : ℕ) → In (length f) (stretch_of own p begins f k).stretch
unfolding stretch_of extents_of
stretch_inside own p begins f k = in_all (length f) own p (parse begins (drop begins f)).frames (inside f (length f) begins (omega arith)) k

-- what the search finds, as the call tells it
pub placed
    : (s : Station) (h : Hlend) (f : List ℕ) (k : ℕ) (own : PortId) (begins : ℕ) (p : found.StretchPlace) → is_operating_lem s.activation ≡ true
    → own ≡ management_port_lem s.link.onu → begins ≡ header_end_lem h → p ≡ stretch_of own s.ports begins f k → told p ≡ place_in s h f k
unfolding place_in
placed s h f k own begins p operates mine e q = rw (operates, q, e, mine)

-- ---- the stretch lies within the frame, so that it is cut out whole

-- a place of the frame
abbrev Within : ℕ → StretchPlace → Type 0
Within n p = p.at + p.bytes ≤ n

within-place : (s : Station) (h : Hlend) (f : List ℕ) (k : ℕ) → Within (length f) (place_in s h f k)
unfolding place_in
within-place s h f k = go (is_operating_lem s.activation)
  where
    own : PortId
    own = management_port_lem s.link.onu

    go : (b : Bool) → Within (length f) (cond b (told (stretch_of own s.ports (header_end_lem h) f k)) (empty Done))
    go true = stretch_inside own s.ports (header_end_lem h) f k
    go false = omega arith

pub within-frame : (s : Station) (f : List ℕ) (k : ℕ) → Within (length f) (stretch_place_lem s f k)
unfolding stretch_place_lem
within-frame s f k = go (opening s f true) refl
  where
    go : (o : Opening) → opening s f true ≡ o → Within (length f) (place_by o s f k)
    go (Refused answer) e = omega arith
    go (Unread answer) e = omega arith
    go (Opened h) e = within-place s h f k

pub cut_fully
    : (s : Station) (f : List ℕ) (k : ℕ) (p : StretchPlace) → p ≡ stretch_place_lem s f k
    → cut_out f (record { at = p.at; bytes = p.bytes }) ≡ cut (stretch_place_lem s f k) f
cut_fully s f k p e =
    let w = subst (Within (length f)) (sym e) (within-frame s f k) in
    rw (le-leb p.at (length f) (omega (arith, w)), le-leb p.bytes (length f - p.at) (omega (arith, w))) (ap (λ (x : StretchPlace). cut x f) e)
