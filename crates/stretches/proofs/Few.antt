-- A stretch that is not the empty one has bytes; and a delivery takes sixteen bytes of the frame, a header and eight at least.
-- Assumes nothing.
use mathlib.Core.Path.{◌≡◌, refl}
use mathlib.Core.Logic.{◌⊎◌, inl, inr}
use mathlib.Core.Bool.{Bool, true, false, cond}
use mathlib.Core.List.{List, [], ◌∷◌, ◌++◌}
use Prim.Native.Nat.{ℕ, zero, suc, ◌+◌, ◌-◌, ◌*◌, ◌≤◌, ◌<◌}
use native.Mathlib.Decide.{dec_lt}
use native.Mathlib.Omega.{arith}
use borrow.Author.Tests.{eqb-false}
use lib.Dec.{eqb}
use lib.ListN.{length, get_or, drop, length-append, length-drop}
use Rattle.ids.specs.declared.PortId.{PortId}
use Rattle.xgem.specs.Layouts.{payload_size_lem}
use Rattle.xgem.proofs.Frames.{size_short, size_long}
use Rattle.ports.specs.declared.Ports.{Ports}
use Rattle.fragments.specs.declared.Reassembly.{Reassembly}
use Rattle.fragments.specs.declared.Reassembly.TheVariants.{Ignored, Dropped, Delivered, Appended}
use Rattle.fragments.specs.Fragments.{slot_in_lem, at_place_lem, reassembly_of_lem, ports_after}
use Rattle.payload.specs.declared.frames.Next.{Next}
use Rattle.payload.specs.declared.frames.Next.TheVariants.{Done, Lost, Frame}
use Rattle.payload.specs.Frames.{Xgem, next_of, parse}
use Rattle.payload.proofs.Walks.{frame-inside}
use Rattle.stretches.specs.declared.Extent.{Extent}
use Rattle.stretches.specs.Stretch.{no_extent, alone_at, stretches, extents_of}
use Rattle.stretches.proofs.Stretches.{extents-done, extents-lost, extents-next}

-- what delivers has bytes
some : (n : ℕ) → (n ≡ 0 → ⊥) → 1 ≤ n
some zero h = absurd (h refl)
some (suc n) h = omega arith

abbrev Real : Extent → Type 0
Real t = (t ≡ no_extent) ⊎ (1 ≤ t.bytes)

real_on : (e : Reassembly) (at n : ℕ) (ts : List Extent) → 1 ≤ n → ((k : ℕ) → Real (get_or ts k no_extent)) → (k : ℕ) → Real (get_or (alone_at e at n ++ ts) k no_extent)
real_on Ignored at n ts h ih k = ih k
real_on (Dropped slot waits) at n ts h ih k = ih k
real_on (Delivered slot have) at n ts h ih zero = go (eqb have 0)
  where
    go : (b : Bool) → Real (cond b (record { at = at; bytes = n }) no_extent)
    go true = inr h
    go false = inl refl
real_on (Delivered slot have) at n ts h ih (suc k) = ih k
real_on (Appended slot have) at n ts h ih k = ih k

module _ (p : Ports) (own port : PortId) (last : Bool) (n at : ℕ) where
  real-step : (ts : List Extent) → ((k : ℕ) → Real (get_or ts k no_extent)) → (k : ℕ) → Real (get_or (alone_at (reassembly_of_lem p own port last n) at n ++ ts) k no_extent)
  real-step ts ih k = go (eqb n 0) refl
    where
      go : (b : Bool) → eqb n 0 ≡ b → Real (get_or (alone_at (cond b Ignored (at_place_lem p.lengths p.waiting last n (slot_in_lem p.ids own port))) at n ++ ts) k no_extent)
      go true e = ih k
      go false e = real_on (at_place_lem p.lengths p.waiting last n (slot_in_lem p.ids own port)) at n ts (some n (eqb-false n 0 e)) ih k

real_all : (own : PortId) (p : Ports) (frames : List Xgem) (k : ℕ) → Real (get_or (stretches own p frames) k no_extent)
unfolding stretches
real_all own p [] k = inl refl
real_all own p (x ∷ rest) k =
    real-step p own x.port x.last (length x.body) (x.place + 8) _
    (real_all own (ports_after p (reassembly_of_lem p own x.port x.last (length x.body)) (length x.body)) rest) k

-- so that a length of 0 says that there is no stretch, and then its place is 0 too
pub stretch_real : (own : PortId) (p : Ports) (begins : ℕ) (f : List ℕ) (k : ℕ) → let t = get_or (extents_of own p begins f) k no_extent in (t ≡ no_extent) ⊎ (1 ≤ t.bytes)
unfolding extents_of
stretch_real own p begins f k = real_all own p (parse begins (drop begins f)).frames k

-- ---- how many there can be
least : (n : ℕ) → 1 ≤ n → 8 ≤ payload_size_lem n
least n h = go (dec_lt n 8)
  where
    go : Dec (n < 8) → 8 ≤ payload_size_lem n
    go (yes l) = omega (arith, size_short n h l)
    go (no l) = omega (arith, size_long n (omega arith))

few-one : (e : Reassembly) (at n : ℕ) → 1 ≤ n → 16 * length (alone_at e at n) ≤ 8 + payload_size_lem n
few-one Ignored at n h = omega arith
few-one (Dropped slot waits) at n h = omega arith
few-one (Delivered slot have) at n h = omega (arith, least n h)
few-one (Appended slot have) at n h = omega arith

few : (p : Ports) (own port : PortId) (last : Bool) (n at : ℕ) → 16 * length (alone_at (reassembly_of_lem p own port last n) at n) ≤ 8 + payload_size_lem n
few p own port last n at = go (eqb n 0) refl
  where
    go : (b : Bool) → eqb n 0 ≡ b → 16 * length (alone_at (cond b Ignored (at_place_lem p.lengths p.waiting last n (slot_in_lem p.ids own port))) at n) ≤ 8 + payload_size_lem n
    go true e = omega arith
    go false e = few-one (at_place_lem p.lengths p.waiting last n (slot_in_lem p.ids own port)) at n (some n (eqb-false n 0 e))

few_from : (own : PortId) (f : List ℕ) (n : ℕ) (p : Ports) (at : ℕ) → length f - at ≤ n → 16 * length (extents_of own p at f) ≤ length f - at
few_from own f zero p at h = go (next_of (drop at f)) refl
  where
    go : (m : Next) → next_of (drop at f) ≡ m → 16 * length (extents_of own p at f) ≤ length f - at
    go Done e = rw (extents-done f at own p e) (omega arith)
    go Lost e = rw (extents-lost f at own p e) (omega arith)
    go (Frame x) e = absurd (omega (arith, frame-inside (drop at f) x e, length-drop at f))
few_from own f (suc n) p at h = go (next_of (drop at f)) refl (λ q b l. few_from own f n q b l)
  where
    go : (m : Next) → next_of (drop at f) ≡ m → ((q : Ports) (b : ℕ) → length f - b ≤ n → 16 * length (extents_of own q b f) ≤ length f - b)
        → 16 * length (extents_of own p at f) ≤ length f - at
    go Done e ih = rw (extents-done f at own p e) (omega arith)
    go Lost e ih = rw (extents-lost f at own p e) (omega arith)
    go (Frame x) e ih =
        let what : Reassembly = reassembly_of_lem p own x.port x.last x.pli in
        let next : ℕ = at + 8 + payload_size_lem x.pli in
        let after : Ports = ports_after p what x.pli in
        let i : 8 + payload_size_lem x.pli ≤ length (drop at f) = frame-inside (drop at f) x e in
        let d : length (drop at f) ≡ length f - at = length-drop at f in
        let r : 16 * length (extents_of own after next f) ≤ length f - next = ih after next (omega arith) in
        let o : 16 * length (alone_at what (at + 8) x.pli) ≤ 8 + payload_size_lem x.pli = few p own x.port x.last x.pli (at + 8) in
        let l : length (alone_at what (at + 8) x.pli ++ extents_of own after next f) ≡ length (alone_at what (at + 8) x.pli) + length (extents_of own after next f) =
        length-append (alone_at what (at + 8) x.pli) (extents_of own after next f) in
        rw (extents-next f at own p x e what refl) (omega arith)

pub stretches-few : (own : PortId) (p : Ports) (begins : ℕ) (f : List ℕ) → 16 * length (extents_of own p begins f) ≤ length f - begins
stretches-few own p begins f = few_from own f (length f) p begins (omega arith)
