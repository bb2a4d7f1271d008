-- A stretch that is not empty is the delivery's bytes.
-- Assumes nothing.
use mathlib.Core.Path.{◌≡◌, refl, sym, ap, ap₂, ◌∙◌, subst}
use mathlib.Core.Logic.{◌⊎◌, inl, inr}
use mathlib.Core.Bool.{Bool, true, false, cond}
use mathlib.Core.List.{List, [], ◌∷◌, ◌++◌}
use Prim.Native.Nat.{ℕ, zero, suc, ◌+◌, ◌-◌, ◌≤◌}
use native.Mathlib.Omega.{arith}
use borrow.Author.Tests.{eqb-true}
use lib.Dec.{eqb}
use lib.ListN.{length, get_or, take, drop, length-drop}
use lib.Seq.{length-take-le, drop-drop}
use Rattle.ids.specs.declared.PortId.{PortId}
use Rattle.xgem.specs.Layouts.{payload_size_lem}
use Rattle.xgem.proofs.Frames.{covers}
use Rattle.ports.specs.declared.Ports.{Ports}
use Rattle.fragments.specs.declared.Reassembly.{Reassembly}
use Rattle.fragments.specs.declared.Reassembly.TheVariants.{Ignored, Dropped, Delivered, Appended}
use Rattle.fragments.specs.Fragments.{reassembly_of_lem}
use Rattle.payload.specs.declared.frames.Next.{Next}
use Rattle.payload.specs.declared.frames.Next.TheVariants.{Done, Lost, Frame}
use Rattle.stretches.specs.declared.Extent.{Extent}
use Rattle.payload.specs.Frames.{Xgem, xgem_header_bytes, next_of, parse}
use Rattle.payload.specs.Memory.{Receiver, partial, step}
use Rattle.stretches.specs.Stretch.{no_extent, alone_at, stretches, extents_of, stretch_of, sdu_of, sdus}
use Rattle.payload.proofs.Slots.{nothing-held}
use Rattle.payload.proofs.Steps.{ports_taken}
use Rattle.payload.proofs.Walks.{frame-inside, parse-done, parse_lost, parse-next}

-- a frame's bytes stand in the payload behind its header
abbrev Cut : List ℕ → Xgem → Type 0
Cut payload x = take (length x.body) (drop (x.place + 8) payload) ≡ x.body

abbrev AllCut : List ℕ → List Xgem → Type 0
AllCut payload [] = Unit {0}
AllCut payload (x ∷ rest) = Cut payload x × AllCut payload rest

cut : (payload : List ℕ) (n at : ℕ) → length payload - at ≤ n → AllCut payload (parse at (drop at payload)).frames
cut payload zero at h = go (next_of (drop at payload)) refl
  where
    go : (m : Next) → next_of (drop at payload) ≡ m → AllCut payload (parse at (drop at payload)).frames
    go Done e = rw (parse-done at (drop at payload) e) tt
    go Lost e = rw (parse_lost at (drop at payload) e) tt
    go (Frame x) e = absurd (omega (arith, frame-inside (drop at payload) x e, length-drop at payload))
cut payload (suc n) at h = go (next_of (drop at payload)) refl (λ b l. cut payload n b l)
  where
    go : (m : Next) → next_of (drop at payload) ≡ m → ((b : ℕ) → length payload - b ≤ n → AllCut payload (parse b (drop b payload)).frames) → AllCut payload (parse at (drop at payload)).frames
    go Done e ih = rw (parse-done at (drop at payload) e) tt
    go Lost e ih = rw (parse_lost at (drop at payload) e) tt
    go (Frame x) e ih =
        let size : ℕ = payload_size_lem x.pli in
        let i : 8 + size ≤ length (drop at payload) = frame-inside (drop at payload) x e in
        let d : length (drop at payload) ≡ length payload - at = length-drop at payload in
        let c : x.pli ≤ size = covers x.pli in
        let m : length (take x.pli (drop 8 (drop at payload))) ≡ x.pli = length-take-le x.pli (drop 8 (drop at payload)) (omega (arith, length-drop 8 (drop at payload))) in
        rw (parse-next at (drop at payload) x e) (
          ap₂ take m (sym (drop-drop 8 at payload)),
          subst (λ (l : List ℕ). AllCut payload (parse (at + (8 + size)) l).frames) (sym (drop-drop (8 + size) at payload)) (ih (at + (8 + size)) (omega arith)),
        )

Own : List ℕ → List Extent → List (List ℕ) → ℕ → Type 0
Own payload ts ss k = (get_or ts k no_extent ≡ no_extent) ⊎ (take (get_or ts k no_extent).bytes (drop (get_or ts k no_extent).at payload) ≡ get_or ss k [])

-- one frame in front of those for which it holds
own_on : (payload memory : List ℕ) (e : Reassembly) (x : Xgem) (ts : List Extent) (ss : List (List ℕ)) → Cut payload x → ((k : ℕ) → Own payload ts ss k)
    → (k : ℕ) → Own payload (alone_at e (x.place + 8) (length x.body) ++ ts) (sdu_of memory e x.body ++ ss) k
unfolding Own
own_on payload memory Ignored x ts ss c ih k = ih k
own_on payload memory (Dropped slot waits) x ts ss c ih k = ih k
own_on payload memory (Delivered slot have) x ts ss c ih zero = go (eqb have 0) refl
  where
    go : (b : Bool) → eqb have 0 ≡ b → let t = cond b (record { at = x.place + 8; bytes = length x.body }) no_extent in (t ≡ no_extent) ⊎ (take t.bytes (drop t.at payload) ≡ partial memory slot have ++ x.body)
    go true e = inr (c ∙ ap (λ (l : List ℕ). l ++ x.body) (sym (nothing-held memory slot)) ∙ ap (λ (n : ℕ). partial memory slot n ++ x.body) (sym (eqb-true have 0 e)))
    go false e = inl refl
own_on payload memory (Delivered slot have) x ts ss c ih (suc k) = ih k
own_on payload memory (Appended slot have) x ts ss c ih k = ih k

own_all : (payload : List ℕ) (own : PortId) (s : Receiver) (frames : List Xgem) → AllCut payload frames → (k : ℕ) → Own payload (stretches own s.ports frames) (sdus own s frames) k
unfolding stretches sdus Own
own_all payload own s [] c = λ k. inl refl
own_all payload own s (x ∷ rest) c =
    let what = reassembly_of_lem s.ports own x.port x.last (length x.body) in
    subst (λ (p : Ports). (k : ℕ) → Own payload (alone_at what (x.place + xgem_header_bytes) (length x.body) ++ stretches own p rest) (sdus own s (x ∷ rest)) k)
    (ports_taken own s x.port x.last x.body)
    (own_on payload s.memory what x (stretches own (step own s x).ports rest) (sdus own (step own s x) rest) c.0 (own_all payload own (step own s x) rest c.1))

-- "An unfragmented SDU can also be had as its own stretch": delivery k's bytes, wherever the stretch is not the empty one
pub stretch_is_delivery : (own : PortId) (s : Receiver) (f : List ℕ) (begins k : ℕ)
    → let t = (stretch_of own s.ports begins f k).stretch in (t ≡ no_extent) ⊎ (take t.bytes (drop t.at f) ≡ get_or (sdus own s (parse begins (drop begins f)).frames) k [])
unfolding stretch_of extents_of Own
stretch_is_delivery own s f begins k = own_all f own s (parse begins (drop begins f)).frames (cut f (length f) begins (omega arith)) k
