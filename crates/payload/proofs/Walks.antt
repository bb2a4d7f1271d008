-- The payload as frames, a case each, and what holds at each turn of the walk.
-- Assumes nothing.
use mathlib.Core.Path.{◌≡◌, refl, sym, ap, ◌∙◌}
use mathlib.Core.Bool.{Bool, true, false, cond}
use mathlib.Core.List.{List, [], ◌∷◌, ◌++◌}
use Prim.Native.Nat.{ℕ, zero, suc, ◌+◌, ◌-◌, ◌*◌, ◌^◌, ◌≤◌, ◌<◌, zero-le}
use native.Mathlib.Nat.{le_refl, add-sub_cancel_left, add_assoc}
use native.Mathlib.Omega.{arith}
use borrow.Author.Tests.{le-leb, lt-leb, leb-true}
use lib.Dec.{leb}
use lib.ListN.{length, take, drop, length-drop}
use lib.Seq.{take_all, drop-drop, length-take-le}
use Rattle.ids.specs.declared.PortId.{PortId}
use Rattle.xgem.specs.declared.frame.XgemHeader.{XgemHeader}
use Rattle.xgem.specs.Layouts.{payload_size_lem}
use Rattle.xgem.specs.Reads.{Found, fields, unreadable, short, read_xgem_lem}
use Rattle.xgem.proofs.Frames.{covers}
use Rattle.payload.specs.declared.frames.Next.{Next}
use Rattle.payload.specs.declared.frames.Next.TheVariants.{Done, Lost, Frame}
use Rattle.payload.specs.declared.walk.Delineation.TheVariants.{Kept, Lost as LostDelineation}
use Rattle.payload.specs.Frames.{Xgem, ahead, next_of, Parsed, ended, with, frame_of, onward, parse_in, parse}
use Rattle.payload.specs.Memory.{Receiver, taken}
use Rattle.payload.specs.Bounds.{Ready}
use Rattle.payload.specs.Walk.{steps, ended_by, Walked, left_by, walk_of}
use Rattle.payload.proofs.Steps.{ready_less, ready-step, kept_step}

-- a frame that is found lies within what is left
abbrev Framed : Next → ℕ → Type 0
Framed Done n = Unit {0}
Framed Lost n = Unit {0}
Framed (Frame x) n = 8 + payload_size_lem x.pli ≤ n

framed : (s : List ℕ) → Framed (next_of s) (length s)
framed s = go (read_xgem_lem s)
  where
    inner : (x : XgemHeader) (b : Bool) → leb (8 + payload_size_lem x.pli) (length s) ≡ b → Framed (cond b (Frame x) Lost) (length s)
    inner x true e = leb-true (8 + payload_size_lem x.pli) (length s) e
    inner x false e = tt

    go : (f : Found XgemHeader) → Framed (ahead f (length s)) (length s)
    go short = tt
    go unreadable = tt
    go (fields x) = inner x (leb (8 + payload_size_lem x.pli) (length s)) refl

pub frame-inside : (s : List ℕ) (x : XgemHeader) → next_of s ≡ Frame x → 8 + payload_size_lem x.pli ≤ length s
frame-inside s x e = rw e at (framed s)

-- nothing is left where nothing stands
next_none : (s : List ℕ) → length s ≡ 0 → next_of s ≡ Done
next_none s e = rw (lt-leb 8 (length s) (omega arith))

-- the parse does not depend on its count
onward-same : (n : Next) (place : ℕ) (s : List ℕ) (f g : ℕ → List ℕ → Parsed) → Framed n (length s)
    → ((at k : ℕ) → 8 + k ≤ length s → f at (drop (8 + k) s) ≡ g at (drop (8 + k) s)) → onward n place s f ≡ onward n place s g
unfolding onward
onward-same Done place s f g h e = refl
onward-same Lost place s f g h e = refl
onward-same (Frame x) place s f g h e = ap (with (frame_of x place s)) (e (place + (8 + payload_size_lem x.pli)) (payload_size_lem x.pli) h)

parse-same : (f g place : ℕ) (s : List ℕ) → length s ≤ f → length s ≤ g → parse_in f place s ≡ parse_in g place s
unfolding parse_in onward
parse-same zero zero place s h k = refl
parse-same zero (suc g) place s h k = rw (next_none s (omega arith))
parse-same (suc f) zero place s h k = rw (next_none s (omega arith))
parse-same (suc f) (suc g) place s h k =
    onward-same (next_of s) place s (parse_in f) (parse_in g) (framed s)
    (λ at m l. parse-same f g at (drop (8 + m) s) (simp length-drop (omega arith)) (simp length-drop (omega arith)))

pub parse-onward : (place : ℕ) (s : List ℕ) → parse place s ≡ onward (next_of s) place s parse
unfolding parse parse_in onward
parse-onward place s = go (length s) refl
  where
    go : (n : ℕ) → length s ≡ n → parse_in n place s ≡ onward (next_of s) place s parse
    go zero e = rw (next_none s e)
    go (suc n) e =
        onward-same (next_of s) place s (parse_in n) parse (framed s)
        (λ at m l. parse-same n (length (drop (8 + m) s)) at (drop (8 + m) s) (simp length-drop (omega arith)) (le_refl _))

module _ (place : ℕ) (s : List ℕ) where
  pub parse-done : next_of s ≡ Done → parse place s ≡ ended false
  unfolding onward
  parse-done e = parse-onward place s ∙ rw e

  pub parse_lost : next_of s ≡ Lost → parse place s ≡ ended true
  unfolding onward
  parse_lost e = parse-onward place s ∙ rw e

  pub parse-next : (x : XgemHeader) → next_of s ≡ Frame x
      → parse place s ≡ with (frame_of x place s) (parse (place + (8 + payload_size_lem x.pli)) (drop (8 + payload_size_lem x.pli) s))
  unfolding onward
  parse-next x e = parse-onward place s ∙ rw e

-- the walk, a case each
abbrev pub kept_at : Receiver → Walked
kept_at r = record { receiver = r; delineation = Kept }

abbrev pub lost_at : Receiver → Walked
lost_at r = record { receiver = ended_by true r; delineation = LostDelineation }

module _ (own : PortId) (r : Receiver) (place : ℕ) (s : List ℕ) where
  walk_done : next_of s ≡ Done → walk_of own r place s ≡ kept_at r
  unfolding walk_of left_by steps ended_by
  walk_done e = ap (left_by own r) (parse-done place s e)

  walk_lost : next_of s ≡ Lost → walk_of own r place s ≡ lost_at r
  unfolding walk_of left_by steps
  walk_lost e = ap (left_by own r) (parse_lost place s e)

  pub walk_next : (x : XgemHeader) → next_of s ≡ Frame x
      → walk_of own r place s ≡ walk_of own (taken own r x.port x.last (take x.pli (drop 8 s))) (place + (8 + payload_size_lem x.pli)) (drop (8 + payload_size_lem x.pli) s)
  unfolding walk_of left_by steps
  walk_next x e = ap (left_by own r) (parse-next place s x e)

-- parts as the code hands them on and as the parse cuts them
pub rest_part : (payload : List ℕ) (at : ℕ) → take (length payload - at) (drop at payload) ≡ drop at payload
rest_part payload at = take_all (length payload - at) (drop at payload) (simp length-drop (le_refl _))

pub body_part : (payload : List ℕ) (at pli : ℕ) → take (at + 8 + pli - (at + 8)) (drop (at + 8) payload) ≡ take pli (drop 8 (drop at payload))
body_part payload at pli = ap (λ (k : ℕ). take k (drop (at + 8) payload)) (add-sub_cancel_left (at + 8) pli) ∙ ap (take pli) (sym (drop-drop 8 at payload))

rest-next : (payload : List ℕ) (at size : ℕ) → drop (at + 8 + size) payload ≡ drop (8 + size) (drop at payload)
rest-next payload at size = ap (λ (k : ℕ). drop k payload) (add_assoc at 8 size) ∙ sym (drop-drop (8 + size) at payload)

-- the numbers of a frame that was found at index at
pub record Numbers (payload : List ℕ) (at pli : ℕ) : Type 0 where
  pub most : pli < 2 ^ 14
  pub within : pli ≤ payload_size_lem pli
  pub fits : at + 8 + payload_size_lem pli ≤ length payload
  pub long : length payload < 2 ^ 64

pub numbers_of : (payload : List ℕ) (at pli : ℕ) → pli < 2 ^ 14 → 8 + payload_size_lem pli ≤ length (take (length payload - at) (drop at payload)) → at ≤ length payload → length payload < 2 ^ 64 → Numbers payload at pli
numbers_of payload at pli m f h w =
    let d : length (take (length payload - at) (drop at payload)) ≡ length payload - at = ap length (rest_part payload at) ∙ length-drop at payload in
    record { most = m; within = covers pli; fits = omega arith; long = w }

-- at index at of the payload: what is still to come leaves what the whole leaves, and there is room for it
pub record At (own : PortId) (place : ℕ) (payload : List ℕ) (r₀ r : Receiver) (at : ℕ) : Type 0 where
  pub inside : at ≤ length payload
  pub rest : walk_of own r (place + at) (drop at payload) ≡ walk_of own r₀ place payload
  pub ready : Ready r (length payload - at)
  pub memory : length r.memory ≡ length r₀.memory
  pub deliveries : length r.deliveries ≡ length r₀.deliveries

pub at-start : (own : PortId) (place : ℕ) (payload : List ℕ) (r : Receiver) → Ready r (length payload) → At own place payload r r 0
at-start own place payload r h =
    record {
      inside = zero-le;
      rest = ap (λ (k : ℕ). walk_of own r k payload) (omega arith);
      ready = ready_less r (length payload) (length payload - 0) h (omega arith);
      memory = refl;
      deliveries = refl;
    }

module _ (own : PortId) (place : ℕ) (payload : List ℕ) (r₀ r : Receiver) (at : ℕ) (a : At own place payload r₀ r at) where
  pub at_done : next_of (drop at payload) ≡ Done → kept_at r ≡ walk_of own r₀ place payload
  at_done e = sym (walk_done own r (place + at) (drop at payload) e) ∙ a.rest

  pub at_lost : next_of (drop at payload) ≡ Lost → lost_at r ≡ walk_of own r₀ place payload
  at_lost e = sym (walk_lost own r (place + at) (drop at payload) e) ∙ a.rest

  pub at_turn : (x : XgemHeader) → next_of (drop at payload) ≡ Frame x → (r' : Receiver)
      → r' ≡ taken own r x.port x.last (take (at + 8 + x.pli - (at + 8)) (drop (at + 8) payload)) → At own place payload r₀ r' (at + 8 + payload_size_lem x.pli)
  at_turn x e r' ex =
      let size : ℕ = payload_size_lem x.pli in
      let body : List ℕ = take x.pli (drop 8 (drop at payload)) in
      let i : 8 + size ≤ length (drop at payload) = frame-inside (drop at payload) x e in
      let c : x.pli ≤ size = covers x.pli in
      let d : length (drop at payload) ≡ length payload - at = length-drop at payload in
      let n : length body ≡ x.pli = length-take-le x.pli (drop 8 (drop at payload)) (omega (arith, length-drop 8 (drop at payload))) in
      let h : Ready r (length payload - (at + 8 + size) + (4 + length body)) = ready_less r _ _ a.ready (omega arith) in
      let k = kept_step own r x.port x.last body (ready_less r _ _ h (omega arith)) in
      let q : r' ≡ taken own r x.port x.last body = ex ∙ ap (taken own r x.port x.last) (body_part payload at x.pli) in
      let p : place + (at + 8 + size) ≡ place + at + (8 + size) = omega arith in
      rw q (record {
        inside = omega (arith, a.inside);
        rest = rw (p, rest-next payload at size) (sym (walk_next own r (place + at) (drop at payload) x e) ∙ a.rest);
        ready = ready-step own r x.port x.last body _ h;
        memory = k.0 ∙ a.memory;
        deliveries = k.1 ∙ a.deliveries;
      })
