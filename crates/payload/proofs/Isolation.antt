-- Payloads that differ only in payload bytes of ports that are not ours leave the same: ports, memory, deliveries, answer.
-- Assumes nothing.
use mathlib.Core.Path.{◌≡◌, refl, sym, ap, ap₂, ◌∙◌}
use mathlib.Core.Logic.{◌⊎◌, inl, inr}
use mathlib.Core.Bool.{Bool, true, false, cond}
use mathlib.Core.List.{List}
use Prim.Native.Nat.{ℕ, ◌+◌, ◌<◌, ◌≤◌}
use lib.Dec.{eqb, leb}
use lib.ListN.{length, take, drop}
use borrow.Author.Tests.{lt-leb}
use Rattle.std.specs.Prelude.{None, Option, ℕ}
use Rattle.ids.specs.declared.PortId.{PortId}
use Rattle.hec.specs.Reads.{reading}
use Rattle.xgem.specs.declared.frame.XgemHeader.{XgemHeader}
use Rattle.octets.specs.Octets.{value}
use Rattle.xgem.specs.Layouts.{xgem_of, payload_size_lem}
use Rattle.xgem.specs.Reads.{Found, fields, taken as taken-fields, short, read_xgem_lem}
use Rattle.ports.specs.declared.Ports.{Ports}
use Rattle.fragments.specs.declared.Reassembly.TheVariants.{Ignored}
use Rattle.fragments.specs.Fragments.{slot_in_lem, slot_of, at_place_lem, reassembly_of_lem}
use Rattle.payload.specs.declared.frames.Next.TheVariants.{Lost, Frame}
use Rattle.payload.specs.Frames.{ahead, next_of, ended}
use Rattle.payload.specs.Memory.{Receiver, taken}
use Rattle.payload.specs.Walk.{left_by, walk_of}
use Rattle.payload.specs.Alike.{Alike, equal, past, beyond}
use Rattle.payload.proofs.Steps.{done-ignored, taken-by, ids_taken}
use Rattle.payload.proofs.Walks.{parse_lost, walk_next}

-- a frame whose port has no slot does nothing
no_effect : (p : Ports) (own port : PortId) (last : Bool) (n : ℕ) → slot_of p own port ≡ None → reassembly_of_lem p own port last n ≡ Ignored
no_effect p own port last n h = ap (λ (q : Option ℕ). cond (eqb n 0) Ignored (at_place_lem p.lengths p.waiting last n q)) h ∙ go (eqb n 0)
  where
    go : (b : Bool) → cond b Ignored Ignored ≡ Ignored
    go true = refl
    go false = refl

foreign : (own : PortId) (s : Receiver) (port : PortId) (last : Bool) (body : List ℕ) → slot_of s.ports own port ≡ None → taken own s port last body ≡ s
foreign own s port last body h = sym (taken-by s port body own last _ _ s refl (no_effect s.ports own port last (length body) h) (done-ignored s port body))

-- a header stands in the first eight bytes
next-same : (s t : List ℕ) → take 8 s ≡ take 8 t → length s ≡ length t → next_of s ≡ next_of t
next-same s t e l =
    ap₂ (λ (h : List ℕ) (n : ℕ). ahead (cond (leb 8 n) (taken-fields xgem_of (reading 64 (value h))) short) n) e l

-- the two frames do the same
same_taken : (own : PortId) (s : Receiver) (port : PortId) (last : Bool) (a b : List ℕ) → (slot_of s.ports own port ≡ None) ⊎ (a ≡ b)
    → taken own s port last a ≡ taken own s port last b
same_taken own s port last a b (inl h) = foreign own s port last a h ∙ sym (foreign own s port last b h)
same_taken own s port last a b (inr e) = ap (taken own s port last) e

-- a payload that is longer than what is left
pub cut_short : (s : List ℕ) (x : XgemHeader) → read_xgem_lem s ≡ fields x → length s < 8 + payload_size_lem x.pli → next_of s ≡ Lost
cut_short s x e long =
    ap (λ (r : Found XgemHeader). ahead r (length s)) e ∙ ap (λ (b : Bool). cond b (Frame x) Lost) (lt-leb (8 + payload_size_lem x.pli) (length s) long)

walk_lost : (own : PortId) (s : Receiver) (place : ℕ) (payload : List ℕ) → next_of payload ≡ Lost → walk_of own s place payload ≡ left_by own s (ended true)
unfolding walk_of
walk_lost own s place payload e = ap (left_by own s) (parse_lost place payload e)

pub isolated : {own : PortId} {ids : List PortId} {a b : List ℕ} → Alike own ids a b → (place : ℕ) (s : Receiver) → s.ports.ids ≡ ids
    → walk_of own s place a ≡ walk_of own s place b
isolated equal place s i = refl
isolated {own} {ids} (past {s = a} {t = b} x e t l d r) place s i =
    let s' : Receiver = taken own s x.port x.last (take x.pli (drop 8 a)) in
    walk_next own s place a x e
    ∙ isolated r (place + (8 + payload_size_lem x.pli)) s' (ids_taken own s x.port x.last (take x.pli (drop 8 a)) ∙ i)
    ∙ ap (λ (z : Receiver). walk_of own z (place + (8 + payload_size_lem x.pli)) (drop (8 + payload_size_lem x.pli) b))
    (same_taken own s x.port x.last (take x.pli (drop 8 a)) (take x.pli (drop 8 b)) (rw i d))
    ∙ sym (walk_next own s place b x (sym (next-same a b t l) ∙ e))
isolated {own} {ids} (beyond {s = a} {t = b} x e long t l no_slot) place s i =
    let lost = cut_short a x e long in
    walk_lost own s place a lost ∙ sym (walk_lost own s place b (sym (next-same a b t l) ∙ lost))
