-- Payloads that differ only in payload bytes of ports that are not ours have equal stretches, and lose delineation alike.
-- Assumes nothing.
use mathlib.Core.Path.{◌≡◌, refl, sym, ap, ap₂, ◌∙◌}
use mathlib.Core.Bool.{cond}
use mathlib.Core.List.{List, ◌++◌}
use Prim.Native.Nat.{ℕ, ◌+◌}
use native.Mathlib.Omega.{arith}
use lib.Dec.{leb}
use lib.ListN.{length, take, drop, length-take, length-drop}
use Rattle.ids.specs.declared.PortId.{PortId}
use Rattle.hec.specs.Reads.{reading}
use Rattle.octets.specs.Octets.{value}
use Rattle.xgem.specs.Layouts.{xgem_of, payload_size_lem}
use Rattle.xgem.specs.Reads.{taken, short}
use Rattle.ports.specs.declared.Ports.{Ports}
use Rattle.fragments.specs.Fragments.{reassembly_of_lem, ports_after}
use Rattle.payload.specs.Frames.{Parsed, ahead, next_of, parse}
use Rattle.payload.specs.Alike.{Alike, equal, past, beyond}
use Rattle.payload.proofs.Isolation.{cut_short}
use Rattle.payload.proofs.Walks.{parse_lost, parse-next}
use Rattle.stretches.specs.declared.Extent.{Extent}
use Rattle.stretches.specs.Stretch.{alone_at, stretches}

-- a header stands in the first eight bytes
next-same : (s t : List ℕ) → take 8 s ≡ take 8 t → length s ≡ length t → next_of s ≡ next_of t
next-same s t e l = ap₂ (λ (h : List ℕ) (n : ℕ). ahead (cond (leb 8 n) (taken xgem_of (reading 64 (value h))) short) n) e l

same_length : (n : ℕ) (s t : List ℕ) → length s ≡ length t → length (take n (drop 8 s)) ≡ length (take n (drop 8 t))
same_length n s t e = omega (arith, e, length-take n (drop 8 s), length-take n (drop 8 t), length-drop 8 s, length-drop 8 t)

pub same-stretches : {own : PortId} {ids : List PortId} {a b : List ℕ} → Alike own ids a b → (place : ℕ) (p : Ports)
    → (stretches own p (parse place a).frames ≡ stretches own p (parse place b).frames) × ((parse place a).lost ≡ (parse place b).lost)
unfolding stretches
same-stretches equal place p = (refl, refl)
same-stretches {own} (past {s = a} {t = b} x e t l d r) place p =
    let size = 8 + payload_size_lem x.pli in
    let at_a = parse-next place a x e in
    let at_b = parse-next place b x (sym (next-same a b t l) ∙ e) in
    let n = length (take x.pli (drop 8 a)) in
    let m : n ≡ length (take x.pli (drop 8 b)) = same_length x.pli a b l in
    let ih = same-stretches r (place + size) (ports_after p (reassembly_of_lem p own x.port x.last n) n) in
    let front : ℕ → List Extent = λ k. alone_at (reassembly_of_lem p own x.port x.last k) (place + 8) k in
    let behind : ℕ → List Extent = λ k. stretches own (ports_after p (reassembly_of_lem p own x.port x.last k) k) (parse (place + size) (drop size b)).frames in (
      ap (λ (q : Parsed). stretches own p q.frames) at_a ∙ ap (λ (rest : List Extent). front n ++ rest) ih.0
          ∙ ap (λ (k : ℕ). front k ++ behind k) m ∙ sym (ap (λ (q : Parsed). stretches own p q.frames) at_b),
      ap (λ (q : Parsed). q.lost) at_a ∙ ih.1 ∙ sym (ap (λ (q : Parsed). q.lost) at_b),
    )
same-stretches {own} (beyond {s = a} {t = b} x e long t l no_slot) place p =
    let lost = cut_short a x e long in
    let at_a = parse_lost place a lost in
    let at_b = parse_lost place b (sym (next-same a b t l) ∙ lost) in (
      ap (λ (q : Parsed). stretches own p q.frames) (at_a ∙ sym at_b),
      ap (λ (q : Parsed). q.lost) (at_a ∙ sym at_b),
    )
