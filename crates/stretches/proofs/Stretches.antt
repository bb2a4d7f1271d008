-- The stretches of what is left of a frame, by its next XGEM frame.
-- Assumes nothing.
use mathlib.Core.Path.{◌≡◌, refl, sym, ap, ap₂, ◌∙◌}
use mathlib.Core.Bool.{true, false}
use mathlib.Core.List.{List, [], ◌++◌}
use Prim.Native.Nat.{ℕ, ◌+◌, ◌≤◌}
use native.Mathlib.Nat.{add_assoc}
use native.Mathlib.Omega.{arith}
use lib.ListN.{length, take, drop, length-drop}
use lib.Seq.{length-take-le, drop-drop}
use Rattle.ids.specs.declared.PortId.{PortId}
use Rattle.xgem.specs.declared.frame.XgemHeader.{XgemHeader}
use Rattle.xgem.specs.Layouts.{payload_size_lem}
use Rattle.xgem.proofs.Frames.{covers}
use Rattle.ports.specs.declared.Ports.{Ports}
use Rattle.fragments.specs.declared.Reassembly.{Reassembly}
use Rattle.fragments.specs.Fragments.{reassembly_of_lem, ports_after}
use Rattle.payload.specs.declared.frames.Next.TheVariants.{Done, Lost, Frame}
use Rattle.payload.specs.Frames.{next_of, Parsed, parse}
use Rattle.payload.proofs.Walks.{frame-inside, parse-done, parse_lost, parse-next}
use Rattle.stretches.specs.declared.Extent.{Extent}
use Rattle.stretches.specs.Stretch.{alone_at, stretches, extents_of, lost_in}

module _ (f : List ℕ) (at : ℕ) where
  pub lost_done : next_of (drop at f) ≡ Done → lost_in at f ≡ false
  unfolding lost_in
  lost_done e = ap (λ (q : Parsed). q.lost) (parse-done at (drop at f) e)

  pub lost_lost : next_of (drop at f) ≡ Lost → lost_in at f ≡ true
  unfolding lost_in
  lost_lost e = ap (λ (q : Parsed). q.lost) (parse_lost at (drop at f) e)

  -- behind a frame the parse goes on from there
  onward : (x : XgemHeader) → let size = payload_size_lem x.pli in parse (at + 8 + size) (drop (at + 8 + size) f) ≡ parse (at + (8 + size)) (drop (8 + size) (drop at f))
  onward x =
      let size : ℕ = payload_size_lem x.pli in
      ap₂ parse (add_assoc at 8 size) (ap (λ (j : ℕ). drop j f) (add_assoc at 8 size) ∙ sym (drop-drop (8 + size) at f))

  pub lost_next : (x : XgemHeader) → next_of (drop at f) ≡ Frame x → lost_in at f ≡ lost_in (at + 8 + payload_size_lem x.pli) f
  unfolding lost_in
  lost_next x e = ap (λ (q : Parsed). q.lost) (parse-next at (drop at f) x e ∙ refl) ∙ ap (λ (q : Parsed). q.lost) (sym (onward x))

  module _ (own : PortId) (p : Ports) where
    pub extents-done : next_of (drop at f) ≡ Done → extents_of own p at f ≡ []
    unfolding extents_of stretches
    extents-done e = ap (λ (q : Parsed). stretches own p q.frames) (parse-done at (drop at f) e)

    pub extents-lost : next_of (drop at f) ≡ Lost → extents_of own p at f ≡ []
    unfolding extents_of stretches
    extents-lost e = ap (λ (q : Parsed). stretches own p q.frames) (parse_lost at (drop at f) e)

    pub extents-next : (x : XgemHeader) → next_of (drop at f) ≡ Frame x → (e : Reassembly) → e ≡ reassembly_of_lem p own x.port x.last x.pli
        → extents_of own p at f ≡ alone_at e (at + 8) x.pli ++ extents_of own (ports_after p e x.pli) (at + 8 + payload_size_lem x.pli) f
    unfolding extents_of stretches
    extents-next x n e d =
        let size : ℕ = payload_size_lem x.pli in
        let body : List ℕ = take x.pli (drop 8 (drop at f)) in
        let i : 8 + size ≤ length (drop at f) = frame-inside (drop at f) x n in
        let c : x.pli ≤ size = covers x.pli in
        let m : length body ≡ x.pli = length-take-le x.pli (drop 8 (drop at f)) (omega (arith, length-drop 8 (drop at f))) in
        let by : Parsed → Reassembly → ℕ → List Extent = λ (q : Parsed) (z : Reassembly) (j : ℕ). alone_at z (at + 8) j ++ stretches own (ports_after p z j) q.frames in
        ap (λ (q : Parsed). stretches own p q.frames) (parse-next at (drop at f) x n)
        ∙ ap (λ (j : ℕ). by (parse (at + (8 + size)) (drop (8 + size) (drop at f))) (reassembly_of_lem p own x.port x.last j) j) m
        ∙ ap₂ (λ (q : Parsed) (z : Reassembly). by q z x.pli) (sym (onward x)) (sym d)
