-- The count of delivery bytes is true: what stands in the deliveries is what the frames deliver, in order, from where the
-- count began, and nothing else has changed.
-- Assumes nothing.
use mathlib.Core.Path.{◌≡◌, refl, sym, ap, ap₂, ◌∙◌}
use mathlib.Core.List.{List, [], ◌∷◌, ◌++◌}
use Prim.Native.Nat.{ℕ, zero, suc, ◌+◌, ◌-◌, ◌*◌, ◌≤◌, ◌<◌}
use native.Mathlib.Nat.{add-zero, add_assoc}
use native.Mathlib.Omega.{arith}
use lib.ListN.{length, take, drop, length-append, length-drop, take-append-drop}
use lib.Seq.{length-take-le}
use Rattle.ids.specs.declared.PortId.{PortId}
use Rattle.xgem.proofs.Numbers.{octets-length}
use Rattle.ports.specs.Limits.{slots, slot_bytes}
use Rattle.fragments.specs.declared.Reassembly.{Reassembly}
use Rattle.fragments.specs.declared.Reassembly.TheVariants.{Ignored, Dropped, Delivered, Appended}
use Rattle.fragments.specs.Fragments.{reassembly_of_lem}
use Rattle.fragments.specs.Within.{Within}
use Rattle.payload.specs.Frames.{Xgem}
use Rattle.payload.specs.Memory.{Receiver, put, delivery, partial, done, taken, step}
use Rattle.payload.specs.Bounds.{Ready}
use Rattle.payload.specs.Walk.{steps}
use Rattle.payload.specs.Deliveries.{delivery_of, deliveries_of}
use Rattle.payload.proofs.Put.{put-put}
use Rattle.payload.proofs.Slots.{length-partial}
use Rattle.payload.proofs.Steps.{ready_less, ready-step, within-taken, length-delivery}

put-nothing : (d : List ℕ) (at : ℕ) → put d at [] ≡ d
unfolding put
put-nothing d at = ap (λ (n : ℕ). take at d ++ drop n d) (add-zero at) ∙ take-append-drop at d

-- what one frame adds
added : (s : Receiver) (e : Reassembly) (port : PortId) (body : List ℕ) → Ready s (4 + length body) → Within s.ports.lengths e (length body)
    → ((done s e port body).deliveries ≡ put s.deliveries s.bytes (delivery_of s.memory e port body))
    × ((done s e port body).bytes ≡ s.bytes + length (delivery_of s.memory e port body))
unfolding done
added s Ignored port body r w = (sym (put-nothing s.deliveries s.bytes), sym (add-zero s.bytes))
added s (Dropped i b) port body r w = (sym (put-nothing s.deliveries s.bytes), sym (add-zero s.bytes))
added s (Delivered i have) port body r w =
    let l : length (partial s.memory i have) ≡ have = length-partial s.memory i have w.0 (omega (arith, w.2)) r.memory in
    let sdu : List ℕ = partial s.memory i have ++ body in
    (refl, ap (λ (n : ℕ). s.bytes + n) (sym (length-delivery port sdu ∙ ap (λ (n : ℕ). 4 + n) (length-append (partial s.memory i have) body ∙ ap (λ (n : ℕ). n + length body) l))))
added s (Appended i have) port body r w = (sym (put-nothing s.deliveries s.bytes), sym (add-zero s.bytes))

-- the room that frames ask for
unfoldable pub asked : List Xgem → ℕ
asked [] = 0
asked (x ∷ rest) = asked rest + (4 + length x.body)

pub counts_true : (own : PortId) (s : Receiver) (frames : List Xgem) → Ready s (asked frames)
    → ((steps own s frames).deliveries ≡ put s.deliveries s.bytes (deliveries_of own s frames)) × ((steps own s frames).bytes ≡ s.bytes + length (deliveries_of own s frames))
unfolding steps deliveries_of asked taken
counts_true own s [] r = (sym (put-nothing s.deliveries s.bytes), sym (add-zero s.bytes))
counts_true own s (x ∷ rest) r =
    join (added s e x.port x.body now-ready (within-taken own s x.port x.last x.body r.ids))
    (counts_true own (step own s x) rest (ready-step own s x.port x.last x.body (asked rest) r))
  where
    e : Reassembly
    e = reassembly_of_lem s.ports own x.port x.last (length x.body)

    now-ready : Ready s (4 + length x.body)
    now-ready = ready_less s (asked rest + (4 + length x.body)) (4 + length x.body) r (omega arith)

    one : List ℕ
    one = delivery_of s.memory e x.port x.body

    more : List ℕ
    more = deliveries_of own (step own s x) rest

    join : ((step own s x).deliveries ≡ put s.deliveries s.bytes one) × ((step own s x).bytes ≡ s.bytes + length one)
        → ((steps own (step own s x) rest).deliveries ≡ put (step own s x).deliveries (step own s x).bytes more) × ((steps own (step own s x) rest).bytes ≡ (step own s x).bytes + length more)
        → ((steps own (step own s x) rest).deliveries ≡ put s.deliveries s.bytes (one ++ more)) × ((steps own (step own s x) rest).bytes ≡ s.bytes + length (one ++ more))
    join (d, b) (ds, bs) = (
      ds ∙ ap₂ (λ (l : List ℕ) (n : ℕ). put l n more) d b ∙ put-put s.deliveries s.bytes one more (s.bytes + length one) refl (omega (arith, r.space)),
      bs ∙ ap (λ (n : ℕ). n + length more) b ∙ add_assoc s.bytes (length one) (length more) ∙ ap (λ (n : ℕ). s.bytes + n) (sym (length-append one more)),
    )
