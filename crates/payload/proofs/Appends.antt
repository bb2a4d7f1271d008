-- The port memory after a payload is what was appended to slots, each part within its slot, and nothing else has changed.
-- Assumes nothing.
use mathlib.Core.Path.{◌≡◌, refl, sym, ◌∙◌, ap}
use mathlib.Core.List.{List, [], ◌∷◌, ◌++◌}
use Prim.Native.Nat.{ℕ, ◌+◌, ◌≤◌, ◌<◌}
use native.Mathlib.Omega.{arith}
use lib.ListN.{length}
use Rattle.ids.specs.declared.PortId.{PortId}
use Rattle.ports.specs.Limits.{slots, slot_bytes, added_ports}
use Rattle.fragments.specs.declared.Reassembly.{Reassembly}
use Rattle.fragments.specs.declared.Reassembly.TheVariants.{Ignored, Dropped, Delivered, Appended}
use Rattle.fragments.specs.Fragments.{reassembly_of_lem}
use Rattle.fragments.specs.Within.{Within}
use Rattle.payload.specs.Frames.{Xgem}
use Rattle.payload.specs.Memory.{extended, Receiver, done, taken, step}
use Rattle.payload.specs.Walk.{steps}
use Rattle.payload.specs.Appends.{Append, append_of, appends_of, laid, InSlots}
use Rattle.payload.proofs.Steps.{within-taken, ids_taken}

-- one frame
laid_done : (s : Receiver) (e : Reassembly) (port : PortId) (body : List ℕ) → (done s e port body).memory ≡ laid s.memory (append_of e body)
unfolding done
laid_done s Ignored port body = refl
laid_done s (Dropped slot waits) port body = refl
laid_done s (Delivered slot have) port body = refl
laid_done s (Appended slot have) port body = refl

laid_join : (memory : List ℕ) (l k : List Append) → laid memory (l ++ k) ≡ laid (laid memory l) k
laid_join memory [] k = refl
laid_join memory (a ∷ l) k = laid_join (extended memory a.slot a.have a.body) l k

pub memory-laid : (own : PortId) (s : Receiver) (frames : List Xgem) → (steps own s frames).memory ≡ laid s.memory (appends_of own s frames)
unfolding steps appends_of taken
memory-laid own s [] = refl
memory-laid own s (x ∷ rest) =
    let e = reassembly_of_lem s.ports own x.port x.last (length x.body) in
    memory-laid own (step own s x) rest
    ∙ ap (λ (m : List ℕ). laid m (appends_of own (step own s x) rest)) (laid_done s e x.port x.body)
    ∙ sym (laid_join s.memory (append_of e x.body) (appends_of own (step own s x) rest))

-- within their slots
join_in : (l k : List Append) → InSlots l → InSlots k → InSlots (l ++ k)
join_in [] k a b = b
join_in (x ∷ l) k (p, q, a) b = (p, q, join_in l k a b)

append-in : (lengths : List ℕ) (e : Reassembly) (body : List ℕ) → Within lengths e (length body) → InSlots (append_of e body)
append-in lengths Ignored body w = tt
append-in lengths (Dropped slot waits) body w = tt
append-in lengths (Delivered slot have) body w = tt
append-in lengths (Appended slot have) body w = (w.0, omega (arith, w.2), tt)

pub appends_in : (own : PortId) (s : Receiver) (frames : List Xgem) → length s.ports.ids ≡ added_ports → InSlots (appends_of own s frames)
unfolding appends_of
appends_in own s [] c = tt
appends_in own s (x ∷ rest) c =
    join_in (append_of (reassembly_of_lem s.ports own x.port x.last (length x.body)) x.body) (appends_of own (step own s x) rest)
    (append-in s.ports.lengths (reassembly_of_lem s.ports own x.port x.last (length x.body)) x.body (within-taken own s x.port x.last x.body c))
    (appends_in own (step own s x) rest (ap length (ids_taken own s x.port x.last x.body) ∙ c))
