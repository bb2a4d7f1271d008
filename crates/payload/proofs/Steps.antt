-- One XGEM frame: what it leaves, by what it does, and a receiver that is ready stays ready.
-- Assumes nothing.
use mathlib.Core.Path.{◌≡◌, refl, sym, ap, ap₂, ◌∙◌}
use mathlib.Core.Bool.{Bool}
use mathlib.Core.List.{List, [], ◌∷◌, ◌++◌, append_assoc}
use Prim.Native.Nat.{ℕ, ◌+◌, ◌≤◌, zero-le}
use native.Mathlib.Omega.{arith}
use lib.ListN.{length, get_or, length-append, length-set}
use Rattle.ids.specs.declared.PortId.{PortId}
use Rattle.octets.specs.Octets.{octets}
use Rattle.xgem.proofs.Numbers.{octets-length}
use Rattle.ports.specs.declared.Ports.{Ports}
use Rattle.ports.specs.Limits.{slots, added_ports, slot_bytes}
use Rattle.ports.specs.Ports.{drop_one_lem, appended, delivered}
use Rattle.fragments.specs.declared.Reassembly.{Reassembly}
use Rattle.fragments.specs.declared.Reassembly.TheVariants.{Ignored, Dropped, Delivered, Appended}
use Rattle.fragments.specs.Fragments.{reassembly_of_lem, ports_after}
use Rattle.fragments.specs.Within.{Within}
use Rattle.fragments.proofs.Decided.{reassembly_within, ids_after}
use Rattle.payload.specs.Memory.{Receiver, receiver_of, put, delivery, partial, extended, done, taken}
use Rattle.payload.specs.Bounds.{total, Ready}
use Rattle.payload.proofs.Put.{put-put, length-put}
use Rattle.payload.proofs.Slots.{length-partial, length-extended}
use Rattle.payload.proofs.Lengths.{total-set, one_of_total, lengths_set}

-- a delivery, put in three pieces
pub delivery-put : (d : List ℕ) (at n have : ℕ) (port : PortId) (part body : List ℕ) → at ≤ length d → length part ≡ have → n ≡ have + length body
    → put (put (put d at (octets 2 port.0 ++ octets 2 n)) (at + 4) part) (at + 4 + have) body ≡ put d at (delivery port (part ++ body))
unfolding delivery
delivery-put d at n have port part body h long e =
    let head : List ℕ = octets 2 port.0 ++ octets 2 n in
    let l : at + 4 + have ≡ at + length (head ++ part) = simp length-append (omega arith) in
    let k : n ≡ length (part ++ body) = e ∙ ap (λ (m : ℕ). m + length body) (sym long) ∙ sym (length-append part body) in
    ap (λ (x : List ℕ). put x (at + 4 + have) body) (put-put d at head part (at + 4) refl h)
    ∙ put-put d at (head ++ part) body (at + 4 + have) l h
    ∙ ap (put d at) (append_assoc head part body ∙ append_assoc (octets 2 port.0) (octets 2 n) (part ++ body) ∙ ap (λ (m : ℕ). octets 2 port.0 ++ (octets 2 m ++ (part ++ body))) k)

-- what a fragment leaves, a law for each thing that it can do
module _ (s : Receiver) (port : PortId) (body : List ℕ) where
  pub done-ignored : s ≡ done s Ignored port body
  unfolding done
  done-ignored = refl

  pub done_dropped : (slot : ℕ) (waits : Bool) (p : Ports) → p ≡ drop_one_lem s.ports slot waits
      → receiver_of p s.bytes s.memory s.deliveries ≡ done s (Dropped slot waits) port body
  unfolding done
  done_dropped slot waits p ep = ap (λ (q : Ports). receiver_of q s.bytes s.memory s.deliveries) ep

  pub done-delivered : (slot have : ℕ) (p : Ports) (d : List ℕ) → p ≡ delivered s.ports slot
      → d ≡ put s.deliveries s.bytes (delivery port (partial s.memory slot have ++ body))
      → receiver_of p (s.bytes + (4 + (have + length body))) s.memory d ≡ done s (Delivered slot have) port body
  unfolding done
  done-delivered slot have p d ep ed = ap₂ (λ (q : Ports) (l : List ℕ). receiver_of q (s.bytes + (4 + (have + length body))) s.memory l) ep ed

  pub done-appended : (slot have : ℕ) (p : Ports) (m : List ℕ) → p ≡ appended s.ports slot (have + length body) → m ≡ extended s.memory slot have body
      → receiver_of p s.bytes m s.deliveries ≡ done s (Appended slot have) port body
  unfolding done
  done-appended slot have p m ep em = ap₂ (λ (q : Ports) (l : List ℕ). receiver_of q s.bytes l s.deliveries) ep em

  -- what was decided is done
  pub taken-by : (own : PortId) (last : Bool) (e f : Reassembly) (r : Receiver) → e ≡ reassembly_of_lem s.ports own port last (length body) → e ≡ f
      → r ≡ done s f port body → r ≡ taken own s port last body
  unfolding taken
  taken-by own last e f r d g h = h ∙ ap (λ (z : Reassembly). done s z port body) (sym g ∙ d)

  pub ports_done : (e : Reassembly) → (done s e port body).ports ≡ ports_after s.ports e (length body)
  unfolding done
  ports_done Ignored = refl
  ports_done (Dropped i b) = refl
  ports_done (Delivered i have) = refl
  ports_done (Appended i have) = refl

pub length-delivery : (port : PortId) (sdu : List ℕ) → length (delivery port sdu) ≡ 4 + length sdu
unfolding delivery
length-delivery port sdu = omega arith

-- the buffers keep their lengths
kept-done : (s : Receiver) (e : Reassembly) (port : PortId) (body : List ℕ) → Ready s (4 + length body) → Within s.ports.lengths e (length body)
    → (length (done s e port body).memory ≡ length s.memory) × (length (done s e port body).deliveries ≡ length s.deliveries)
unfolding done
kept-done s Ignored port body r w = (refl, refl)
kept-done s (Dropped i b) port body r w = (refl, refl)
kept-done s (Delivered i have) port body r w =
    let h : have ≤ total s.ports.lengths = rw w.1 (one_of_total s.ports.lengths i) in
    let l : length (partial s.memory i have) ≡ have = length-partial s.memory i have w.0 (omega (arith, w.2)) r.memory in
    (refl, length-put s.deliveries s.bytes _ (simp (length-delivery, length-append, l) (omega (arith, r.space))))
kept-done s (Appended i have) port body r w = (length-extended s.memory i have body w.0 w.2 r.memory, refl)

-- what a frame takes of the room for deliveries
space-done : (s : Receiver) (e : Reassembly) (port : PortId) (body : List ℕ) (m : ℕ) → length s.ports.lengths ≡ slots → Within s.ports.lengths e (length body)
    → let r = done s e port body in r.bytes + (total r.ports.lengths + m) ≤ s.bytes + (total s.ports.lengths + (m + (4 + length body)))
unfolding done
space-done s Ignored port body m c w = omega arith
space-done s (Dropped i b) port body m c w = omega (arith, total-set s.ports.lengths i 0 (omega (arith, c)))
space-done s (Delivered i have) port body m c w = omega (arith, w.1, total-set s.ports.lengths i 0 (omega (arith, c)))
space-done s (Appended i have) port body m c w = omega (arith, w.1, total-set s.ports.lengths i (have + length body) (omega (arith, c)))

count_after : (p : Ports) (e : Reassembly) (n : ℕ) → length (ports_after p e n).lengths ≡ length p.lengths
count_after p Ignored n = refl
count_after p (Dropped i b) n = length-set p.lengths i 0
count_after p (Delivered i have) n = length-set p.lengths i 0
count_after p (Appended i have) n = length-set p.lengths i (have + n)

within-after : (p : Ports) (e : Reassembly) (n : ℕ) → ((i : ℕ) → get_or p.lengths i 0 ≤ slot_bytes) → Within p.lengths e n → (j : ℕ) → get_or (ports_after p e n).lengths j 0 ≤ slot_bytes
within-after p Ignored n h w = h
within-after p (Dropped i b) n h w = lengths_set p.lengths i 0 zero-le h
within-after p (Delivered i have) n h w = lengths_set p.lengths i 0 zero-le h
within-after p (Appended i have) n h w = lengths_set p.lengths i (have + n) w.2 h

pub ready_less : (s : Receiver) (n m : ℕ) → Ready s n → m ≤ n → Ready s m
ready_less s n m r h = record { ids = r.ids; count = r.count; within = r.within; memory = r.memory; space = omega (arith, r.space) }

module _ (own : PortId) (s : Receiver) (port : PortId) (last : Bool) (body : List ℕ) where
  abbrev what : Reassembly
  what = reassembly_of_lem s.ports own port last (length body)

  pub ports_taken : (taken own s port last body).ports ≡ ports_after s.ports what (length body)
  unfolding taken
  ports_taken = ports_done s port body what

  -- no frame changes which ports are ours
  pub ids_taken : (taken own s port last body).ports.ids ≡ s.ports.ids
  ids_taken = ap (λ (p : Ports). p.ids) ports_taken ∙ ids_after s.ports what (length body)

  pub within-taken : length s.ports.ids ≡ added_ports → Within s.ports.lengths what (length body)
  within-taken c = reassembly_within s.ports.ids s.ports.lengths s.ports.waiting own port last (length body) c

  pub kept_step : Ready s (4 + length body)
      → (length (taken own s port last body).memory ≡ length s.memory) × (length (taken own s port last body).deliveries ≡ length s.deliveries)
  unfolding taken
  kept_step r = kept-done s what port body r (within-taken r.ids)

  pub ready-step : (m : ℕ) → Ready s (m + (4 + length body)) → Ready (taken own s port last body) m
  unfolding taken
  ready-step m r =
      let w = within-taken r.ids in
      let k = kept-done s what port body (ready_less s (m + (4 + length body)) (4 + length body) r (omega arith)) w in
      let q = ports_done s port body what in
      record {
        ids = ap length ids_taken ∙ r.ids;
        count = ap (λ (p : Ports). length p.lengths) q ∙ count_after s.ports what (length body) ∙ r.count;
        within = rw q (within-after s.ports what (length body) r.within w);
        memory = omega (arith, k.0, r.memory);
        space = omega (arith, k.1, r.space, space-done s what port body m r.count w);
      }
