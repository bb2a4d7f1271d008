-- The payload leaves the ports in range.
-- Assumes nothing.
use Prim.Native.Nat.{ℕ, suc, ◌+◌, ◌-◌, ◌≤◌, ◌<◌}
use native.Mathlib.Omega.{arith}
use mathlib.Core.Path.{◌≡◌, ◌∙◌, refl, sym, ap, subst}
use mathlib.Core.Bool.{Bool, true, false, not, cond, ◌||◌, false≢true}
use mathlib.Core.List.{List, [], ◌∷◌}
use lib.Dec.{eqb, leb, ltb}
use lib.ListN.{length, get_or, set, length-set}
use lib.Seq.{get_or-set_same, get_or-set_other, set-get_or}
use borrow.Author.Tests.{eqb-true, eqb-false, leb-true, ltb-false, le-leb, ne_eqb}
use Rattle.std.specs.Prelude.{None, Option, Some, ℕ}
use Rattle.ids.specs.declared.PortId.{PortId}
use Rattle.ids.specs.Ids.{assignable_port, same_port}
use Rattle.ports.specs.declared.Ports.{Ports}
use Rattle.ports.specs.Limits.{added_ports, slots, slot_bytes, sdu_bytes}
use Rattle.ids.specs.Places.{Below, place_from}
use Rattle.ports.specs.Ports.{no_port, ports_of, drop_one_lem, appended, delivered}
use Rattle.validity.specs.Ranges.{ports_fit_lem, empty_slot, partial_fits, slot_fits, partials_fit_lem}
use Rattle.validity.proofs.Tests.{both}
use Rattle.validity.proofs.Every.{every_get, every_make}
use Rattle.invariants.proofs.Slots.{all_wait}
use Rattle.fragments.specs.declared.Reassembly.TheVariants.{Ignored, Dropped, Delivered, Appended}
use Rattle.fragments.specs.Fragments.{behind, slot_in_lem, slot_of, at_slot_lem, at_place_lem, reassembly_of_lem, ports_after}
use Rattle.fragments.proofs.Decided.{slot_in_range}
use Rattle.payload.specs.Frames.{Xgem, parse}
use Rattle.payload.specs.Memory.{Receiver, step}
use Rattle.payload.specs.Walk.{steps, ended_by, left_by, walk_of}
use Rattle.payload.proofs.Steps.{ports_taken}

pub record Fine (p : Ports) : Type 0 where
  pub ids : length p.ids ≡ added_ports
  pub lengths : length p.lengths ≡ slots
  pub waiting : length p.waiting ≡ slots
  pub held : ports_fit_lem p.ids ≡ true
  pub partials : partials_fit_lem p.ids p.lengths p.waiting ≡ true

-- ---- one slot changes

slot_at : (ids : List PortId) (lengths : List ℕ) (waiting : List Bool) → partials_fit_lem ids lengths waiting ≡ true → (d : ℕ) → d < slots → slot_fits ids lengths waiting d ≡ true
unfolding partials_fit_lem
slot_at ids lengths waiting h d q = rw (let z : 0 + d ≡ d = omega arith in z) at (every_get (slot_fits ids lengths waiting) 0 slots h d q)

one-changed
    : (ids : List PortId) (l m : List ℕ) (w x : List Bool) (i : ℕ)
    → ((d : ℕ) → (d ≡ i → ⊥) → (get_or m d 0 ≡ get_or l d 0) × (get_or x d false ≡ get_or w d false))
    → slot_fits ids m x i ≡ true → partials_fit_lem ids l w ≡ true → partials_fit_lem ids m x ≡ true
unfolding partials_fit_lem slot_fits
one-changed ids l m w x i others here h = every_make (slot_fits ids m x) 0 slots (λ d q. go (0 + d) (eqb (0 + d) i) refl (every_get (slot_fits ids l w) 0 slots h d q))
  where
    go : (d : ℕ) (b : Bool) → eqb d i ≡ b → slot_fits ids l w d ≡ true → slot_fits ids m x d ≡ true
    go d true e f = subst (λ (k : ℕ). slot_fits ids m x k ≡ true) (sym (eqb-true d i e)) here
    go d false e f = let o = others d (eqb-false d i e) in rw (o.0, o.1) f

-- a slot that holds nothing is in range, whether it waits or not
holds-nothing : (w e : Bool) → partial_fits 0 w e ≡ true
unfolding partial_fits
holds-nothing w e = go (w || e)
  where
    go : (b : Bool) → cond b (eqb 0 0) (leb 0 slot_bytes) ≡ true
    go true = refl
    go false = refl

dropped : (p : Ports) (i : ℕ) (waits : Bool) → i < slots → Fine p → Fine (drop_one_lem p i waits)
unfolding slot_fits
dropped p i waits q f =
    record {
      ids = f.ids;
      lengths = length-set p.lengths i 0 ∙ f.lengths;
      waiting = length-set p.waiting i waits ∙ f.waiting;
      held = f.held;
      partials = one-changed p.ids p.lengths (set p.lengths i 0) p.waiting (set p.waiting i waits) i
          (λ d n. (get_or-set_other p.lengths i d 0 0 n, get_or-set_other p.waiting i d waits false n))
          here f.partials;
    }
  where
    here : slot_fits p.ids (set p.lengths i 0) (set p.waiting i waits) i ≡ true
    here = rw (get_or-set_same p.lengths i 0 0 (omega (arith, f.lengths))) (holds-nothing (get_or (set p.waiting i waits) i false) (empty_slot p.ids i))

added : (p : Ports) (i n : ℕ) → i < slots → n ≤ slot_bytes → get_or p.waiting i false ≡ false → empty_slot p.ids i ≡ false → Fine p
    → Fine (appended p i n)
unfolding slot_fits partial_fits
added p i n q most clear there f =
    record {
      ids = f.ids;
      lengths = length-set p.lengths i n ∙ f.lengths;
      waiting = f.waiting;
      held = f.held;
      partials = one-changed p.ids p.lengths (set p.lengths i n) p.waiting p.waiting i
          (λ d k. (get_or-set_other p.lengths i d n 0 k, refl)) here f.partials;
    }
  where
    here : slot_fits p.ids (set p.lengths i n) p.waiting i ≡ true
    here = rw (get_or-set_same p.lengths i n 0 (omega (arith, f.lengths)), clear, there) (le-leb n slot_bytes most)

-- a port that delivers did not wait before
finished : (p : Ports) (i : ℕ) → i < slots → get_or p.waiting i false ≡ false → Fine p → Fine (delivered p i)
finished p i q clear f = subst (λ (w : List Bool). Fine (ports_of p.ids (set p.lengths i 0) w)) same (dropped p i false q f)
  where
    same : set p.waiting i false ≡ p.waiting
    same = ap (set p.waiting i) (sym clear) ∙ set-get_or p.waiting i false

-- ---- a slot that a port has is not empty

number : Option ℕ → ℕ
number (Some i) = i
number None = 0

is_at : Option ℕ → Bool
is_at (Some i) = true
is_at None = false

there : (f : PortId → Bool) (i : ℕ) (l : List PortId) (j : ℕ) → place_from f i l ≡ Some j → (i ≤ j) × (f (get_or l (j - i) no_port) ≡ true)
unfolding is_at number
there f i [] j e = absurd (false≢true (ap is_at e))
there f i (a ∷ l) j e = go (f a) refl e (there f (i + 1) l j)
  where
    go
        : (b : Bool) → f a ≡ b → cond b (Some i) (place_from f (i + 1) l) ≡ Some j
        → (place_from f (i + 1) l ≡ Some j → (i + 1 ≤ j) × (f (get_or l (j - (i + 1)) no_port) ≡ true))
        → (i ≤ j) × (f (get_or (a ∷ l) (j - i) no_port) ≡ true)
    go true h q ih =
        let z : j - i ≡ 0 = omega (arith, ap number q) in
        (omega (arith, ap number q), rw z h)
    go false h q ih =
        let r = ih q in
        let z : j - i ≡ suc (j - (i + 1)) = omega (arith, r.0) in
        (omega (arith, r.0), rw z r.1)

taken_slot : (ids : List PortId) (own port : PortId) (i : ℕ) → slot_in_lem ids own port ≡ Some i → empty_slot ids i ≡ false
unfolding is_at number
taken_slot ids own port i e = go (assignable_port port) refl e
  where
    placed : assignable_port port ≡ true → (x : Option ℕ) → place_from (same_port port) 0 ids ≡ x → behind x ≡ Some i → empty_slot ids i ≡ false
    placed a (Some j) h q =
        let same = eqb-true port.0 (get_or ids j no_port).0 (rw (let z : j - 0 ≡ j = omega arith in z) at (there (same_port port) 0 ids j h).1) in
        let least = leb-true 1023 port.0 (both (leb 1023 port.0) _ a).0 in
        let n : i ≡ suc j = omega (arith, ap number q) in
        rw n (ne_eqb (get_or ids j no_port).0 0 (λ z. omega (arith, same, least, z)))
    placed a None h q = absurd (false≢true (ap is_at q))

    own-slot : (b : Bool) → cond b (Some 0) None ≡ Some i → empty_slot ids i ≡ false
    own-slot true q = let n : i ≡ 0 = sym (ap number q) in rw n
    own-slot false q = absurd (false≢true (ap is_at q))

    go : (b : Bool) → assignable_port port ≡ b → cond b (behind (place_from (same_port port) 0 ids)) (cond (same_port port own) (Some 0) None) ≡ Some i → empty_slot ids i ≡ false
    go true a q = placed a (place_from (same_port port) 0 ids) refl q
    go false a q = own-slot (same_port port own) q

-- ---- a fragment, and all of a payload

at_slot
    : (p : Ports) (i n : ℕ) (last : Bool) → i < slots → empty_slot p.ids i ≡ false → Fine p
    → Fine (ports_after p (at_slot_lem i (get_or p.waiting i false) (get_or p.lengths i 0) last n) n)
at_slot p i n last q there f = go (get_or p.waiting i false) refl (ltb sdu_bytes (get_or p.lengths i 0 + n)) refl last
  where
    have : ℕ
    have = get_or p.lengths i 0

    go
        : (w : Bool) → get_or p.waiting i false ≡ w → (o : Bool) → ltb sdu_bytes (get_or p.lengths i 0 + n) ≡ o → (l : Bool)
        → Fine (ports_after p (cond w (Dropped i (not l)) (cond o (Dropped i (not l)) (cond l (Delivered i (get_or p.lengths i 0)) (Appended i (get_or p.lengths i 0))))) n)
    go true a o b l = dropped p i (not l) q f
    go false a true b l = dropped p i (not l) q f
    go false a false b true = finished p i q a f
    go false a false b false = added p i (get_or p.lengths i 0 + n) q (ltb-false sdu_bytes (get_or p.lengths i 0 + n) b) a there f

pub fragment_fine : (p : Ports) (own port : PortId) (last : Bool) (n : ℕ) → Fine p → Fine (ports_after p (reassembly_of_lem p own port last n) n)
fragment_fine p own port last n f = go (eqb n 0)
  where
    placed : (x : Option ℕ) → slot_of p own port ≡ x → Below x slots → Fine (ports_after p (at_place_lem p.lengths p.waiting last n x) n)
    placed (Some i) e q = at_slot p i n last q (taken_slot p.ids own port i e) f
    placed None e q = f

    go : (b : Bool) → Fine (ports_after p (cond b Ignored (at_place_lem p.lengths p.waiting last n (slot_of p own port))) n)
    go true = f
    go false = placed (slot_of p own port) refl (slot_in_range p.ids own port f.ids)

steps-fine : (own : PortId) (s : Receiver) (l : List Xgem) → Fine s.ports → Fine (steps own s l).ports
unfolding steps
steps-fine own s [] f = f
steps-fine own s (x ∷ l) f = steps-fine own (step own s x) l (one-fine own s x f)
  where
    one-fine : (own : PortId) (s : Receiver) (x : Xgem) → Fine s.ports → Fine (step own s x).ports
    one-fine own s x f = rw (ports_taken own s x.port x.last x.body) (fragment_fine s.ports own x.port x.last (length x.body) f)

ended-fine : (lost : Bool) (s : Receiver) → Fine s.ports → Fine (ended_by lost s).ports
unfolding ended_by
ended-fine false s f = f
ended-fine true s f = record { ids = f.ids; lengths = refl; waiting = refl; held = f.held; partials = all_wait s.ports.ids }

pub walk_fine : (own : PortId) (s : Receiver) (place : ℕ) (payload : List ℕ) → Fine s.ports → Fine (walk_of own s place payload).receiver.ports
unfolding walk_of left_by
walk_fine own s place payload f =
    ended-fine (parse place payload).lost (steps own s (parse place payload).frames) (steps-fine own s (parse place payload).frames f)
