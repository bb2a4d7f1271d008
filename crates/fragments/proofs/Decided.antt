-- What is decided of a port is so, and which ports there are does not change.
-- Assumes nothing.
use mathlib.Core.Path.{◌≡◌, refl}
use mathlib.Core.Bool.{Bool, true, false, cond, not}
use mathlib.Core.List.{List, [], ◌∷◌}
use Prim.Native.Nat.{ℕ, suc, ◌+◌, ◌<◌}
use native.Mathlib.Omega.{arith}
use borrow.Author.Tests.{ltb-false}
use lib.Dec.{eqb, ltb}
use lib.ListN.{length, get_or}
use Rattle.std.specs.Prelude.{None, Option, Some, ℕ}
use Rattle.ids.specs.declared.PortId.{PortId}
use Rattle.ids.specs.Ids.{same_port, assignable_port}
use Rattle.ports.specs.declared.Ports.{Ports}
use Rattle.ports.specs.Limits.{slots, added_ports, sdu_bytes}
use Rattle.ids.specs.Places.{Below, place_from}
use Rattle.fragments.specs.declared.Reassembly.{Reassembly}
use Rattle.fragments.specs.declared.Reassembly.TheVariants.{Ignored, Dropped, Delivered, Appended}
use Rattle.fragments.specs.Fragments.{behind, slot_in_lem, at_slot_lem, at_place_lem, reassembly_in_lem, ports_after}
use Rattle.fragments.specs.Within.{Within}

-- a slot that a port has is one of the seventeen, where the list of added ports has its length
place-below : {A : Type 0} (f : A → Bool) (i : ℕ) (l : List A) → Below (place_from f i l) (i + length l)
place-below f i [] = tt
place-below f i (a ∷ l) = go (f a) (place_from f (i + 1) l) (place-below f (i + 1) l)
  where
    go : (b : Bool) (p : Option ℕ) → Below p (i + 1 + length l) → Below (cond b (Some i) p) (i + suc (length l))
    go true p h = omega arith
    go false (Some j) h = omega arith
    go false None h = tt

pub behind-below : (p : Option ℕ) (n : ℕ) → Below p n → Below (behind p) (suc n)
behind-below (Some i) n h = omega arith
behind-below None n h = tt

pub added-below : (ids : List PortId) (port : PortId) → length ids ≡ added_ports → Below (place_from (same_port port) 0 ids) added_ports
added-below ids port e = go (place_from (same_port port) 0 ids) (place-below (same_port port) 0 ids)
  where
    go : (q : Option ℕ) → Below q (0 + length ids) → Below q added_ports
    go (Some i) h = omega (arith, e)
    go None h = tt

pub slot_in_range : (ids : List PortId) (own port : PortId) → length ids ≡ added_ports → Below (slot_in_lem ids own port) slots
slot_in_range ids own port e = go (assignable_port port) (same_port port own)
  where
    go : (a b : Bool) → Below (cond a (behind (place_from (same_port port) 0 ids)) (cond b (Some 0) None)) slots
    go true b = behind-below (place_from (same_port port) 0 ids) added_ports (added-below ids port e)
    go false true = omega arith
    go false false = tt

module _ (ids : List PortId) (lengths : List ℕ) (waiting : List Bool) where
  -- what is decided of a slot is so
  within_slot : (last : Bool) (n i : ℕ) (waits : Bool) → i < slots → Within lengths (at_slot_lem i waits (get_or lengths i 0) last n) n
  within_slot last n i true h = h
  within_slot last n i false h = go (ltb sdu_bytes (get_or lengths i 0 + n)) refl last
    where
      go : (b : Bool) → ltb sdu_bytes (get_or lengths i 0 + n) ≡ b → (l : Bool)
          → Within lengths (cond b (Dropped i (not l)) (cond l (Delivered i (get_or lengths i 0)) (Appended i (get_or lengths i 0)))) n
      go true e l = h
      go false e true = (h, refl, ltb-false sdu_bytes (get_or lengths i 0 + n) e)
      go false e false = (h, refl, ltb-false sdu_bytes (get_or lengths i 0 + n) e)

  pub reassembly_within : (own port : PortId) (last : Bool) (n : ℕ) → length ids ≡ added_ports → Within lengths (reassembly_in_lem ids lengths waiting own port last n) n
  reassembly_within own port last n e = go (eqb n 0) (slot_in_lem ids own port) (slot_in_range ids own port e)
    where
      go : (b : Bool) (q : Option ℕ) → Below q slots → Within lengths (cond b Ignored (at_place_lem lengths waiting last n q)) n
      go true q h = tt
      go false (Some i) h = within_slot last n i (get_or waiting i false) h
      go false None h = tt

  -- a port that delivers does not wait
  abbrev Clear : Reassembly → Type 0
  Clear Ignored = Unit {0}
  Clear (Dropped slot waits) = Unit {0}
  Clear (Delivered slot have) = get_or waiting slot false ≡ false
  Clear (Appended slot have) = Unit {0}

  pub reassembly_clear : (own port : PortId) (last : Bool) (n : ℕ) → Clear (reassembly_in_lem ids lengths waiting own port last n)
  reassembly_clear own port last n = go (eqb n 0) (slot_in_lem ids own port)
    where
      at : (i : ℕ) (waits : Bool) → get_or waiting i false ≡ waits → (b l : Bool)
          → Clear (cond waits (Dropped i (not l)) (cond b (Dropped i (not l)) (cond l (Delivered i (get_or lengths i 0)) (Appended i (get_or lengths i 0)))))
      at i true e b l = tt
      at i false e true l = tt
      at i false e false true = e
      at i false e false false = tt

      go : (b : Bool) (q : Option ℕ) → Clear (cond b Ignored (at_place_lem lengths waiting last n q))
      go true q = tt
      go false (Some i) = at i (get_or waiting i false) refl (ltb sdu_bytes (get_or lengths i 0 + n)) last
      go false None = tt

pub ids_after : (p : Ports) (e : Reassembly) (n : ℕ) → (ports_after p e n).ids ≡ p.ids
ids_after p Ignored n = refl
ids_after p (Dropped i b) n = refl
ids_after p (Delivered i have) n = refl
ids_after p (Appended i have) n = refl
