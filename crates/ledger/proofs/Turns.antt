-- The turns that the numbers held can take, each with what it writes into the ledger.
-- Assumes nothing.
use Prim.Native.Nat.{ℕ, ◌<◌}
use mathlib.Core.Path.{◌≡◌, ◌∙◌, refl, sym, ap}
use mathlib.Core.Bool.{Bool, true, false, ◌&&◌, ◌||◌, not, true≢false}
use native.Mathlib.Omega.{arith}
use lib.Dec.{eqb, leb}
use lib.ListN.{length}
use borrow.Author.Tests.{eqb-true, ne_eqb, leb-true}
use Rattle.ids.specs.declared.OnuId.{OnuId}
use Rattle.ids.specs.declared.AllocId.{AllocId}
use Rattle.ids.specs.Ids.{assignable_onu, assignable_alloc, broadcast_onu}
use Rattle.station.specs.declared.Activation.{Activation}
use Rattle.station.specs.declared.Activation.TheVariants.{Initial, SerialNumber, Ranging, Operation, Intermittent, EmergencyStop}
use Rattle.link.specs.Limits.{added_allocs}
use Rattle.station.specs.Limits.{to1}
use Rattle.station.specs.States.{holds_identity_lem}
use Rattle.link.specs.Link.{no_allocs, held_allocs, alloc_place, add_alloc, remove_alloc}
use Rattle.validity.specs.Ranges.{identity_fits_lem, allocs_fit_lem}
use Rattle.entries.specs.declared.Own.{Own}
use Rattle.ids.specs.Places.{is_held}
use Rattle.validity.proofs.Tests.{both}
use Rattle.invariants.proofs.InRangeTimes.{identity_moves}
use Rattle.invariants.proofs.InRangeLists.{added, removed}
use Rattle.ledger.specs.Entries.{Entry, gave, took_back, neither}
use Rattle.ledger.proofs.Book.{posted}
use Rattle.ledger.proofs.Numbers.{swapped, among, added-among, removed_among}

-- ---- the statement

abbrev pub holds_own : Own → ℕ → Bool
holds_own o n = (holds_identity_lem o.activation && eqb n o.onu.0) || among (held_allocs o.allocs) n

-- the states in which Alloc-IDs can be held: O5 and O6
abbrev pub may_hold : Activation → Bool
may_hold Initial = false
may_hold SerialNumber = false
may_hold (Ranging left) = false
may_hold Operation = true
may_hold (Intermittent left) = true
may_hold EmergencyStop = false

-- what is held is in range, and no Alloc-ID is held outside O5 and O6
pub record Fine (o : Own) : Type 0 where
  pub long : length o.allocs.ids ≡ added_allocs
  pub fit : allocs_fit_lem o.allocs ≡ true
  pub identity : identity_fits_lem o.activation o.onu ≡ true
  pub bare : may_hold o.activation ≡ false → o.allocs ≡ no_allocs

pub data Turn : Type 0 where
  stays : Turn
  named : OnuId → Turn
  goes : Activation → Turn
  adds : AllocId → Turn
  drops : AllocId → Turn
  forgets : Activation → Turn

abbrev pub turned : Own → Turn → Own
turned o stays = o
turned o (named onu) = record { activation = Ranging to1; onu = onu; allocs = o.allocs }
turned o (goes a) = record { activation = a; onu = o.onu; allocs = o.allocs }
turned o (adds id) = record { activation = o.activation; onu = o.onu; allocs = add_alloc o.allocs id }
turned o (drops id) = record { activation = o.activation; onu = o.onu; allocs = remove_alloc o.allocs id }
turned o (forgets a) = record { activation = a; onu = broadcast_onu; allocs = no_allocs }

-- where each turn is taken, and the entry that goes with it
abbrev pub Allowed : Own → Turn → Entry → Type 0
Allowed o stays x = (n : ℕ) → posted x (holds_own o) n ≡ holds_own o n
Allowed o (named onu) x = (o.activation ≡ SerialNumber) × (assignable_onu onu ≡ true) × (x ≡ gave onu.0)
Allowed o (goes a) x =
    (holds_identity_lem o.activation ≡ true) × (holds_identity_lem a ≡ true) × (may_hold a ≡ false → may_hold o.activation ≡ false)
    × (x ≡ neither)
Allowed o (adds id) x =
    (o.activation ≡ Operation) × (assignable_alloc id ≡ true) × (is_held (alloc_place o.allocs id) ≡ false)
    × (o.allocs.count < added_allocs)
    × (x ≡ gave id.0)
Allowed o (drops id) x =
    (o.activation ≡ Operation) × (assignable_alloc id ≡ true) × (is_held (alloc_place o.allocs id) ≡ true) × (x ≡ took_back id.0)
Allowed o (forgets a) x = (holds_identity_lem a ≡ false) × ((n : ℕ) → posted x (holds_own o) n ≡ false)

-- ---- what is held stays in range

unidentified : (a : Activation) → holds_identity_lem a ≡ false → may_hold a ≡ false
unidentified Initial h = refl
unidentified SerialNumber h = refl
unidentified (Ranging left) h = refl
unidentified Operation h = h
unidentified (Intermittent left) h = h
unidentified EmergencyStop h = refl

nobody : (a : Activation) → holds_identity_lem a ≡ false → identity_fits_lem a broadcast_onu ≡ true
unfolding identity_fits_lem
nobody a h = rw h

no_allocs_fit : allocs_fit_lem no_allocs ≡ true
unfolding allocs_fit_lem
no_allocs_fit = refl

named-fits : (onu : OnuId) → assignable_onu onu ≡ true → identity_fits_lem (Ranging to1) onu ≡ true
unfolding identity_fits_lem
named-fits onu h = h

pub turn-fine : (o : Own) → Fine o → (t : Turn) (x : Entry) → Allowed o t x → Fine (turned o t)
turn-fine o f stays x p = f
turn-fine o f (named onu) x p =
    record {
      long = f.long;
      fit = f.fit;
      identity = named-fits onu p.1;
      bare = λ h. f.bare (ap may_hold p.0);
    }
turn-fine o f (goes a) x p =
    record {
      long = f.long;
      fit = f.fit;
      identity = identity_moves o.activation a o.onu p.0 p.1 f.identity;
      bare = λ h. f.bare (p.2 h);
    }
turn-fine o f (adds id) x p =
    let a = added o.allocs f.long f.fit id p.1 p.2 in
    record {
      long = a.1;
      fit = a.0;
      identity = f.identity;
      bare = λ h. absurd (true≢false (sym (ap may_hold p.0) ∙ h));
    }
turn-fine o f (drops id) x p =
    let a = removed o.allocs f.long f.fit id (alloc_place o.allocs id) refl in
    record {
      long = a.1;
      fit = a.0;
      identity = f.identity;
      bare = λ h. absurd (true≢false (sym (ap may_hold p.0) ∙ h));
    }
turn-fine o f (forgets a) x p =
    record { long = refl; fit = no_allocs_fit; identity = nobody a p.0; bare = λ h. refl }

-- ---- what is held after the turn is what the entry says

-- in O1, O2-3 and O7 no number is held
pub none_held : (o : Own) → Fine o → holds_identity_lem o.activation ≡ false → (n : ℕ) → holds_own o n ≡ false
none_held o f h n = rw (h, f.bare (unidentified o.activation h))

-- no ONU-ID that is held is the number of an Alloc-ID that can be assigned
pub apart
    : (o : Own) → Fine o → (id : AllocId) → assignable_alloc id ≡ true → (n : ℕ) → eqb n id.0 ≡ true
    → (holds_identity_lem o.activation && eqb n o.onu.0) ≡ false
unfolding identity_fits_lem
apart o f id a n e = go (holds_identity_lem o.activation) refl
  where
    go : (b : Bool) → holds_identity_lem o.activation ≡ b → (b && eqb n o.onu.0) ≡ false
    go true h =
        let i = leb-true o.onu.0 1022 (rw h at f.identity) in
        let l = leb-true 1024 id.0 (both (leb 1024 id.0) (leb id.0 16383) a).0 in
        let q = eqb-true n id.0 e in
        ne_eqb n o.onu.0 (λ (z : n ≡ o.onu.0). omega arith)
    go false h = refl

taken : (e i m : Bool) → (e ≡ true → i ≡ false) → (i || (not e && m)) ≡ (not e && (i || m))
taken true i m h = rw (h refl)
taken false i m h = refl

pub turn-held
    : (o : Own) → Fine o → (t : Turn) (x : Entry) → Allowed o t x → (n : ℕ) → holds_own (turned o t) n ≡ posted x (holds_own o) n
turn-held o f stays x p n = sym (p n)
turn-held o f (named onu) x p n = rw (p.2, none_held o f (ap holds_identity_lem p.0) n, f.bare (ap may_hold p.0))
turn-held o f (goes a) x p n = rw (p.3, p.0, p.1)
turn-held o f (adds id) x p n =
    rw (p.4, added-among o.allocs id n p.3 f.long)
    (swapped (holds_identity_lem o.activation && eqb n o.onu.0) (eqb n id.0) (among (held_allocs o.allocs) n))
turn-held o f (drops id) x p n =
    rw (p.3, removed_among o.allocs id n f.long f.fit p.2)
    (taken (eqb n id.0) (holds_identity_lem o.activation && eqb n o.onu.0) (among (held_allocs o.allocs) n) (apart o f id p.1 n))
turn-held o f (forgets a) x p n = rw (p.0, p.1 n)
