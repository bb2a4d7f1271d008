-- The Alloc-IDs held are distinct and are those in the ledger.
-- Assumes nothing.
use Prim.Native.Nat.{ℕ}
use mathlib.Core.Path.{◌≡◌, ◌∙◌, refl, sym}
use mathlib.Core.Bool.{true}
use mathlib.Core.List.{List}
use native.Mathlib.Omega.{arith}
use lib.Dec.{leb}
use lib.ListN.{length, length-take}
use borrow.Author.Tests.{eq-eqb, leb-true}
use Rattle.ids.specs.declared.AllocId.{AllocId}
use Rattle.ids.specs.Ids.{assignable_alloc, same_alloc}
use Rattle.station.specs.declared.Station.{Station}
use Rattle.link.specs.declared.Allocs.{Allocs}
use Rattle.link.specs.Limits.{added_allocs}
use Rattle.link.specs.Link.{held_allocs, alloc_place}
use Rattle.station.specs.Station.{power_on_lem}
use Rattle.validity.specs.Ranges.{proper, allocs_fit_lem}
use Rattle.entries.specs.declared.Own.{Own}
use Rattle.ids.specs.Places.{is_held}
use Rattle.validity.proofs.Tests.{both}
use Rattle.ledger.specs.Events.{Event, station_of}
use Rattle.ledger.specs.Ledger.{holds}
use Rattle.ledger.specs.Promises.{AllocsListed}
use Rattle.ledger.specs.Plan.{own_of}
use Rattle.ledger.proofs.Numbers.{found_among}
use Rattle.ledger.proofs.Turns.{holds_own, Fine, apart}
use Rattle.ledger.proofs.Runs.{Kept, always, exactly}

module _ (a : Allocs) (l : length a.ids ≡ added_allocs) (f : allocs_fit_lem a ≡ true) where
  fit_parts : (leb a.count added_allocs ≡ true) × (proper assignable_alloc same_alloc (held_allocs a) ≡ true)
  unfolding allocs_fit_lem
  fit_parts = both (leb a.count added_allocs) _ f

  as_many : length (held_allocs a) ≡ a.count
  as_many =
      let c = leb-true a.count added_allocs fit_parts.0 in
      simp length-take (omega arith)

-- no ONU-ID is the number of an Alloc-ID
held_found : (o : Own) → Fine o → (id : AllocId) → assignable_alloc id ≡ true → holds_own o id.0 ≡ is_held (alloc_place o.allocs id)
held_found o f id a = rw (apart o f id a id.0 (eq-eqb id.0 id.0 refl)) (sym (found_among o.allocs id))

pub listed : (first : Station) (h : List Event) → Kept first h → AllocsListed first h
unfolding holds
listed first h k =
    let o = own_of (station_of first h) in
    let f = k.fine in
    record {
      distinct = (fit_parts o.allocs f.long f.fit).1;
      many = as_many o.allocs f.long f.fit;
      listed = λ id a.
          let x = exactly first h k id.0 in
          let q = held_found o f id a in
          ((λ i. sym q ∙ x.0 i), (λ t. x.1 (q ∙ t)));
    }

pub always_listed : (serial registration : List ℕ) (h : List Event) → AllocsListed (power_on_lem serial registration) h
always_listed serial registration h = listed (power_on_lem serial registration) h (always serial registration h)
