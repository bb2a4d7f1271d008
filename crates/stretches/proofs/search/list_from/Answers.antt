-- `stretches::search::list_from` meets its contract: at each turn what is listed and what is still to come are what is listed in all.
use mathlib.Core.Path.{◌≡◌, ap}
use mathlib.Core.Bool.{Bool}
use native.Mathlib.Omega.{arith}
use lib.ListN.{length}
use Rattle.ports.specs.declared.Ports.{Ports}
use Rattle.ports.specs.Limits.{added_ports}
use Rattle.ports.specs.Ports.{ports_of}
use Rattle.stretches.proofs.Listing.{seen_start, seen-length, seen_done, seen_lost, seen_full, seen_on}
use Rattle.stretches.proofs.search.list_from.Goals.{At-loop-search, Start}
use Rattle.stretches.proofs.search.list_from.Goals as goal

ids : (c : Start) → length c.args.ports.ids ≡ added_ports
ids c = c.well_formed.0.1.1.0.1.0.1

-- the ports as they are by now
abbrev so_far : (c : At-loop-search) → Ports
so_far c = ports_of c.args.ports.ids c.loop-search.lengths c.loop-search.waiting

length_at : (c : At-loop-search) → length c.loop-search.places ≡ length c.args.places.now
length_at c =
    let a = c.args in
    seen-length a.own a.frame.now a.ports a.begins a.first a.places.now (so_far c) c.loop-search.search c.loop-search.at c.loop-search.places c.loop-search.invariant

pub loop-search-init : goal.loop-search-init
loop-search-init c = seen_start c.args.own c.args.frame.now c.args.ports c.args.begins c.args.first c.args.places.now (ids (goal.at.loop-search-init c).Start) c.requires

pub next_delivery-requires : goal.next_delivery-requires
next_delivery-requires c = c.loop-search.invariant.inside

pub shape_of-places-in-Done : goal.shape_of-places-in-Done
shape_of-places-in-Done c = length_at (goal.at.shape_of-places-in-Done c).At-loop-search

pub returns-in-Done : goal.returns-in-Done
returns-in-Done c =
    let a = c.args in
    seen_done a.own a.frame.now a.ports a.begins a.first a.places.now (so_far (goal.at.returns-in-Done c).At-loop-search) c.loop-search.search c.loop-search.at c.loop-search.places c.loop-search.invariant (rw c.in-Done.is at c.next_delivery.ensures)

pub shape_of-places-in-Lost : goal.shape_of-places-in-Lost
shape_of-places-in-Lost c = length_at (goal.at.shape_of-places-in-Lost c).At-loop-search

pub returns-in-Lost : goal.returns-in-Lost
returns-in-Lost c =
    let a = c.args in
    seen_lost a.own a.frame.now a.ports a.begins a.first a.places.now (so_far (goal.at.returns-in-Lost c).At-loop-search) c.loop-search.search c.loop-search.at c.loop-search.places c.loop-search.invariant (rw c.in-Lost.is at c.next_delivery.ensures)

pub note-search-requires : goal.note-search-requires
note-search-requires c = omega (arith, length_at (goal.at.note-search-requires c).At-loop-search, c.loop-search-test.true)

pub loop-search-smaller : goal.loop-search-smaller
loop-search-smaller c =
    let n = rw c.in-Met.is at c.next_delivery.ensures in
    omega (arith, n.2, n.3)

pub loop-search-preserved : goal.loop-search-preserved
loop-search-preserved c =
    let a = c.args in
    seen_on a.own a.frame.now a.ports a.begins a.first a.places.now (so_far (goal.at.loop-search-preserved c).At-loop-search) c.loop-search.search c.loop-search.at c.loop-search.places c.loop-search.invariant c.loop-search-test.true _ _ _ (ids (goal.at.loop-search-preserved c).Start) (rw c.in-Met.is at c.next_delivery.ensures) _ _ c.note-search.ensures

pub is_lost-requires : goal.is_lost-requires
is_lost-requires c = c.loop-search.invariant.inside

pub shape_of-places : goal.shape_of-places
shape_of-places c = length_at (goal.at.shape_of-places c).At-loop-search

pub returns : goal.returns
returns c =
    let a = c.args in
    seen_full a.own a.frame.now a.ports a.begins a.first a.places.now (so_far (goal.at.returns c).At-loop-search) c.loop-search.search c.loop-search.at c.loop-search.places c.loop-search.invariant c.loop-search-test.false _ (ap (λ (b : Bool). record { count = c.loop-search.search.count; lost = b }) c.is_lost.ensures)
