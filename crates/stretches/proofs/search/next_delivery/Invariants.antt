-- `stretches::search::next_delivery` meets its contract: no frame up to the present one has delivered.
use Prim.Native.Nat.{◌-◌, ◌^◌, ◌<◌}
use lib.ListN.{length}
use Rattle.ports.specs.Ports.{ports_of}
use Rattle.stretches.proofs.Listing.{Passed}
use Rattle.stretches.proofs.search.next_delivery.Given as goal

abbrev pub invariant-loop-x : goal.invariant-loop-x
invariant-loop-x l = Passed l.own l.frame (ports_of l.ids l.initial.lengths l.initial.waiting) l.from (ports_of l.ids l.lengths l.waiting) l.at × (length l.frame < 2 ^ 64)

abbrev pub decreases-loop-x : goal.decreases-loop-x
decreases-loop-x l = length l.frame - l.at
