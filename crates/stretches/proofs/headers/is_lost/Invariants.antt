-- `stretches::headers::is_lost` meets its contract: at each turn what is still to come says what the whole says.
use Prim.Native.Nat.{◌-◌, ◌^◌, ◌<◌}
use lib.ListN.{length}
use Rattle.stretches.proofs.Listing.{Behind}
use Rattle.stretches.proofs.headers.is_lost.Given as goal

abbrev pub invariant-loop-x : goal.invariant-loop-x
invariant-loop-x l = Behind l.frame l.begins l.at × (length l.frame < 2 ^ 64)

abbrev pub decreases-loop-x : goal.decreases-loop-x
decreases-loop-x l = length l.frame - l.at
