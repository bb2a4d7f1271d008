-- `payload::walk::walk_frames` meets its contract: at each turn what is still to come leaves what the whole payload leaves.
use Prim.Native.Nat.{◌-◌, ◌^◌, ◌<◌}
use lib.ListN.{length}
use Rattle.ports.specs.Ports.{ports_of}
use Rattle.payload.specs.Memory.{receiver_of}
use Rattle.payload.proofs.Walks.{At}
use Rattle.payload.proofs.walk.walk_frames.Given as goal

abbrev pub invariant-loop-lengths : goal.invariant-loop-lengths
invariant-loop-lengths l = At l.own l.place l.payload (receiver_of (ports_of l.ids l.initial.lengths l.initial.waiting) l.initial.bytes l.initial.memory l.initial.deliveries) (receiver_of (ports_of l.ids l.lengths l.waiting) l.bytes l.memory l.deliveries) l.at × (length l.payload < 2 ^ 64)

abbrev pub decreases-loop-lengths : goal.decreases-loop-lengths
decreases-loop-lengths l = length l.payload - l.at
