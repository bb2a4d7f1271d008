-- `payload::memory::lay_short` meets its contract: what was laid so far is the front of the slice.
use mathlib.Core.Path.{◌≡◌}
use Prim.Native.Nat.{◌+◌, ◌*◌}
use lib.ListN.{take}
use Rattle.payload.specs.Memory.{put}
use Rattle.payload.proofs.memory.lay_short.Given as goal

abbrev pub invariant-loop-eight : goal.invariant-loop-eight
invariant-loop-eight l =
    (l.to ≡ l.at + 8 * l.eight-index) × (l.target ≡ put l.initial.target l.at (take (8 * l.eight-index) l.s))
