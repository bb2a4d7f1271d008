-- `layout::field::lay_each` meets its contract: what was laid so far are the octets of the first fields.
use mathlib.Core.Path.{◌≡◌}
use Prim.Native.Nat.{◌*◌}
use lib.ListN.{length, take}
use Rattle.xgem.specs.Writes.{put}
use Rattle.layout.specs.Rows.{each}
use Rattle.layout.proofs.field.lay_each.Given as goal

abbrev pub invariant-loop-i : goal.invariant-loop-i
invariant-loop-i g l =
    (l.out ≡ put l.initial.out (each g.T.Field.octets_of (take l.i l.l)))
    × (length (each g.T.Field.octets_of (take l.i l.l)) ≡ g.T.Field.WIDTH * l.i)
