-- `integrity::cover_each` meets its contract.
use mathlib.Core.Path.{◌∙◌, refl}
use Prim.Native.Nat.{◌+◌, ◌*◌, ◌≤◌}
use native.Mathlib.Omega.{arith}
use lib.ListN.{length}
use Rattle.integrity.proofs.RowByRow.{covered_more, length_covered_in}
use Rattle.integrity.proofs.cover_each.Goals as goal

pub loop-j-preserved : goal.loop-j-preserved
loop-j-preserved c =
    let l = c.loop-j in
    let a = c.args in
    let r = c.cover_at.new.rows in
    let room : l.j * 41 + 41 ≤ length l.rows = omega (arith, c.loop-j-test.true, l.invariant.1, c.requires.1) in (
      covered_more a.messages.now a.places l.rows r l.j _ refl c.cover_at.ensures room l.invariant.0,
      length_covered_in a.messages.now l.rows r _ (l.j * 41) c.cover_at.ensures room ∙ l.invariant.1,
    )
