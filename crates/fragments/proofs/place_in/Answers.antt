-- `fragments::place_in` meets its contract: no mark, one, or more.
use mathlib.Core.Path.{sym, ap, ◌∙◌}
use native.Mathlib.Omega.{arith}
use Prim.Native.Nat.{ℕ, ◌-◌}
use Rattle.std.specs.Prelude.{Some}
use Rattle.ids.specs.Ids.{same_port}
use Rattle.fragments.proofs.Marked.{marks_none, marks-one}
use Rattle.fragments.proofs.place_in.Goals as goal

pub returns-then-sum-lt256 : goal.returns-then-sum-lt256
returns-then-sum-lt256 c =
    let a = c.args in
    sym (marks_none (same_port a.id) a.ids 0 (omega (arith, c.marks_of-sum.ensures, c.if-sum-lt256.true))).1

pub returns-then-sum-lt512 : goal.returns-then-sum-lt512
returns-then-sum-lt512 c =
    let a = c.args in
    let e = c.marks_of-sum.ensures in
    ap (λ (x : ℕ). Some (x - 256)) e ∙ sym (marks-one (same_port a.id) a.ids 0 (omega (arith, e, c.if-sum-lt256.false)) (omega (arith, e, c.if-sum-lt512.true)))
