-- `layout::field::fields_at` meets its contract: each call reads the field at its place.
use mathlib.Core.Path.{◌≡◌, ap, ◌∙◌}
use Prim.Native.Nat.{ℕ, ◌+◌, ◌-◌, ◌*◌}
use native.Mathlib.Omega.{arith}
use borrow.Author.Rules.{rules}
use lib.ListN.{take, drop}
use Rattle.layout.specs.Rows.{many}
use Rattle.layout.proofs.Arrays.{many-called}
use Rattle.layout.proofs.field.fields_at.Goals as goal

pub returns : goal.returns
returns g c =
    let w = g.T.Field.WIDTH in
    let b = c.args.c.now in
    let at = c.args.at in
    let n = g.row.N in
    let size : at + c.WIDTH.result * n - at ≡ w * n = omega (arith, ap (λ (k : ℕ). k * n) c.WIDTH.ensures) in
    many-called _ g.T.Field.field_of w (take (at + c.WIDTH.result * n - at) (drop at b)) _ (λ i y q k. (search rules, search rules)) n _ c.from_fn.ensures.items
    ∙ ap (λ (k : ℕ). many g.T.Field.field_of w n (take k (drop at b))) size
