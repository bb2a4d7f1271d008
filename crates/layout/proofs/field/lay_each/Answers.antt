-- `layout::field::lay_each` meets its contract: what was laid so far are the octets of the first fields.
use mathlib.Core.Path.{◌≡◌, sym, ap, ◌∙◌}
use mathlib.Core.List.{List, ◌++◌}
use Prim.Native.Nat.{ℕ, ◌+◌, ◌-◌, ◌*◌, ◌≤◌}
use native.Mathlib.Numerals.{add-one}
use native.Mathlib.Nat.{mul-le-mul_left}
use native.Mathlib.Omega.{arith}
use borrow.Rule.Slice.PartMut.{put_mid}
use lib.ListN.{length, get_or, take, length-append}
use Rattle.xgem.specs.Writes.{put}
use Rattle.layout.specs.Rows.{each}
use Rattle.xgem.proofs.Frames.{put-behind}
use Rattle.layout.proofs.Laws.{each_more}
use Rattle.layout.proofs.field.lay_each.Goals as goal

pub loop-i-preserved : goal.loop-i-preserved
loop-i-preserved g c =
    let w = g.T.Field.WIDTH in
    let f = g.T.Field.octets_of in
    let l = c.args.l.now in
    let t = c.args.out.now in
    let i = c.loop-i.i in
    let u = c.loop-i.out in
    let x = get_or l i c.index-l-i.result in
    let p = each f (take i l) in
    let k = c.WIDTH.result * i in
    let more : each f (take (i + 1) l) ≡ p ++ f x = ap (λ (n : ℕ). each f (take n l)) (add-one i) ∙ each_more f l i c.index-l-i.result (omega arith) in
    let one : length (f x) ≡ w = c.lay.ensures.1 in
    let room : w * (i + 1) ≤ w * length l = mul-le-mul_left w (omega arith) in
    let k-is : k ≡ w * i = ap (λ (n : ℕ). n * i) c.WIDTH.ensures in
    let long : length p ≡ w * i = c.loop-i.invariant.1 in (
      ap (λ (r : List ℕ). put_mid k (length u - k) u r) c.lay.ensures.0
          ∙ put-behind t p (f x) u k (long ∙ sym k-is) (omega (arith, one, k-is, room, ap (λ (n : ℕ). w * n) c.told-l, c.requires)) c.loop-i.invariant.0
          ∙ ap (put t) (sym more),
      ap length more ∙ length-append p (f x) ∙ omega arith,
    )
