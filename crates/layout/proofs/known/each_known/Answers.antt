-- `layout::known::each_known` meets its contract: what is still to ask says what all say.
use mathlib.Core.Path.{◌≡◌, refl, ap, ap₂, ◌∙◌}
use mathlib.Core.Bool.{Bool, ◌&&◌}
use Prim.Native.Nat.{ℕ, ◌+◌, ◌-◌, ◌*◌}
use native.Mathlib.Omega.{arith}
use lib.ListN.{drop}
use Rattle.layout.specs.KnownOctets.{each_known}
use Rattle.layout.proofs.KnownOctets.{known-turn, known_end}
use Rattle.layout.proofs.known.each_known.Goals as goal

pub loop-i-init : goal.loop-i-init
loop-i-init g c =
    λ f h.
    let n : g.row.N - 0 ≡ g.row.N = omega arith in
    let k : g.row.W * 0 ≡ 0 = omega arith in
    ap₂ (λ (m j : ℕ). each_known f g.row.W m (drop j c.args.c.now)) n k

pub loop-i-preserved : goal.loop-i-preserved
loop-i-preserved g c =
    λ f h.
    let w = g.row.W in
    let n = g.row.N in
    let b = c.args.c.now in
    let l = c.loop-i in
    ap (λ (t : Bool). (l.all && t) && each_known f w (n - (l.i + 1)) (drop (w * (l.i + 1)) b)) (h _ _ c.known-all.ensures)
    ∙ known-turn f w n l.i b l.all (w * l.i) refl (omega arith) ∙ l.invariant f h

pub returns : goal.returns
returns g c = λ f h. known_end f g.row.W g.row.N c.loop-i.i c.args.c.now c.loop-i.all (omega arith) ∙ c.loop-i.invariant f (λ x r k. h x r k)
