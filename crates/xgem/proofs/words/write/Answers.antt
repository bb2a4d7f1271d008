-- `xgem::words::write` meets its contract: what fits is put where there is room.
use mathlib.Core.Path.{sym, ap, ◌∙◌}
use mathlib.Core.List.{◌++◌}
use Prim.Native.Nat.{ℕ}
use native.Mathlib.Omega.{arith}
use lib.ListN.{drop}
use Rattle.octets.specs.Octets.{octets}
use Rattle.octets.proofs.Numbers.{octets-length, put_whole}
use Rattle.xgem.proofs.Steps.{unfit, no_room, done}
use Rattle.xgem.proofs.words.write.Goals as goal
use Rattle.xgem.proofs.words.write.Goals.{then-not-fits-via-then-not-fits, then-not-fits-via-else-not-fits+then-target-WIDTH}

pub returns-then-not-fits : goal.returns-then-not-fits
returns-then-not-fits g c =
    let a = c.args in
    let n = g.T.Number.WIDTH in
    let o = octets n (g.T.Number.number a.word) in
    let l = octets-length n (g.T.Number.number a.word) in
    elim c.then-not-fits.branch [
      | then-not-fits-via-then-not-fits w ↦ unfit a.fits o a.target.now w.if-not-fits.true
      | then-not-fits-via-else-not-fits+then-target-WIDTH w ↦ no_room a.fits o a.target.now (omega (arith, l, w.if-target-WIDTH.true, w.WIDTH))
    ]

pub returns : goal.returns
returns g c =
    let a = c.args in
    let n = g.T.Number.WIDTH in
    let o = octets n (g.T.Number.number a.word) in
    let l = octets-length n (g.T.Number.number a.word) in
    done a.fits o a.target.now _ c.if-not-fits.false (omega (arith, l))
    (put_whole n (g.T.Number.number a.word) a.target.now _ c.put.ensures (omega arith) ∙ ap (λ (k : ℕ). o ++ drop k a.target.now) (sym l))
