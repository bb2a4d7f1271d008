-- `aes::on_each` meets its contract.
use mathlib.Core.Path.{◌∙◌, ap}
use Prim.Native.Nat.{ℕ, ◌%◌}
use native.Mathlib.Omega.{arith}
use Rattle.aes.specs.Blocks.{with_block, each}
use Rattle.aes.proofs.Each.{next-each}
use borrow.Author.Rules.{rules}
use Rattle.aes.proofs.on_each.Goals as goal

pub loop-j-preserved : goal.loop-j-preserved
loop-j-preserved g c = λ f h.
    let l = c.loop-j in
    next-each f c.args.blocks.now l.blocks c.put.new.blocks l.j (search rules) (omega (arith, c.at_most-n.ensures.1)) (l.invariant f h)
    (c.put.ensures
    ∙ ap (with_block l.blocks (l.j % 8)) (h l.j c.block-x.result c.work.result c.loop-j-test.true c.work.ensures ∙ ap (f l.j) c.block-x.ensures))

pub returns : goal.returns
returns g c = λ f h.
    c.loop-j.invariant f (λ j x r p q. h j x r (omega (arith, c.at_most-n.ensures.0)) q)
    ∙ ap (λ (m : ℕ). each m f c.args.blocks.now) (omega (arith, c.at_most-n.ensures.0))
