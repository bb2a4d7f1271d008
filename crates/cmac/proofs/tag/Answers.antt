-- `cmac::tag` meets its contract.
use mathlib.Core.Path.{◌∙◌, ap}
use mathlib.Core.List.{List}
use Prim.Native.Nat.{ℕ}
use Rattle.aes.specs.Blocks.{block_in}
use Rattle.cmac.proofs.Blocks.{alone}
use Rattle.cmac.proofs.tag.Goals as goal

pub returns : goal.returns
returns c =
    let a = c.args in
    c.block.ensures ∙ ap (λ (l : List ℕ). block_in l 0) (c.tags-xs.ensures ∙ alone a.key a.m.now)
