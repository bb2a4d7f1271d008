-- `cmac::add_last` meets its contract.
use mathlib.Core.Path.{◌≡◌, ◌∙◌, ap}
use mathlib.Core.Bool.{cond}
use Prim.Native.Nat.{◌+◌}
use borrow.Author.Tests.{eq-eqb, ne_eqb}
use lib.Dec.{eqb}
use lib.ListN.{length}
use Rattle.aes.specs.Words.{words_of, added}
use Rattle.aes.specs.declared.Words.{Words}
use Rattle.cmac.specs.Mac.{block_at}
use Rattle.cmac.specs.Tags.{last_block_by}
use Rattle.cmac.proofs.Blocks.{subkey_first}
use Rattle.cmac.proofs.add_last.Goals.{then-m-j, else-m-j}
use Rattle.cmac.proofs.add_last.Goals as goal

pub returns : goal.returns
unfolding last_block_by
returns c =
    let args = c.args in
    let m = args.m.now in
    let b = words_of (block_at m args.j) in
    let key : c.if-m-j.subkey ≡ cond (eqb (length m) (args.j + 16)) args.key.whole args.key.padded =
    elim c.if-m-j.branch [
      | then-m-j w ↦ w.subkey-is ∙ simp (eq-eqb (length m) (args.j + 16) w.if-m-j.true)
      | else-m-j w ↦ w.subkey-is ∙ simp (ne_eqb (length m) (args.j + 16) w.if-m-j.false)
    ] in
    c.add_block.ensures
    ∙ ap (λ (y : Words). added y b) c.add.ensures
    ∙ subkey_first args.x c.if-m-j.subkey b
    ∙ ap (λ (k : Words). added args.x (added b k)) key
