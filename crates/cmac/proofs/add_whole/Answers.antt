-- `cmac::add_whole` meets its contract.
use Rattle.cmac.proofs.Blocks.{added-block}
use Rattle.cmac.proofs.add_whole.Goals as goal

pub returns : goal.returns
returns c =
    let args = c.args in
    added-block args.x args.m.now args.j c.inner_word.result c.inner_word-2.result c.inner_word-3.result
    c.inner_word-4.result c.inner_word.ensures c.inner_word-2.ensures c.inner_word-3.ensures c.inner_word-4.ensures
