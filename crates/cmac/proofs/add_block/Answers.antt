-- `cmac::add_block` meets its contract.
use Rattle.cmac.proofs.Blocks.{added-block}
use Rattle.cmac.proofs.add_block.Goals as goal

pub returns : goal.returns
returns c =
    let args = c.args in
    added-block args.x args.m.now args.j c.word_at.result c.word_at-2.result c.word_at-3.result
    c.word_at-4.result c.word_at.ensures c.word_at-2.ensures c.word_at-3.ensures c.word_at-4.ensures
