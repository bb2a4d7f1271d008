-- `bench_exports::bench_read32` meets its contract: each word adds what it reads as.
use Rattle.std.proofs.Common.{◌≡◌, arith, rules}
use Rattle.hec.specs.Reads.{found_word}
use Rattle.bench_exports.specs.Sums.{value_of}
use Rattle.bench_exports.proofs.Laws.{more, all}
use Rattle.bench_exports.proofs.bench_read32.Goals as goal

pub loop-word-preserved : goal.loop-word-preserved
loop-word-preserved c =
    let l = c.loop-word in
    let words = c.args.words.now in
    let found : c.map_or-sum.result ≡ value_of (found_word c.read32.result) = search rules in
    more 32 words l.word-index l.sum l.invariant _ (found_word c.read32.result) (omega arith) (omega (arith, c.type_inv.words l.word-index)) (omega arith) c.read32.ensures found

pub returns : goal.returns
returns c = all 32 c.args.words.now c.loop-word.word-index c.loop-word.sum c.loop-word.invariant (omega arith)
