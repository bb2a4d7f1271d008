-- `bench_exports::bench_read64_plain` meets its contract: each word adds what it reads as.
use Rattle.std.proofs.Common.{◌≡◌, arith, rules}
use Rattle.hec.specs.Reads.{found_word}
use Rattle.bench_exports.specs.Sums.{value_of}
use Rattle.bench_exports.proofs.Laws.{more, all}
use Rattle.bench_exports.proofs.bench_read64_plain.Goals as goal

pub loop-word-preserved : goal.loop-word-preserved
loop-word-preserved c =
    let l = c.loop-word in
    let words = c.args.words.now in
    let found : c.map_or-sum.result ≡ value_of (found_word c.read64.result) = search rules in
    more 64 words l.word-index l.sum l.invariant _ (found_word c.read64.result) (omega arith) (omega (arith, c.type_inv.words l.word-index)) (omega arith) c.read64.ensures found

pub returns : goal.returns
returns c = all 64 c.args.words.now c.loop-word.word-index c.loop-word.sum c.loop-word.invariant (omega arith)
