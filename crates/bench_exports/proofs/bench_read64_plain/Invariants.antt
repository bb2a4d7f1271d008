-- `bench_exports::bench_read64_plain` meets its contract: each word adds what it reads as.
use Rattle.std.proofs.Common.{◌≡◌, drop, bit_xor}
use Rattle.bench_exports.specs.Sums.{read_sum}
use Rattle.bench_exports.proofs.bench_read64_plain.Given as goal

abbrev pub invariant-loop-word : goal.invariant-loop-word
invariant-loop-word l = bit_xor l.sum (read_sum 64 (drop l.word-index l.words)) ≡ read_sum 64 l.words
