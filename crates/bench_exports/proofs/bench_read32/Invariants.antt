-- `bench_exports::bench_read32` meets its contract: each word adds what it reads as.
use Rattle.std.proofs.Common.{◌≡◌, drop, bit_xor}
use Rattle.bench_exports.specs.Sums.{read_sum}
use Rattle.bench_exports.proofs.bench_read32.Given as goal

abbrev pub invariant-loop-word : goal.invariant-loop-word
invariant-loop-word l = bit_xor l.sum (read_sum 32 (drop l.word-index l.words)) ≡ read_sum 32 l.words
