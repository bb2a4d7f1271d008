-- `syndromes::syndrome` meets its contract: what is in the sum and what is left are the word's syndrome.
use Rattle.syndromes.proofs.Sums.{Summed}
use Rattle.syndromes.proofs.syndrome.Given as goal

abbrev pub invariant-loop-k : goal.invariant-loop-k
invariant-loop-k l = Summed l.word l.k l.sum l.left
