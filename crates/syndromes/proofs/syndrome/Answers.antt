-- `syndromes::syndrome` meets its contract: what is in the sum and what is left are the word's syndrome.
use Prim.Native.Nat.{◌%◌}
use native.Mathlib.Omega.{arith}
use Rattle.syndromes.proofs.Sums.{first, next, last}
use Rattle.syndromes.proofs.OctetRule.{octet_rule}
use borrow.Author.Rules.{rules}
use Rattle.syndromes.proofs.syndrome.Goals as goal

pub loop-k-init : goal.loop-k-init
loop-k-init c = first _ (search rules)

pub loop-k-preserved : goal.loop-k-preserved
loop-k-preserved c = next _ _ _ _ _ c.loop-k-test.true c.loop-k.invariant (octet_rule c.loop-k.k (c.loop-k.left % 256) c.loop-k-test.true (omega arith))

pub returns : goal.returns
returns c = last _ _ _ _ (omega arith) c.loop-k.invariant
