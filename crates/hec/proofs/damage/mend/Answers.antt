-- `hec::damage::mend` meets its contract: each of its answers is that of a step.
use native.Mathlib.Omega.{arith}
use Rattle.hec.proofs.Steps.{few-enough, too_many}
use Rattle.hec.proofs.damage.mend.Goals as goal

-- the test by arithmetic, not as it stands: one of another number is refused for what it lets through or keeps out
pub returns-then-count-le2 : goal.returns-then-count-le2
returns-then-count-le2 c = let a = c.args in few-enough a.flips a.word a.s (omega (arith, c.if-count-le2.true))

pub returns-else-count-le2 : goal.returns-else-count-le2
returns-else-count-le2 c = let a = c.args in too_many a.flips a.word a.s (omega (arith, c.if-count-le2.false))
