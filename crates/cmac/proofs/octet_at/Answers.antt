-- `cmac::octet_at` meets its contract.
use borrow.Author.Tests.{lt-ltb, le-ltb, eq-eqb, ne_eqb}
use Rattle.cmac.specs.Mac.{padded_at}
use Rattle.cmac.proofs.octet_at.Goals as goal

pub returns-then-j-m : goal.returns-then-j-m
unfolding padded_at
returns-then-j-m c = simp (lt-ltb _ _ c.if-j-m.true)

pub returns-then-j-m-2 : goal.returns-then-j-m-2
unfolding padded_at
returns-then-j-m-2 c = simp (le-ltb _ _ c.if-j-m.false, eq-eqb _ _ c.if-j-m-2.true)

pub returns-else-j-m-2 : goal.returns-else-j-m-2
unfolding padded_at
returns-else-j-m-2 c = simp (le-ltb _ _ c.if-j-m.false, ne_eqb _ _ c.if-j-m-2.false)
