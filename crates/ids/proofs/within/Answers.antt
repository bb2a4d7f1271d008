-- `ids::within` meets its contract: the second test is made where the first holds.
use borrow.Author.Tests.{le-leb, lt-leb}
use Rattle.ids.proofs.within.Goals as goal

pub returns-then-first-id : goal.returns-then-first-id
returns-then-first-id c = rw (le-leb _ _ c.if-first-id.true)

pub returns-else-first-id : goal.returns-else-first-id
returns-else-first-id c = rw (lt-leb _ _ c.if-first-id.false)
