-- `layout::write_state` meets its contract.
use borrow.Author.Tests.{le-leb, lt-leb}
use Rattle.layout.specs.Layout.{stored}
use Rattle.layout.proofs.write_state.Goals as goal

pub returns-then-state-ge-STATE_BYTES : goal.returns-then-state-ge-STATE_BYTES
unfolding stored
returns-then-state-ge-STATE_BYTES c = rw (le-leb _ _ c.if-state-ge-STATE_BYTES.true) c.put_station.ensures.0

pub returns-else-state-ge-STATE_BYTES : goal.returns-else-state-ge-STATE_BYTES
unfolding stored
returns-else-state-ge-STATE_BYTES c = rw (lt-leb _ _ c.if-state-ge-STATE_BYTES.false)
