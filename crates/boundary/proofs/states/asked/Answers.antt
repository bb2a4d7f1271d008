-- `boundary::states::asked` meets its contract.
use mathlib.Core.Path.{◌∙◌, sym}
use Rattle.boundary.proofs.states.asked.Goals as goal

pub returns-then-not-in_range : goal.returns-then-not-in_range
returns-then-not-in_range c = rw (sym c.in_range.ensures ∙ c.if-not-in_range.true)

pub returns-then-not-room : goal.returns-then-not-room
returns-then-not-room c = rw (sym c.in_range.ensures ∙ c.if-not-in_range.false, c.if-not-room.true)

pub returns : goal.returns
returns c = rw (sym c.in_range.ensures ∙ c.if-not-in_range.false, c.if-not-room.false)
