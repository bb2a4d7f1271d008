-- `engine::lods::lost` meets its contract.
use mathlib.Core.Path.{◌∙◌, sym}
use Rattle.engine.specs.Lods.{lost_left}
use Rattle.engine.proofs.lods.lost.Goals as goal

pub returns-then-not-in_range : goal.returns-then-not-in_range
unfolding lost_left
returns-then-not-in_range c = rw (sym c.in_range.ensures ∙ c.if-not-in_range.true)

pub returns : goal.returns
unfolding lost_left
returns c = rw (sym c.in_range.ensures ∙ c.if-not-in_range.false, c.lost_time.ensures)
