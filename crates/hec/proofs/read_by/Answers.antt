-- `hec::read_by` meets its contract.
use mathlib.Core.Path.{sym, ◌∙◌}
use Rattle.hec.proofs.Mending.{clean, mended}
use borrow.Author.Rules.{rules}
use Rattle.hec.proofs.read_by.Goals as goal

pub returns-then-s-eq0 : goal.returns-then-s-eq0
returns-then-s-eq0 c = clean _ (search rules) (sym c.requires ∙ c.if-s-eq0.true)

pub returns : goal.returns
returns c = mended c.args.word _ _ _ (search rules) c.requires c.flips.ensures c.mend.ensures
