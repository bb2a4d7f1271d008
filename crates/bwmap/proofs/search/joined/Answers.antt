-- `bwmap::search::joined` meets its contract.
use native.Mathlib.Omega.{arith}
use Rattle.series.proofs.Opens.{goes_on_facts}
use Rattle.bwmap.proofs.search.joined.Goals as goal

pub returns : goal.returns
returns c = (cc, record { few = omega (arith, goes_on_facts c.args.s c.requires.1); start = c.requires.0.start; words = omega (arith, c.requires.0.words, c.from.ensures) })
