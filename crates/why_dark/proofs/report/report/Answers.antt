-- `why_dark::report::report` meets its contract.
use native.Mathlib.Omega.{arith}
use Rattle.text.proofs.Adding.{whole}
use Rattle.why_dark.proofs.Lengths.{report-within}
use Rattle.why_dark.proofs.report.report.Goals as goal

pub returns : goal.returns
returns c = whole _ _ _ c.put_report.ensures (omega (arith, c.requires, report-within c.args.input.now))
