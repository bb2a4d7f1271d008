-- What is still to come puts what all the lines put from the start.
use mathlib.Core.Path.{◌≡◌}
use lib.ListN.{length, drop}
use Rattle.text.specs.Texts.{added}
use Rattle.why_dark.specs.Report.{lines_from}
use Rattle.why_dark.proofs.structures.put_lines.Given as goal

abbrev pub invariant-loop-i : goal.invariant-loop-i
invariant-loop-i l = (length l.text ≡ length l.initial.text) × (added l.text l.place (lines_from l.frame l.i (drop l.i l.names)) ≡ added l.initial.text l.at (lines_from l.frame 0 l.names))
