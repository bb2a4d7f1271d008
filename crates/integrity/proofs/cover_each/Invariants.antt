-- `integrity::cover_each` meets its contract.
use mathlib.Core.Path.{◌≡◌}
use lib.ListN.{length}
use Rattle.integrity.specs.Rows.{Rows}
use Rattle.integrity.proofs.cover_each.Given as goal

abbrev pub invariant-loop-j : goal.invariant-loop-j
invariant-loop-j l = (Rows l.messages l.places l.j l.rows) × (length l.rows ≡ length l.initial.rows)
