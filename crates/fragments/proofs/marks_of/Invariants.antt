-- `fragments::marks_of` meets its contract: the marks so far, with those still to come, are all.
use Rattle.std.proofs.Common.{◌≡◌, ◌+◌, ◌*◌, ◌≤◌, drop}
use Rattle.ids.specs.Ids.{same_port}
use Rattle.fragments.specs.Marks.{marks}
use Rattle.fragments.proofs.marks_of.Given as goal

abbrev pub invariant-loop-place : goal.invariant-loop-place
invariant-loop-place l = (l.sum ≤ 271 * l.place) × (l.sum + marks (same_port l.id) l.place (drop l.place l.other-items) ≡ marks (same_port l.id) 0 l.fn.ids)
