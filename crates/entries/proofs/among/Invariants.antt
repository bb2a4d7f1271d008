-- `entries::among` meets its contract.
use Rattle.std.proofs.Common.{◌≡◌, ◌||◌, take}
use lib.Seq.{slice}
use Rattle.ids.specs.Ids.{same_alloc}
use Rattle.ids.specs.Places.{some}
use Rattle.entries.proofs.among.Given as goal

abbrev pub invariant-loop-i : goal.invariant-loop-i
invariant-loop-i l = (l.hit || some (same_alloc l.id) (slice l.i l.n l.other-items)) ≡ some (same_alloc l.id) (take l.n l.fn.ids)
