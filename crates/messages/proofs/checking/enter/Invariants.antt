-- `messages::checking::enter` meets its contract.
use mathlib.Core.Path.{◌≡◌}
use Prim.Native.Nat.{◌-◌, ◌≤◌}
use Rattle.messages.specs.Checking.{entered}
use Rattle.messages.proofs.checking.enter.Given as goal

abbrev pub invariant-loop-j : goal.invariant-loop-j
invariant-loop-j l = (l.j ≤ l.count) × (entered l.base l.places l.found l.j (l.count - l.j) l.marks ≡ entered l.base l.places l.found 0 l.count l.initial.marks)
