-- `validity::port_numbers` meets its contract.
use Rattle.std.proofs.Common.{◌≡◌, drop, length}
use lib.Seq.{sets}
use Rattle.ids.specs.declared.PortId.{PortId}
use Rattle.ids.specs.Ids.{assignable_port}
use Rattle.validity.specs.Ranges.{numbers_from, port_numbers_lem}
use Rattle.validity.proofs.Places.{taken}
use Rattle.validity.proofs.port_numbers.Given as goal

abbrev pub invariant-loop-i : goal.invariant-loop-i
invariant-loop-i l = (length l.numbers ≡ 16) × (sets l.numbers l.i (numbers_from taken assignable_port (λ (a : PortId). a.0) l.i (drop l.i l.id-items)) ≡ port_numbers_lem l.fn.ids)
