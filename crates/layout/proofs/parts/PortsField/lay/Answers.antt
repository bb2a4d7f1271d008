-- `layout::parts::PortsField::lay` meets its contract: each field is laid behind the ones before it.
use mathlib.Core.List.{List, ◌++◌}
use Prim.Native.Nat.{ℕ}
use native.Mathlib.Omega.{arith}
use Rattle.layout.specs.Layout.{port_octets, length_octets, mark_octets}
use Rattle.layout.specs.Rows.{each}
use Rattle.layout.specs.Offsets.{lengths_at, lengths_width, waiting_at, waiting_width}
use Rattle.layout.proofs.Laws.{laid}
use Rattle.layout.proofs.parts.PortsField.lay.Goals as goal

pub returns : goal.returns
returns c =
    let t = c.args.out.now in
    let p = c.args.self in
    let p1 : List ℕ = each port_octets p.ids in
    let e2 = laid t p1 (each length_octets p.lengths) lengths_at lengths_width c.lay_each.ensures c.lay_each-2.ensures (omega (arith, c.requires)) in
    laid t (p1 ++ each length_octets p.lengths) (each mark_octets p.waiting) waiting_at waiting_width e2 c.lay_each-3.ensures (omega (arith, c.requires))
