-- `layout::parts::LinkField::lay` meets its contract: each field is laid behind the ones before it.
use mathlib.Core.List.{List, ◌++◌}
use Prim.Native.Nat.{ℕ}
use native.Mathlib.Omega.{arith}
use Rattle.octets.specs.Octets.{octets}
use Rattle.layout.specs.Layout.{allocs_octets, key_octets, queue_octets}
use Rattle.layout.specs.Offsets.{id_width, allocs_at, allocs_width, delay_at, delay_width, key_at, key_width, queue_at, queue_width}
use Rattle.layout.proofs.Laws.{laid}
use Rattle.layout.proofs.parts.LinkField.lay.Goals as goal

pub returns : goal.returns
returns c =
    let t = c.args.out.now in
    let l = c.args.self in
    let p1 : List ℕ = octets id_width l.onu.0 in
    let p2 : List ℕ = p1 ++ allocs_octets l.allocs in
    let p3 : List ℕ = p2 ++ octets delay_width l.delay in
    let p4 : List ℕ = p3 ++ key_octets l.key in
    let e2 = laid t p1 (allocs_octets l.allocs) allocs_at allocs_width c.lay.ensures c.lay-2.ensures (omega (arith, c.requires)) in
    let e3 = laid t p2 (octets delay_width l.delay) delay_at delay_width e2 c.lay-3.ensures (omega (arith, c.requires)) in
    let e4 = laid t p3 (key_octets l.key) key_at key_width e3 c.lay-4.ensures (omega (arith, c.requires)) in
    laid t p4 (queue_octets l.owed) queue_at queue_width e4 c.lay-5.ensures (omega (arith, c.requires))
