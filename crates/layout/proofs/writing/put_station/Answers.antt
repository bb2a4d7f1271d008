-- `layout::writing::put_station` meets its contract: each field is laid behind the ones before it.
use mathlib.Core.List.{List, ◌++◌}
use Prim.Native.Nat.{ℕ}
use native.Mathlib.Omega.{arith}
use Rattle.octets.specs.Octets.{octets}
use Rattle.layout.specs.Layout.{identity_octets, link_octets, ports_octets, encoded}
use Rattle.layout.specs.Offsets.{link_at, link_width, ports_at, ports_width, carried_at, words_width}
use Rattle.layout.proofs.Laws.{laid}
use Rattle.layout.proofs.writing.put_station.Goals as goal

pub returns : goal.returns
unfolding encoded
returns c =
    let t = c.args.out.now in
    let s = c.args.s in
    let p1 : List ℕ = identity_octets s.activation s.serial s.registration in
    let p2 : List ℕ = p1 ++ link_octets s.link in
    let e2 = laid t p1 (link_octets s.link) link_at link_width c.put_identity.ensures c.lay.ensures (omega (arith, c.requires)) in
    let e3 = laid t p2 (ports_octets s.ports) ports_at ports_width e2 c.lay-2.ensures (omega (arith, c.requires)) in
    laid t (p2 ++ ports_octets s.ports) (octets words_width s.carried) carried_at words_width e3 c.lay-3.ensures (omega (arith, c.requires))
