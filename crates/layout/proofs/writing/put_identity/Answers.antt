-- `layout::writing::put_identity` meets its contract: each field is laid behind the ones before it.
use mathlib.Core.List.{List, ◌++◌}
use Prim.Native.Nat.{ℕ}
use native.Mathlib.Omega.{arith}
use borrow.Author.Rules.{rules}
use Rattle.octets.specs.Octets.{octets}
use Rattle.station.specs.Limits.{serial_octets_lem, registration_octets_lem}
use Rattle.layout.specs.Layout.{activation_octets}
use Rattle.layout.specs.Offsets.{version_width, state_version, activation_at, activation_width, serial_at_lem, registration_at}
use Rattle.layout.proofs.Laws.{laid}
use Rattle.layout.proofs.writing.put_identity.Goals as goal

pub returns : goal.returns
returns c =
    let t = c.args.out.now in
    let a = c.args in
    let p0 : List ℕ = octets version_width state_version in
    let p1 : List ℕ = p0 ++ activation_octets a.a in
    let e1 = laid t p0 (activation_octets a.a) activation_at activation_width c.lay.ensures c.lay-2.ensures (omega (arith, c.requires)) in
    let e2 = laid t p1 a.serial serial_at_lem serial_octets_lem e1 (c.lay_octets.ensures, search rules) (omega (arith, c.requires)) in
    laid t (p1 ++ a.serial) a.registration registration_at registration_octets_lem e2 (c.lay_octets-2.ensures, search rules) (omega (arith, c.requires))
