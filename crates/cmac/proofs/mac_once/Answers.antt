-- `cmac::mac_once` meets its contract.
use mathlib.Core.Path.{◌≡◌, ◌∙◌, ap}
use native.Mathlib.Omega.{arith}
use lib.ListN.{length}
use Rattle.aes.specs.Words.{Octets}
use Rattle.cmac.specs.Tags.{mac_by}
use Rattle.cmac.specs.declared.Prepared.{Prepared}
use Rattle.cmac.proofs.Macs.{mac_prepared}
use borrow.Author.Rules.{rules}
use Rattle.cmac.proofs.mac_once.Goals as goal

pub returns : goal.returns
returns c =
    let args = c.args in
    let l : length args.key ≡ 16 = search rules in
    let o : Octets args.m.now = λ i. omega (arith, c.shared_slice_known-1.given i) in
    let ready = c.prepare.ensures in
    c.mac.ensures ∙ ap (λ (p : Prepared). mac_by p args.m.now) ready.made
    ∙ mac_prepared args.key args.m.now ready.octets l o
