-- `messages::receive_all` meets its contract.
use mathlib.Core.Path.{◌∙◌, ap}
use native.Mathlib.Omega.{arith}
use Prim.Native.Nat.{◌/◌}
use lib.ListN.{length}
use Rattle.aes.specs.Words.{Octets}
use Rattle.cmac.specs.declared.Prepared.{Prepared}
use Rattle.messages.specs.Receiving.{received_all_by}
use Rattle.messages.proofs.Receiving.{each_true, key_is}
use Rattle.messages.proofs.PassingOver.{start-passed, none_acts}
use Rattle.messages.proofs.receive_all.Goals as goal

pub returns-then-messages-first : goal.returns-then-messages-first
returns-then-messages-first c =
    let a = c.args in
    none_acts a.messages.now (length a.messages.now / 48) _ a.s _ c.is_full.ensures c.past_inert-first.ensures c.if-messages-first.true

pub returns : goal.returns
returns c =
    let a = c.args in
    let b = a.messages.now in
    let u = c.default_key-usual in
    let p = c.installed_key-installed in
    let o : Octets b = λ i. omega (arith, c.shared_slice_known-1.given i) in
    c.receive_each.ensures
    ∙ start-passed b (length b / 48) _ a.s _ c.is_full.ensures c.past_inert-first.ensures u.result p.result
    ∙ ap (λ (x : Prepared). received_all_by x p.result a.s b) u.ensures
    ∙ each_true p.result b o (length b / 48) 0 a.s (key_is u.result a.s.link.key p.result u.ensures p.ensures)
