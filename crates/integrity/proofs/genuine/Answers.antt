-- `integrity::genuine` meets its contract.
use mathlib.Core.Path.{◌≡◌, ◌∙◌, sym, ap}
use mathlib.Core.Bool.{Bool, cond}
use borrow.Author.Tests.{lt-leb}
use lib.ListN.{length}
use Rattle.ids.specs.declared.OnuId.{OnuId}
use Rattle.ploam.specs.Layout.{message_octets, address_of, type_of}
use Rattle.cmac.specs.declared.Prepared.{Prepared}
use Rattle.integrity.specs.Integrity.{by_default_lem, mic_right_by, genuine_by}
use Rattle.integrity.specs.declared.Direction.TheVariants.{Downstream}
use Rattle.integrity.proofs.genuine.Goals.{then-by_default, else-by_default}
use Rattle.integrity.proofs.genuine.Goals as goal

pub returns-then-m-lt-MESSAGE_OCTETS : goal.returns-then-m-lt-MESSAGE_OCTETS
unfolding genuine_by mic_right_by
returns-then-m-lt-MESSAGE_OCTETS c = simp (lt-leb message_octets (length c.args.m.now) c.if-m-lt-MESSAGE_OCTETS.true)

pub returns : goal.returns
unfolding genuine_by
returns c =
    let a = c.args in
    let m = a.m.now in
    let told : c.by_default.result ≡ by_default_lem Downstream (address_of m) (type_of m) =
    c.by_default.ensures ∙ ap (λ (o : OnuId). by_default_lem Downstream o (type_of m)) c.address-address.ensures in
    let key : c.if-by_default.key ≡ cond c.by_default.result a.usual a.installed =
    elim c.if-by_default.branch [
      | then-by_default w ↦ w.key-is ∙ sym (ap (λ (b : Bool). cond b a.usual a.installed) w.if-by_default.true)
      | else-by_default w ↦ w.key-is ∙ sym (ap (λ (b : Bool). cond b a.usual a.installed) w.if-by_default.false)
    ] in
    c.mic_right.ensures
    ∙ ap (λ (k : Prepared). mic_right_by k Downstream m) (key ∙ ap (λ (b : Bool). cond b a.usual a.installed) told)
