-- `ploamu::writing::write` meets its contract.
use mathlib.Core.Path.{◌≡◌, ◌∙◌, sym, ap}
use mathlib.Core.Bool.{Bool, true, false, cond}
use borrow.Author.Rules.{rules}
use Rattle.ploam.specs.Layout.{type_of}
use Rattle.integrity.specs.Integrity.{by_default_lem, upstream_by_default_lem}
use Rattle.integrity.specs.declared.Direction.TheVariants.{Upstream}
use Rattle.ploamu.specs.Upstream.{upstream_address, upstream_type}
use Rattle.ploamu.proofs.Laid.{type_laid, write_of}
use Rattle.ploamu.proofs.writing.write.Goals as goal

pub returns-then-by_default : goal.returns-then-by_default
returns-then-by_default c =
    let args = c.args in
    let b = c.upstream_octets-b in
    let onu = c.sender-onu in
    let type : type_of b.result ≡ upstream_type args.message = ap type_of b.ensures ∙ type_laid args.message args.id in
    let e : by_default_lem Upstream (upstream_address args.message) (upstream_type args.message) ≡ true =
    sym (c.by_default.ensures ∙ ap upstream_by_default_lem type) ∙ c.if-by_default.true
    in
    write_of args.usual args.installed args.usual args.message args.id args.target.now
    b.result onu.result _ b.ensures onu.ensures
    (sym (ap (λ (b : Bool). cond b args.usual args.installed) e)) c.put.ensures (search rules)

pub returns-else-by_default : goal.returns-else-by_default
returns-else-by_default c =
    let args = c.args in
    let b = c.upstream_octets-b in
    let onu = c.sender-onu in
    let type : type_of b.result ≡ upstream_type args.message = ap type_of b.ensures ∙ type_laid args.message args.id in
    let e : by_default_lem Upstream (upstream_address args.message) (upstream_type args.message) ≡ false =
    sym (c.by_default.ensures ∙ ap upstream_by_default_lem type) ∙ c.if-by_default.false
    in
    write_of args.usual args.installed args.installed args.message args.id args.target.now
    b.result onu.result _ b.ensures onu.ensures
    (sym (ap (λ (b : Bool). cond b args.usual args.installed) e)) c.put-else-by_default.ensures (search rules)
