-- `layout::known::activation_known` meets its contract.
use mathlib.Core.Path.{refl, sym, ap, ◌∙◌}
use borrow.Author.Tests.{eq-eqb, ne_eqb}
use mathlib.Core.Bool.{Bool, ◌&&◌}
use lib.Dec.{eqb}
use Rattle.layout.specs.Layout.{time_left_lem}
use Rattle.layout.proofs.KnownOctets.{activation_tests}
use Rattle.layout.proofs.known.activation_known.Goals as goal

pub returns-then-number : goal.returns-then-number
returns-then-number c =
    let b = c.args.c.now in
    let m = c.number.result in
    let n = c.field_at-number.result in
    let l = c.field_at-left.result in
    let a = c.activation_by-a.result in
    sym (ap (λ (s : Bool). s && eqb (time_left_lem a) l) (ne_eqb m n c.if-number.true))
    ∙ activation_tests b n l m (time_left_lem a) a c.field_at-number.ensures c.field_at-left.ensures c.activation_by-a.ensures c.number.ensures refl

pub returns : goal.returns
returns c =
    let b = c.args.c.now in
    let m = c.number.result in
    let n = c.field_at-number.result in
    let l = c.field_at-left.result in
    let t = c.time_left.result in
    let a = c.activation_by-a.result in
    sym (ap (λ (s : Bool). s && eqb t l) (eq-eqb m n c.if-number.false))
    ∙ activation_tests b n l m t a c.field_at-number.ensures c.field_at-left.ensures c.activation_by-a.ensures c.number.ensures c.time_left.ensures
