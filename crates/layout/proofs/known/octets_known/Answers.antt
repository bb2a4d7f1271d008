-- `layout::known::octets_known` meets its contract.
use mathlib.Core.Path.{◌≡◌, sym, ◌∙◌}
use borrow.Author.Tests.{eq-eqb, ne_eqb}
use native.Mathlib.Omega.{arith}
use lib.ListN.{take}
use Rattle.integrity.specs.Integrity.{same}
use Rattle.layout.specs.Offsets.{state_bytes}
use Rattle.layout.specs.Layout.{encoded, shown}
use borrow.Author.Rules.{rules}
use Rattle.layout.specs.KnownOctets.{answer_known_lem, mark_known_lem, octets_known_lem}
use Rattle.layout.proofs.KnownOctets.{octets-known}
use Rattle.layout.proofs.known.octets_known.Goals.{After-shared_slice_known-1}
use Rattle.layout.proofs.known.octets_known.Goals as goal

whole : (c : After-shared_slice_known-1) → let b = c.args.b.now in same (encoded (shown b)) (take state_bytes b) ≡ octets_known_lem b
whole c = octets-known c.args.b.now c.requires (λ k. omega (arith, c.shared_slice_known-1.given k))

pub returns-then-version-ne-STATE_VERSION : goal.returns-then-version-ne-STATE_VERSION
returns-then-version-ne-STATE_VERSION c = sym (rw (ne_eqb _ _ c.if-version-ne-STATE_VERSION.true) at (whole (goal.at.returns-then-version-ne-STATE_VERSION c).After-shared_slice_known-1))

pub returns-then-not-activation_known : goal.returns-then-not-activation_known
returns-then-not-activation_known c = sym (rw (eq-eqb _ _ c.if-version-ne-STATE_VERSION.false, sym c.activation_known.ensures ∙ c.if-not-activation_known.true) at (whole (goal.at.returns-then-not-activation_known c).After-shared_slice_known-1))

pub returns-then-not-mark_known : goal.returns-then-not-mark_known
returns-then-not-mark_known c = sym (rw (eq-eqb _ _ c.if-version-ne-STATE_VERSION.false, sym c.activation_known.ensures ∙ c.if-not-activation_known.false, sym c.mark_known.ensures ∙ c.if-not-mark_known.true) at (whole (goal.at.returns-then-not-mark_known c).After-shared_slice_known-1))

pub returns-then-not-each_known : goal.returns-then-not-each_known
returns-then-not-each_known c = sym (rw (eq-eqb _ _ c.if-version-ne-STATE_VERSION.false, sym c.activation_known.ensures ∙ c.if-not-activation_known.false, sym c.mark_known.ensures ∙ c.if-not-mark_known.false, sym (c.each_known.ensures answer_known_lem (λ x r k. search rules)) ∙ c.if-not-each_known.true) at (whole (goal.at.returns-then-not-each_known c).After-shared_slice_known-1))

pub returns : goal.returns
returns c = sym (rw (eq-eqb _ _ c.if-version-ne-STATE_VERSION.false, sym c.activation_known.ensures ∙ c.if-not-activation_known.false, sym c.mark_known.ensures ∙ c.if-not-mark_known.false, sym (c.each_known.ensures answer_known_lem (λ x r k. search rules)) ∙ c.if-not-each_known.false, sym (c.each_known-2.ensures mark_known_lem (λ x r k. search rules))) at (whole (goal.at.returns c).After-shared_slice_known-1))
