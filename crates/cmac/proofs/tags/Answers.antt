-- `cmac::tags` meets its contract.
use mathlib.Core.Path.{◌≡◌, ◌∙◌, refl, sym, ap}
use Prim.Native.Nat.{ℕ, min, ◌*◌, ◌/◌}
use native.Mathlib.Omega.{arith}
use lib.ListN.{length, replicate}
use Rattle.aes.specs.Words.{words_of, added}
use Rattle.aes.specs.OnWords.{cipher_on}
use Rattle.aes.specs.Blocks.{each}
use Rattle.cmac.specs.Mac.{block_at}
use Rattle.cmac.specs.Tags.{chained_by, last_block_by, message_of, tags_by}
use Rattle.cmac.proofs.Blocks.{none_chained, next-chained, all_tagged, shared}
use borrow.Author.Rules.{rules}
use Rattle.cmac.proofs.tags.Goals as goal

pub returns-then-n-eq0 : goal.returns-then-n-eq0
unfolding tags_by
returns-then-n-eq0 c =
    let e : min c.args.count 8 ≡ 0 = sym c.at_most-n.ensures.0 ∙ c.if-n-eq0.true in
    sym (ap (λ (n : ℕ). tags_by c.args.key c.args.ms.now n) e)

pub loop-i-init : goal.loop-i-init
loop-i-init c =
    let n = c.at_most-n.result in
    none_chained c.args.key c.args.ms.now (length c.args.ms.now / n) n

pub loop-i-preserved : goal.loop-i-preserved
loop-i-preserved c =
    let a = c.args in
    let n = c.at_most-n in
    let l = c.loop-i in
    let ms = a.ms.now in
    let size = length ms / n.result in
    let all : min n.result 8 ≡ n.result = omega (arith, n.ensures.1) in
    next-chained a.key ms size n.result l.i-counter l.xs c.on_each.new.blocks c.encipher.new.blocks l.invariant
    (c.on_each.ensures (λ j x. added x (words_of (block_at (message_of ms size j) (l.i-counter * 16)))) (λ j x r h p. search rules) ∙ ap (λ (m : ℕ). each m (λ j x. added x (words_of (block_at (message_of ms size j) (l.i-counter * 16)))) l.xs) all)
    (c.encipher.ensures ∙ ap (λ (m : ℕ). each m (λ i x. cipher_on a.key.key x) c.on_each.new.blocks) all)

pub returns : goal.returns
unfolding tags_by
returns c =
    let a = c.args in
    let n = c.at_most-n in
    let l = c.loop-i in
    let ms = a.ms.now in
    let size = length ms / n.result in
    let before = c.blocks_before-before in
    let e : l.i-counter ≡ before.result = omega arith in
    let all : min n.result 8 ≡ n.result = omega (arith, n.ensures.1) in
    all_tagged a.key ms size n.result (shared ms size n.result (omega (arith, c.if-n-eq0.false)) refl) before.result l.xs c.on_each-2.new.blocks c.encipher-2.new.blocks before.ensures
    (l.invariant ∙ ap (λ (i : ℕ). each n.result (λ j x. chained_by a.key.key (message_of ms size j) i) (replicate 32 0)) e)
    (c.on_each-2.ensures (λ j x. added x (last_block_by a.key (message_of ms size j) (before.result * 16))) (λ j x r h p. search rules) ∙ ap (λ (m : ℕ). each m (λ j x. added x (last_block_by a.key (message_of ms size j) (before.result * 16))) l.xs) all)
    (c.encipher-2.ensures ∙ ap (λ (m : ℕ). each m (λ i x. cipher_on a.key.key x) c.on_each-2.new.blocks) all)
    ∙ ap (tags_by a.key ms) n.ensures.0
