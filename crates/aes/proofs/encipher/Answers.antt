-- `aes::encipher` meets its contract.
use mathlib.Core.Path.{◌≡◌, ◌∙◌, refl, sym, ap}
use Prim.Native.Nat.{ℕ, min, ◌≤◌}
use native.Mathlib.Omega.{arith}
use Rattle.aes.specs.Cipher.{rcon}
use Rattle.aes.specs.Words.{added}
use Rattle.aes.specs.OnWords.{round_on, last_on, cipher_on}
use Rattle.aes.specs.Blocks.{with_block, each}
use Rattle.aes.specs.declared.Words.{Words}
use Rattle.aes.proofs.Each.{next-each}
use Rattle.aes.proofs.Rounds.{next_constant, next_round_key, next-rounds, last_of_rounds, no_rounds, no_round_key}
use borrow.Author.Rules.{rules}
use Rattle.aes.proofs.encipher.Goals as goal

all : (n : ℕ) → n ≤ 8 → min n 8 ≡ n
all n h = omega arith

pub returns-then-n-eq1 : goal.returns-then-n-eq1
returns-then-n-eq1 c =
    let a = c.args in
    let f : ℕ → Words → Words = λ i x. cipher_on a.key x in
    let one : 1 ≡ min a.count 8 = sym c.if-n-eq1.true ∙ c.at_most-n.ensures.0 in
    next-each f a.blocks.now a.blocks.now c.put.new.blocks 0 (search rules) (omega arith) refl
    (c.put.ensures ∙ ap (with_block a.blocks.now 0) (c.encipher_one.ensures ∙ ap (cipher_on a.key) c.block-input.ensures))
    ∙ ap (λ (n : ℕ). each n f a.blocks.now) one

pub loop-init : goal.loop-init
unfolding rcon
loop-init c =
    record {
      key = no_round_key c.args.key;
      constant = refl;
      worked = no_rounds c.at_most-n.result c.args.key c.on_each.new.blocks;
    }

pub loop-preserved : goal.loop-preserved
loop-preserved c =
    let l = c.loop in
    let key = c.args.key in
    let k = c.next_key-k in
    let kept = l.invariant in
    let ek = next_round_key key l.k k.result l.rc l.counter kept.key kept.constant k.ensures in
    record {
      key = ek;
      constant = next_constant l.rc c.doubled-rc.result l.counter kept.constant c.doubled-rc.ensures;
      worked =
          next-rounds c.at_most-n.result key k.result l.counter c.on_each.new.blocks l.blocks c.on_each-in-loop.new.blocks ek kept.worked
          (c.on_each-in-loop.ensures (λ i x. round_on x k.result) (λ j x r h p. search rules) ∙ ap (λ (m : ℕ). each m (λ i x. round_on x k.result) l.blocks) (all c.at_most-n.result c.at_most-n.ensures.1));
    }

pub returns : goal.returns
returns c =
    let l = c.loop in
    let a = c.args in
    let k = c.next_key-k-2 in
    let kept = l.invariant in
    last_of_rounds c.at_most-n.result a.key k.result l.counter c.on_each.new.blocks l.blocks c.on_each-2.new.blocks
    (next_round_key a.key l.k k.result l.rc l.counter kept.key kept.constant k.ensures) kept.worked a.blocks.now (c.on_each.ensures (λ i x. added x a.key) (λ j x r h p. search rules) ∙ ap (λ (m : ℕ). each m (λ i x. added x a.key) a.blocks.now) (all c.at_most-n.result c.at_most-n.ensures.1))
    (omega arith) (c.on_each-2.ensures (λ i x. last_on x k.result) (λ j x r h p. search rules) ∙ ap (λ (m : ℕ). each m (λ i x. last_on x k.result) l.blocks) (all c.at_most-n.result c.at_most-n.ensures.1))
    ∙ ap (λ (m : ℕ). each m (λ i x. cipher_on a.key x) a.blocks.now) c.at_most-n.ensures.0
