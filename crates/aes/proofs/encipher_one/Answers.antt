-- `aes::encipher_one` meets its contract.
use mathlib.Core.Path.{◌≡◌, ◌∙◌, refl, sym, ap, ap₂}
use native.Mathlib.Omega.{arith}
use Prim.Native.Nat.{ℕ, ◌+◌}
use native.Mathlib.Numerals.{add-one}
use Rattle.aes.specs.Cipher.{rcon}
use Rattle.aes.specs.OnWords.{round_on, last_on, rounds_on, round_key_on, cipher_on}
use Rattle.aes.proofs.Rounds.{next_constant, next_round_key, no_round_key}
use Rattle.aes.proofs.encipher_one.Goals as goal

pub loop-init : goal.loop-init
unfolding rcon rounds_on
loop-init c = record { key = no_round_key c.args.key; constant = refl; worked = refl }

pub loop-preserved : goal.loop-preserved
unfolding rounds_on
loop-preserved c =
    let l = c.loop in
    let key = c.args.key in
    let k = c.next_key-k in
    let kept = l.invariant in
    let ek = next_round_key key l.k k.result l.rc l.counter kept.key kept.constant k.ensures in
    record {
      key = ek;
      constant = next_constant l.rc c.doubled-rc.result l.counter kept.constant c.doubled-rc.ensures;
      worked =
          c.round-state.ensures ∙ ap₂ round_on kept.worked (ek ∙ ap (λ (i : ℕ). round_key_on i key) (add-one l.counter))
          ∙ sym (ap (λ (i : ℕ). rounds_on i key c.add-state.result) (add-one l.counter));
    }

pub returns : goal.returns
unfolding cipher_on
returns c =
    let l = c.loop in
    let key = c.args.key in
    let k = c.next_key in
    let kept = l.invariant in
    let nine : l.counter ≡ 9 = omega arith in
    let ek = next_round_key key l.k k.result l.rc l.counter kept.key kept.constant k.ensures in
    c.last_round.ensures
    ∙ ap₂ last_on (kept.worked ∙ ap₂ (λ (i : ℕ) x. rounds_on i key x) nine c.add-state.ensures)
    (ek ∙ ap (λ (i : ℕ). round_key_on (i + 1) key) nine)
