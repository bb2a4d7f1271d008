-- One round after another: the next round key, and the blocks after it.
-- Assumes nothing.
use mathlib.Core.Path.{◌≡◌, refl, sym, ap, ap₂, ◌∙◌}
use mathlib.Core.List.{List}
use Prim.Native.Nat.{ℕ, suc, ◌+◌}
use native.Mathlib.Numerals.{add-one}
use native.Mathlib.Omega.{arith}
use Rattle.subbytes.specs.Field.{xtime}
use Rattle.aes.specs.Cipher.{rcon}
use Rattle.aes.specs.Words.{added}
use Rattle.aes.specs.OnWords.{round_on, last_on, next_key_on, round_key_on, rounds_on, cipher_on}
use Rattle.aes.specs.Blocks.{each}
use Rattle.aes.specs.declared.Words.{Words}
use Rattle.aes.proofs.Each.{both, same}

pub next_constant : (rc d r : ℕ) → rc ≡ rcon r → d ≡ xtime rc → d ≡ rcon (r + 1)
unfolding rcon
next_constant rc d r p q = q ∙ ap xtime p ∙ sym (ap rcon (add-one r))

pub next_round_key : (key k w : Words) (rc r : ℕ) → k ≡ round_key_on r key → rc ≡ rcon r → w ≡ next_key_on k rc
    → w ≡ round_key_on (r + 1) key
unfolding round_key_on
next_round_key key k w rc r p q e = e ∙ ap₂ next_key_on p q ∙ sym (ap (λ (i : ℕ). round_key_on i key) (add-one r))

pub no_rounds : (n : ℕ) (key : Words) (l : List ℕ) → l ≡ each n (λ i x. rounds_on 0 key x) l
unfolding rounds_on
no_rounds n key l = sym (same 0 n l)

pub no_round_key : (key : Words) → key ≡ round_key_on 0 key
unfolding round_key_on
no_round_key key = refl

module _ (n : ℕ) (key k : Words) (r : ℕ) (l s t : List ℕ) (ek : k ≡ round_key_on (r + 1) key) (es : s ≡ each n (λ i x. rounds_on r key x) l) where
  pub next-rounds : t ≡ each n (λ i x. round_on x k) s → t ≡ each n (λ i x. rounds_on (r + 1) key x) l
  unfolding rounds_on
  next-rounds et =
      et ∙ ap₂ (λ (w : Words) (u : List ℕ). each n (λ i x. round_on x w) u) (ek ∙ ap (λ (i : ℕ). round_key_on i key) (add-one r)) es
      ∙ both 0 n (λ i x. round_on x (round_key_on (suc r) key)) (λ i x. rounds_on r key x) l
      ∙ sym (ap (λ (i : ℕ). each n (λ j x. rounds_on i key x) l) (add-one r))

  pub last_of_rounds : (m : List ℕ) → l ≡ each n (λ i x. added x key) m → r + 1 ≡ 10 → t ≡ each n (λ i x. last_on x k) s
      → t ≡ each n (λ i x. cipher_on key x) m
  unfolding cipher_on
  last_of_rounds m em er et =
      let nine : r ≡ 9 = omega (arith, er) in
      et ∙ ap₂ (λ (w : Words) (u : List ℕ). each n (λ i x. last_on x w) u) (ek ∙ ap (λ (i : ℕ). round_key_on i key) er)
      (es ∙ ap₂ (λ (i : ℕ) (u : List ℕ). each n (λ j x. rounds_on i key x) u) nine em ∙ both 0 n (λ i x. rounds_on 9 key x) (λ i x. added x key) m)
      ∙ both 0 n (λ i x. last_on x (round_key_on 10 key)) (λ i x. rounds_on 9 key (added x key)) m
