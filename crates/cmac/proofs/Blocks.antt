-- The words of a block of the padded message, as the code reads them, and the tags of several messages, a block at a time.
-- Assumes nothing.
use mathlib.Core.Path.{◌≡◌, ◌∙◌, refl, sym, ap, ap₂, subst}
use mathlib.Core.List.{List, ◌∷◌}
use Prim.Native.Nat.{ℕ, zero, suc, ◌+◌, ◌-◌, ◌*◌, ◌/◌, ◌<◌, ◌≤◌}
use native.Mathlib.Nat.{mul-le-mul_right, add-mul, one-mul, zero-mul, div-one, mul_comm, div-mul-le_self}
use native.Mathlib.Omega.{arith}
use native.Mathlib.Numerals.{add-one}
use lib.ListN.{length, take, drop, replicate, length-drop}
use lib.Seq.{length-take-le, take-length}
use lib.Bits.{bit_xor, xor_comm}
use borrow.Author.Tests.{lt-ltb}
use Rattle.aes.specs.Cipher.{at}
use Rattle.aes.specs.Words.{joined, words_of, added, no_words}
use Rattle.aes.specs.OnWords.{cipher_on}
use Rattle.aes.specs.Blocks.{each, each_from}
use Rattle.aes.specs.declared.Words.{Words}
use Rattle.aes.proofs.Blocks.{words}
use Rattle.aes.proofs.Each.{both, alike}
use Rattle.aes.proofs.Xor.{xor_assoc}
use Rattle.cmac.specs.Mac.{padded_at, block_at, before}
use Rattle.cmac.specs.Tags.{word_at, chained_by, last_block_by, tag_by, doubled_words, prepared_by, message_of, tags_by}
use Rattle.cmac.specs.declared.Prepared.{Prepared}

joined_of : {a b c d e f g h : ℕ} → a ≡ e → b ≡ f → c ≡ g → d ≡ h → joined a b c d ≡ joined e f g h
joined_of p q r s =
    ap₂ (λ (x y : ℕ). x * 256 + y) (ap₂ (λ (x y : ℕ). x * 256 + y) (ap₂ (λ (x y : ℕ). x * 256 + y) p q) r) s

-- within the message no octet is padding
pub within : (m : List ℕ) (j : ℕ) → j < length m → at m j ≡ padded_at m j
unfolding padded_at
within m j h = simp (lt-ltb j (length m) h)

pub inner-word : (m : List ℕ) (j : ℕ) → j + 4 ≤ length m
    → joined (at m j) (at m (j + 1)) (at m (j + 2)) (at m (j + 3)) ≡ word_at m j
unfolding word_at
inner-word m j h =
    joined_of (within m j (omega arith)) (within m (j + 1) (omega arith)) (within m (j + 2) (omega arith))
    (within m (j + 3) (omega arith))

moved : (m : List ℕ) (i j : ℕ) → i ≡ j → padded_at m i ≡ padded_at m j
moved m i j e = ap (padded_at m) e

block_words : (m : List ℕ) (j : ℕ)
    → words_of (block_at m j)
    ≡ record { a = word_at m j; b = word_at m (j + 4); c = word_at m (j + 8); d = word_at m (j + 12) }
unfolding block_at word_at
block_words m j =
    words (joined_of (moved m (j + 0) j (omega arith)) refl refl refl)
    (joined_of refl (moved m (j + 5) (j + 4 + 1) (omega arith)) (moved m (j + 6) (j + 4 + 2) (omega arith))
    (moved m (j + 7) (j + 4 + 3) (omega arith)))
    (joined_of refl (moved m (j + 9) (j + 8 + 1) (omega arith)) (moved m (j + 10) (j + 8 + 2) (omega arith))
    (moved m (j + 11) (j + 8 + 3) (omega arith)))
    (joined_of refl (moved m (j + 13) (j + 12 + 1) (omega arith)) (moved m (j + 14) (j + 12 + 2) (omega arith))
    (moved m (j + 15) (j + 12 + 3) (omega arith)))

pub added-block : (x : Words) (m : List ℕ) (j a b c d : ℕ) → a ≡ word_at m j → b ≡ word_at m (j + 4) → c ≡ word_at m (j + 8)
    → d ≡ word_at m (j + 12)
    → ◌≡◌ {A = Words} (record { a = bit_xor x.a a; b = bit_xor x.b b; c = bit_xor x.c c; d = bit_xor x.d d })
    (added x (words_of (block_at m j)))
added-block x m j a b c d p q r s =
    words (ap (bit_xor x.a) p) (ap (bit_xor x.b) q) (ap (bit_xor x.c) r) (ap (bit_xor x.d) s)
    ∙ ap (added x) (sym (block_words m j))

-- a subkey may be added first
turn : (x k b : ℕ) → bit_xor (bit_xor x k) b ≡ bit_xor x (bit_xor b k)
turn x k b = xor_assoc x k b ∙ ap (bit_xor x) (xor_comm k b)

pub subkey_first : (x k b : Words) → added (added x k) b ≡ added x (added b k)
subkey_first x k b =
    words (turn x.a k.a b.a) (turn x.b k.b b.b) (turn x.c k.c b.c) (turn x.d k.d b.d)

pub prepared_of : (k l k1 k2 : Words) → l ≡ cipher_on k no_words → k1 ≡ doubled_words l → k2 ≡ doubled_words k1
    → ◌≡◌ {A = Prepared} (record { key = k; whole = k1; padded = k2 }) (prepared_by k)
unfolding prepared_by
prepared_of k l k1 k2 p q r = cc

-- ---- several messages at once

zeros : (i n k : ℕ) → each_from i n (λ j x. no_words) (replicate k 0) ≡ replicate k 0
zeros i zero k = refl
zeros i (suc n) zero = refl
zeros i (suc n) (suc zero) = refl
zeros i (suc n) (suc (suc zero)) = refl
zeros i (suc n) (suc (suc (suc zero))) = refl
zeros i (suc n) (suc (suc (suc (suc k)))) = ap (λ (l : List ℕ). 0 ∷ 0 ∷ 0 ∷ 0 ∷ l) (zeros (suc i) n k)

module _ (ms : List ℕ) (size n : ℕ) where
  pub shared : 0 < n → size ≡ length ms / n → n * size ≤ length ms
  shared h e = subst (λ (x : ℕ). x ≤ length ms) (mul_comm (length ms / n) n ∙ ap (λ (x : ℕ). n * x) (sym e)) (div-mul-le_self (length ms) n)

  pub within_all : n * size ≤ length ms → (j : ℕ) → j < n → j * size + size ≤ length ms
  within_all h j hj =
      let one : (j + 1) * size ≤ n * size = mul-le-mul_right size (omega arith) in
      omega (arith, h, one, add-mul j 1 size, one-mul size)

  pub length_of : n * size ≤ length ms → (j : ℕ) → j < n → length (message_of ms size j) ≡ size
  length_of h j hj = length-take-le size (drop (j * size) ms) (omega (arith, length-drop (j * size) ms, within_all h j hj))

module _ (p : Prepared) (ms : List ℕ) (size n : ℕ) where
  pub none_chained : replicate 32 0 ≡ each n (λ j x. chained_by p.key (message_of ms size j) 0) (replicate 32 0)
  unfolding chained_by
  none_chained = sym (zeros 0 n 32)

  -- what is added and enciphered, at each of them
  one_more : (f g : ℕ → Words) (s t u : List ℕ) → s ≡ each n (λ j x. f j) (replicate 32 0) → t ≡ each n (λ j x. added x (g j)) s
      → u ≡ each n (λ j x. cipher_on p.key x) t → u ≡ each n (λ j x. cipher_on p.key (added (f j) (g j))) (replicate 32 0)
  one_more f g s t u es et eu =
      eu ∙ ap (each n (λ j x. cipher_on p.key x)) (et ∙ ap (each n (λ j x. added x (g j))) es ∙ both 0 n (λ j x. added x (g j)) (λ j x. f j) (replicate 32 0))
      ∙ both 0 n (λ j x. cipher_on p.key x) (λ j x. added (f j) (g j)) (replicate 32 0)

  -- a block more
  pub next-chained : (i : ℕ) (s t u : List ℕ) → s ≡ each n (λ j x. chained_by p.key (message_of ms size j) i) (replicate 32 0)
      → t ≡ each n (λ j x. added x (words_of (block_at (message_of ms size j) (i * 16)))) s → u ≡ each n (λ j x. cipher_on p.key x) t
      → u ≡ each n (λ j x. chained_by p.key (message_of ms size j) (i + 1)) (replicate 32 0)
  unfolding chained_by
  next-chained i s t u es et eu =
      one_more (λ j. chained_by p.key (message_of ms size j) i) (λ j. words_of (block_at (message_of ms size j) (i * 16))) s t u es et eu
      ∙ sym (ap (λ (k : ℕ). each n (λ j x. chained_by p.key (message_of ms size j) k) (replicate 32 0)) (add-one i))

  -- and the last
  pub all_tagged : n * size ≤ length ms → (i : ℕ) (s t u : List ℕ) → i ≡ (size - 1) / 16
      → s ≡ each n (λ j x. chained_by p.key (message_of ms size j) i) (replicate 32 0)
      → t ≡ each n (λ j x. added x (last_block_by p (message_of ms size j) (i * 16))) s → u ≡ each n (λ j x. cipher_on p.key x) t
      → u ≡ each n (λ j x. tag_by p (message_of ms size j)) (replicate 32 0)
  unfolding tag_by before
  all_tagged h i s t u e es et eu =
      one_more (λ j. chained_by p.key (message_of ms size j) i) (λ j. last_block_by p (message_of ms size j) (i * 16)) s t u es et eu
      ∙ alike 0 n (λ j x. cipher_on p.key (added (chained_by p.key (message_of ms size j) i) (last_block_by p (message_of ms size j) (i * 16))))
      (λ j x. tag_by p (message_of ms size j)) (replicate 32 0)
      (λ j hj x.
      let m = message_of ms size (0 + j) in
      let l : length m ≡ size = length_of ms size n h (0 + j) (omega arith) in
      let b : i ≡ (length m - 1) / 16 = e ∙ ap (λ (k : ℕ). (k - 1) / 16) (sym l) in
      ap (λ (k : ℕ). cipher_on p.key (added (chained_by p.key m k) (last_block_by p m (k * 16)))) b)

-- a message by itself
pub alone : (p : Prepared) (m : List ℕ) → tags_by p m 1 ≡ each 1 (λ j x. tag_by p m) (replicate 32 0)
unfolding tags_by
alone p m =
    let e : message_of m (length m / 1) 0 ≡ m =
    ap₂ (λ (k i : ℕ). take k (drop i m)) (div-one (length m)) (zero-mul (length m / 1)) ∙ take-length m
    in
    alike 0 1 (λ j x. tag_by p (message_of m (length m / 1) j)) (λ j x. tag_by p m) (replicate 32 0)
    (λ j hj x. let z : 0 + j ≡ 0 = omega arith in ap (λ (k : ℕ). tag_by p (message_of m (length m / 1) k)) z ∙ ap (tag_by p) e)
