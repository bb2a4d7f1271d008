-- The CMAC on words under a prepared key is AES-CMAC under that key.
-- Assumes nothing.
use mathlib.Core.Path.{◌≡◌, ◌∙◌, refl, ap, ap₂}
use mathlib.Core.Bool.{Bool, true, false, cond}
use mathlib.Core.List.{List}
use mathlib.Core.Logic.{⊎_elim}
use Prim.Native.Nat.{ℕ, zero, suc, ◌+◌, ◌*◌, ◌/◌, ◌%◌, ◌<◌, ◌≤◌}
use native.Mathlib.Nat.{eq-zero-or-pos}
use native.Mathlib.Omega.{arith}
use lib.Bits.{bit_xor, xor_zero_r}
use lib.Dec.{ltb, eqb}
use lib.ListN.{length, take}
use borrow.Author.Tests.{lt-ltb, le-ltb, eq-eqb, ne_eqb}
use Rattle.aes.specs.Cipher.{at, add_round_key, aes128}
use Rattle.aes.specs.Words.{octet0, octet1, octet2, octet3, octets_of, words_of, added, no_words, Octets, Four}
use Rattle.aes.specs.OnWords.{cipher_on}
use Rattle.aes.specs.declared.Words.{Words}
use Rattle.aes.proofs.Octets.{xor0, xor1, xor2, xor3, sixteen, added-octets, octets_words, octets-tabulate}
use Rattle.aes.proofs.Ciphers.{on_words}
use Rattle.cmac.specs.Mac.{rb, doubled, subkey1, subkey2, padded_at, block_at, before, chained, last_block, cmac, cmac64}
use Rattle.cmac.specs.Tags.{shifted_word, last_word, doubled_words, prepared_by, chained_by, last_block_by, tag_by, mac_by, mac64_by}

-- 2.3 on words and on octets
shifted_octets : (x y : ℕ)
    → Four (shifted_word x y) (octet0 x % 128 * 2 + octet1 x / 128) (octet1 x % 128 * 2 + octet2 x / 128)
    (octet2 x % 128 * 2 + octet3 x / 128) (octet3 x % 128 * 2 + octet0 y / 128)
shifted_octets x y =
    record { at0 = omega arith; at1 = omega arith; at2 = omega arith; at3 = omega arith }

last_octets : (x first : ℕ)
    → Four (last_word x first) (octet0 x % 128 * 2 + octet1 x / 128) (octet1 x % 128 * 2 + octet2 x / 128)
    (octet2 x % 128 * 2 + octet3 x / 128)
    (cond (ltb (octet0 first) 128) (octet3 x % 128 * 2) (bit_xor (octet3 x % 128 * 2) rb))
last_octets x first =
    ⊎_elim
    (λ e.
    let h : octet0 first < 128 = omega arith in
    simp (lt-ltb (octet0 first) 128 h, eq-eqb (first / 2147483648 % 2) 0 e)
    (record { at0 = omega arith; at1 = omega arith; at2 = omega arith; at3 = omega arith }))
    (λ p.
    let e : first / 2147483648 % 2 ≡ 0 → ⊥ = λ q. omega arith in
    let h : 128 ≤ octet0 first = omega arith in
    let y = x % 2147483648 * 2 in
    let z : octet3 y ≡ octet3 x % 128 * 2 = omega arith in
    simp (le-ltb (octet0 first) 128 h, ne_eqb (first / 2147483648 % 2) 0 e)
    (record {
      at0 = xor0 y rb ∙ xor_zero_r (octet0 y) ∙ omega arith;
      at1 = xor1 y rb ∙ xor_zero_r (octet1 y) ∙ omega arith;
      at2 = xor2 y rb ∙ xor_zero_r (octet2 y) ∙ omega arith;
      at3 = xor3 y rb ∙ ap (λ (o : ℕ). bit_xor o rb) z;
    }))
    (eq-zero-or-pos (first / 2147483648 % 2))

doubled_is : (w : Words) → octets_of (doubled_words w) ≡ doubled (octets_of w)
unfolding doubled_words
doubled_is w =
    sixteen {w = doubled_words w} (shifted_octets w.a w.b) (shifted_octets w.b w.c) (shifted_octets w.c w.d)
    (last_octets w.d w.a)

subkey1_is : (k : Words) → octets_of (prepared_by k).whole ≡ subkey1 (octets_of k)
unfolding prepared_by subkey1
subkey1_is k = doubled_is (cipher_on k no_words) ∙ ap doubled (on_words k no_words)

subkey2_is : (k : Words) → octets_of (prepared_by k).padded ≡ subkey2 (octets_of k)
unfolding prepared_by subkey2
subkey2_is k = doubled_is (doubled_words (cipher_on k no_words)) ∙ ap doubled (subkey1_is k)

padding-octet : (b c : Bool) (x : ℕ) → x < 256 → cond b x (cond c 0x80 0) < 256
padding-octet true c x h = h
padding-octet false true x h = omega arith
padding-octet false false x h = omega arith

padded_octet : (m : List ℕ) → Octets m → (j : ℕ) → padded_at m j < 256
unfolding padded_at
padded_octet m o j = padding-octet (ltb j (length m)) (eqb j (length m)) (at m j) (o j)

-- a block of the padded message goes through words unchanged
block_is : (m : List ℕ) → Octets m → (j : ℕ) → octets_of (words_of (block_at m j)) ≡ block_at m j
unfolding block_at
block_is m o j =
    octets_words (block_at m j) (octets-tabulate 16 (λ i. padded_at m (j + i)) (λ i. padded_octet m o (j + i))) refl

module _ (k : Words) (m : List ℕ) (o : Octets m) where
  enciphered : (x : Words) (y : Words) → octets_of (cipher_on k (added x y)) ≡ aes128 (octets_of k) (add_round_key (octets_of x) (octets_of y))
  enciphered x y = on_words k (added x y) ∙ ap (aes128 (octets_of k)) (added-octets x y)

  chained_is : (i : ℕ) → octets_of (chained_by k m i) ≡ chained (octets_of k) m i
  unfolding chained_by chained
  chained_is zero = refl
  chained_is (suc i) =
      enciphered (chained_by k m i) (words_of (block_at m (i * 16)))
      ∙ ap (aes128 (octets_of k)) (ap₂ add_round_key (chained_is i) (block_is m o (i * 16)))

  picked : (b : Bool)
      → octets_of (cond b (prepared_by k).whole (prepared_by k).padded) ≡ cond b (subkey1 (octets_of k)) (subkey2 (octets_of k))
  picked true = subkey1_is k
  picked false = subkey2_is k

  last_block_is : (j : ℕ) → octets_of (last_block_by (prepared_by k) m j) ≡ last_block (octets_of k) m j
  unfolding last_block_by last_block
  last_block_is j =
      added-octets (words_of (block_at m j)) (cond (eqb (length m) (j + 16)) (prepared_by k).whole (prepared_by k).padded)
      ∙ ap₂ add_round_key (block_is m o j) (picked (eqb (length m) (j + 16)))

  key_is : (prepared_by k).key ≡ k
  unfolding prepared_by
  key_is = refl

  -- under the key whose words are k
  pub tag_is : mac_by (prepared_by k) m ≡ cmac (octets_of k) m
  unfolding tag_by cmac
  tag_is =
      ap (λ (w : Words). octets_of (cipher_on w (added (chained_by w m (before m)) (last_block_by (prepared_by k) m (before m * 16))))) key_is
      ∙ enciphered (chained_by k m (before m)) (last_block_by (prepared_by k) m (before m * 16))
      ∙ ap (aes128 (octets_of k)) (ap₂ add_round_key (chained_is (before m)) (last_block_is (before m * 16)))

-- for every key and every message
pub mac_prepared : (key m : List ℕ) → Octets key → length key ≡ 16 → Octets m → mac_by (prepared_by (words_of key)) m ≡ cmac key m
mac_prepared key m ok h om = tag_is (words_of key) m om ∙ ap (λ (k : List ℕ). cmac k m) (octets_words key ok h)

pub mac64_prepared : (key m : List ℕ) → Octets key → length key ≡ 16 → Octets m
    → mac64_by (prepared_by (words_of key)) m ≡ cmac64 key m
mac64_prepared key m ok h om = ap (take 8) (mac_prepared key m ok h om)
