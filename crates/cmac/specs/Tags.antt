-- AES-CMAC on words under a prepared key, for every prepared key, and of several messages at once. For a key as `prepared_by` makes
-- it, it is AES-CMAC under that key: `mac_prepared` of proofs/Macs.
-- Assumes nothing.
use Rattle.std.specs.Prelude.{ℕ, zero, suc, ◌+◌, ◌*◌, ◌/◌, ◌%◌, cond, ◌≡◌, List, length, take, drop, replicate, eqb}
use Rattle.std.specs.Int.Bits.{bit_xor}
use Rattle.aes.specs.Words.{joined, octets_of, words_of, added, no_words, Octets}
use Rattle.aes.specs.OnWords.{cipher_on}
use Rattle.aes.specs.Blocks.{each}
use Rattle.aes.specs.declared.Words.{Words}
use Rattle.cmac.specs.Mac.{rb, padded_at, block_at, before}
use Rattle.cmac.specs.declared.Prepared.{Prepared}

-- 2.3 on words
abbrev pub shifted_word : ℕ → ℕ → ℕ
shifted_word x next = x % 2147483648 * 2 + next / 2147483648 % 2

abbrev pub last_word : ℕ → ℕ → ℕ
last_word x first = cond (eqb (first / 2147483648 % 2) 0) (x % 2147483648 * 2) (bit_xor (x % 2147483648 * 2) rb)

unfoldable pub doubled_words : Words → Words
doubled_words w =
    record {
      a = shifted_word w.a w.b;
      b = shifted_word w.b w.c;
      c = shifted_word w.c w.d;
      d = last_word w.d w.a;
    }

-- the key, K1 and K2
unfoldable pub prepared_by : Words → Prepared
prepared_by k =
    let k1 = doubled_words (cipher_on k no_words) in
    record { key = k; whole = k1; padded = doubled_words k1 }

-- a key, prepared; its octets are octets
pub record Ready (key : List ℕ) (p : Prepared) : Type 0 where
  pub made : p ≡ prepared_by (words_of key)
  pub octets : Octets key

-- four octets of the padded message from octet j on
unfoldable pub word_at : List ℕ → ℕ → ℕ
word_at m j = joined (padded_at m j) (padded_at m (j + 1)) (padded_at m (j + 2)) (padded_at m (j + 3))

unfoldable pub chained_by : Words → List ℕ → ℕ → Words
chained_by k m zero = no_words
chained_by k m (suc i) = cipher_on k (added (chained_by k m i) (words_of (block_at m (i * 16))))

unfoldable pub last_block_by : Prepared → List ℕ → ℕ → Words
last_block_by p m j = added (words_of (block_at m j)) (cond (eqb (length m) (j + 16)) p.whole p.padded)

unfoldable pub tag_by : Prepared → List ℕ → Words
tag_by p m = cipher_on p.key (added (chained_by p.key m (before m)) (last_block_by p m (before m * 16)))

abbrev pub mac_by : Prepared → List ℕ → List ℕ
mac_by p m = octets_of (tag_by p m)

abbrev pub mac64_by : Prepared → List ℕ → List ℕ
mac64_by p m = take 8 (mac_by p m)

-- ---- n messages of one length, one behind the other

abbrev pub message_of : List ℕ → ℕ → ℕ → List ℕ
message_of ms size j = take size (drop (j * size) ms)

-- their tags, as blocks of an array of 32 words that is 0 where there is none
unfoldable pub tags_by : Prepared → List ℕ → ℕ → List ℕ
tags_by p ms n = each n (λ j x. tag_by p (message_of ms (length ms / n) j)) (replicate 32 0)
