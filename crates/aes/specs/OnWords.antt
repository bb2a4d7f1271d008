-- The steps of specs/Cipher on words, a column at a time. That they are the same is `on_words` of proofs/Ciphers.
-- Assumes nothing.
use Rattle.std.specs.Prelude.{ℕ, zero, suc, ◌*◌}
use Rattle.std.specs.Int.Bits.{bit_xor}
use Rattle.subbytes.specs.Field.{s_box}
use Rattle.mixcolumns.specs.Columns.{joined, turned, mix_of}
use Rattle.aes.specs.Cipher.{rcon}
use Rattle.aes.specs.Words.{octet0, octet1, octet2, octet3, added}
use Rattle.aes.specs.declared.Words.{Words}

-- what an octet of each row gives, and a word of the round key
unfoldable pub column_on : ℕ → ℕ → ℕ → ℕ → ℕ → ℕ
column_on a b c d k =
    bit_xor
    (bit_xor (bit_xor (bit_xor (mix_of (octet0 a)) (turned (mix_of (octet1 b)))) (turned (turned (mix_of (octet2 c)))))
    (turned (turned (turned (mix_of (octet3 d))))))
    k

unfoldable pub round_on : Words → Words → Words
round_on s k =
    record {
      a = column_on s.a s.b s.c s.d k.a;
      b = column_on s.b s.c s.d s.a k.b;
      c = column_on s.c s.d s.a s.b k.c;
      d = column_on s.d s.a s.b s.c k.d;
    }

unfoldable pub last_column_on : ℕ → ℕ → ℕ → ℕ → ℕ
last_column_on a b c d = joined (s_box (octet0 a)) (s_box (octet1 b)) (s_box (octet2 c)) (s_box (octet3 d))

unfoldable pub last_on : Words → Words → Words
last_on s k =
    added
    (record {
      a = last_column_on s.a s.b s.c s.d;
      b = last_column_on s.b s.c s.d s.a;
      c = last_column_on s.c s.d s.a s.b;
      d = last_column_on s.d s.a s.b s.c;
    })
    k

-- 5.2: SubWord of RotWord
unfoldable pub turned_word_on : ℕ → ℕ
turned_word_on d = joined (s_box (octet1 d)) (s_box (octet2 d)) (s_box (octet3 d)) (s_box (octet0 d))

unfoldable pub next_key_on : Words → ℕ → Words
next_key_on k rc =
    let a = bit_xor k.a (bit_xor (turned_word_on k.d) (rc * 16777216)) in
    let b = bit_xor k.b a in
    let c = bit_xor k.c b in
    record { a = a; b = b; c = c; d = bit_xor k.d c }

unfoldable pub round_key_on : ℕ → Words → Words
round_key_on zero key = key
round_key_on (suc i) key = next_key_on (round_key_on i key) (rcon i)

-- 5.1
unfoldable pub rounds_on : ℕ → Words → Words → Words
rounds_on zero key s = s
rounds_on (suc i) key s = round_on (rounds_on i key s) (round_key_on (suc i) key)

unfoldable pub cipher_on : Words → Words → Words
cipher_on key s = last_on (rounds_on 9 key (added s key)) (round_key_on 10 key)
