-- AES-128, FIPS 197 section 5. A block, a state and a round key are lists of sixteen bytes; byte r + 4 c is row r of column c.
-- Assumes nothing.
use Rattle.std.specs.Prelude.{ℕ, zero, suc, ◌+◌, ◌*◌, ◌/◌, ◌%◌, List, [], ◌∷◌, ◌++◌, get_or}
use Rattle.std.specs.Int.Bits.{bit_xor}
use Rattle.subbytes.specs.Field.{xtime, s_box}

abbrev pub at : List ℕ → ℕ → ℕ
at s i = get_or s i 0

-- f 0, f 1, .., f (n - 1)
abbrev pub tabulate : {A : Type 0} → ℕ → (ℕ → A) → List A
tabulate zero f = []
tabulate (suc n) f = f 0 ∷ tabulate n (λ i. f (suc i))

abbrev pub block : (ℕ → ℕ) → List ℕ
block f = tabulate 16 f

-- 5.1.1
abbrev pub sub_bytes : List ℕ → List ℕ
sub_bytes s = block (λ i. s_box (at s i))

-- 5.1.2: row r, column c is taken from row r, column c + r
abbrev pub shift_rows : List ℕ → List ℕ
shift_rows s = block (λ i. at s (i % 4 + 4 * ((i / 4 + i % 4) % 4)))

-- 2 a + 3 b + c + d
abbrev pub mixed : ℕ → ℕ → ℕ → ℕ → ℕ
mixed a b c d = bit_xor (bit_xor (bit_xor (xtime a) (bit_xor (xtime b) b)) c) d

-- 5.1.3: row r of a column is mixed of its rows r, r + 1, r + 2, r + 3
abbrev pub mix_columns : List ℕ → List ℕ
mix_columns s =
    block (λ i. mixed (at s i) (at s (i / 4 * 4 + (i + 1) % 4)) (at s (i / 4 * 4 + (i + 2) % 4)) (at s (i / 4 * 4 + (i + 3) % 4)))

-- 5.1.4
abbrev pub add_round_key : List ℕ → List ℕ → List ℕ
add_round_key s k = block (λ i. bit_xor (at s i) (at k i))

-- 5.2: the first word of the next round key is made with the last word, turned and substituted, and the round constant
abbrev pub first_word : List ℕ → ℕ → ℕ → ℕ
first_word k rc zero = bit_xor (at k 0) (bit_xor (s_box (at k 13)) rc)
first_word k rc (suc i) = bit_xor (at k (suc i)) (s_box (at k (12 + (i + 2) % 4)))

-- each other word with the one before it
abbrev pub second_word : List ℕ → ℕ → ℕ → ℕ
second_word k rc i = bit_xor (at k (4 + i)) (first_word k rc i)

abbrev pub third_word : List ℕ → ℕ → ℕ → ℕ
third_word k rc i = bit_xor (at k (8 + i)) (second_word k rc i)

abbrev pub fourth_word : List ℕ → ℕ → ℕ → ℕ
fourth_word k rc i = bit_xor (at k (12 + i)) (third_word k rc i)

abbrev pub word : (ℕ → ℕ) → List ℕ
word f = tabulate 4 f

abbrev pub next_key_lem : List ℕ → ℕ → List ℕ
next_key_lem k rc = word (first_word k rc) ++ word (second_word k rc) ++ word (third_word k rc) ++ word (fourth_word k rc)

-- the round constant of round i + 1
unfoldable pub rcon : ℕ → ℕ
rcon zero = 1
rcon (suc i) = xtime (rcon i)

unfoldable pub round_key : ℕ → List ℕ → List ℕ
round_key zero key = key
round_key (suc i) key = next_key_lem (round_key i key) (rcon i)

-- 5.1: a round, the last round, and the state after i rounds
unfoldable pub round_of : List ℕ → List ℕ → List ℕ
round_of s k = add_round_key (mix_columns (shift_rows (sub_bytes s))) k

unfoldable pub last_of : List ℕ → List ℕ → List ℕ
last_of s k = add_round_key (shift_rows (sub_bytes s)) k

-- from the state s
unfoldable pub rounds : ℕ → List ℕ → List ℕ → List ℕ
rounds zero key s = s
rounds (suc i) key s = round_of (rounds i key s) (round_key (suc i) key)

unfoldable pub aes128 : List ℕ → List ℕ → List ℕ
aes128 key input = last_of (rounds 9 key (add_round_key input key)) (round_key 10 key)
