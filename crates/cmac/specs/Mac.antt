-- AES-CMAC: RFC 4493, which is NIST SP 800-38B with AES-128.
-- Assumes nothing.
use Rattle.std.specs.Prelude.{ℕ, zero, suc, ◌+◌, ◌-◌, ◌*◌, ◌/◌, ◌%◌, cond, List, length, take, replicate, ltb, eqb}
use Rattle.std.specs.Int.Bits.{bit_xor}
use Rattle.aes.specs.Cipher.{at, block, add_round_key, aes128}

-- 2.3: the constant that is added where a 1 falls out of the shift
abbrev pub rb : ℕ
rb = 0x87

-- octet i of 128 bits that are shifted left by one
abbrev pub shifted_at_lem : List ℕ → ℕ → ℕ
shifted_at_lem l i = at l i % 128 * 2 + at l (i + 1) / 128

abbrev pub last_shifted_lem : List ℕ → ℕ
last_shifted_lem l = cond (ltb (at l 0) 128) (at l 15 % 128 * 2) (bit_xor (at l 15 % 128 * 2) rb)

abbrev pub doubled : List ℕ → List ℕ
doubled l = block (λ i. cond (ltb i 15) (shifted_at_lem l i) (last_shifted_lem l))

-- K1, for a last block that is whole, and K2, for one that is padded
unfoldable pub subkey1 : List ℕ → List ℕ
subkey1 key = doubled (aes128 key (replicate 16 0))

unfoldable pub subkey2 : List ℕ → List ℕ
subkey2 key = doubled (subkey1 key)

-- 2.4: octet j of the message, then 0x80, then zeros
unfoldable pub padded_at : List ℕ → ℕ → ℕ
padded_at m j = cond (ltb j (length m)) (at m j) (cond (eqb j (length m)) 0x80 0)

-- the block of the padded message that starts at octet j
unfoldable pub block_at : List ℕ → ℕ → List ℕ
block_at m j = block (λ i. padded_at m (j + i))

-- the number of blocks before the last
unfoldable pub before : List ℕ → ℕ
before m = (length m - 1) / 16

-- X after the first i blocks
unfoldable pub chained : List ℕ → List ℕ → ℕ → List ℕ
chained key m zero = replicate 16 0
chained key m (suc i) = aes128 key (add_round_key (chained key m i) (block_at m (i * 16)))

-- M_last, which starts at octet j: the message ends with it, or it is padded
unfoldable pub last_block : List ℕ → List ℕ → ℕ → List ℕ
last_block key m j = add_round_key (block_at m j) (cond (eqb (length m) (j + 16)) (subkey1 key) (subkey2 key))

unfoldable pub cmac : List ℕ → List ℕ → List ℕ
cmac key m = aes128 key (add_round_key (chained key m (before m)) (last_block key m (before m * 16)))

-- the first 64 bits
abbrev pub cmac64 : List ℕ → List ℕ → List ℕ
cmac64 key m = take 8 (cmac key m)
