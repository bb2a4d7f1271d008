-- The field GF(2^8) of FIPS 197, section 4, and the S-box of 5.1.1. A byte is a number below 256.
-- Assumes nothing.
use Rattle.std.specs.Prelude.{ℕ, zero, suc, ◌+◌, ◌-◌, ◌*◌, ◌/◌, ◌%◌, ◌^◌, cond, ltb}
use Rattle.std.specs.Int.Bits.{bit_xor}

-- 4.2.1: a times x, modulo x^8 + x^4 + x^3 + x + 1
unfoldable pub xtime : ℕ → ℕ
xtime a = cond (ltb a 128) (a * 2) (bit_xor (a * 2 - 256) 0x1b)

-- a, where the bit is 1
abbrev pub times : ℕ → ℕ → ℕ
times zero a = 0
times (suc b) a = a

-- the sum of x^i a over the i at which b has a 1, for the n lowest bits of b
unfoldable pub products : ℕ → ℕ → ℕ → ℕ
products zero a b = 0
products (suc n) a b = bit_xor (times (b % 2) a) (products n (xtime a) (b / 2))

-- 4.2: a times b
unfoldable pub gmul : ℕ → ℕ → ℕ
gmul a b = products 8 a b

unfoldable pub square : ℕ → ℕ
square a = gmul a a

-- a^254 as the product of a^2, a^4, .., a^128: 1 / a where a is not 0, and 0 at 0
unfoldable pub inverse : ℕ → ℕ
inverse a =
    let a2 = square a in
    let a4 = square a2 in
    let a8 = square a4 in
    let a16 = square a8 in
    let a32 = square a16 in
    let a64 = square a32 in
    let a128 = square a64 in
    gmul a2 (gmul a4 (gmul a8 (gmul a16 (gmul a32 (gmul a64 a128)))))

-- the bits of a byte turned left by k places
abbrev pub rotated : ℕ → ℕ → ℕ
rotated k a = a * 2 ^ k % 256 + a / 2 ^ (8 - k)

-- 5.1.1: bit i of the result is the sum of bits i, i+4, i+5, i+6 and i+7 (modulo 8) of a and bit i of 0x63
unfoldable pub affine : ℕ → ℕ
affine a = bit_xor (bit_xor (bit_xor (bit_xor (bit_xor a (rotated 1 a)) (rotated 2 a)) (rotated 3 a)) (rotated 4 a)) 0x63

unfoldable pub s_box : ℕ → ℕ
s_box a = affine (inverse a)
