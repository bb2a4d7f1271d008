-- The rule of the table of octets, by one test that antt computes: in each row the upper half is the lower one plus the
-- syndrome of one bit, and so on down.
-- Assumes nothing.
use mathlib.Core.Path.{◌≡◌, sym, ap, ap₂, ◌∙◌, subst}
use mathlib.Core.Bool.{Bool, true, false, ◌&&◌}
use mathlib.Core.List.{List, [], ◌∷◌}
use Prim.Native.Nat.{ℕ, zero, suc, ◌+◌, ◌-◌, ◌*◌, ◌/◌, ◌%◌, ◌^◌, ◌≤◌, ◌<◌}
use native.Mathlib.Nat.{zero-mul, one-mul, add-mul, add-zero, zero-add, pow-suc, le_of_suc-le-suc, not-suc-le-zero}
use native.Mathlib.Decide.{dec_lt}
use native.Mathlib.Omega.{arith}
use lib.Arith.{lt-one}
use lib.Pow.{pow_pos, pow-add}
use lib.Bits.{bit_xor, xor_shifted}
use lib.Count.{ones, ones_cat, ones-ones}
use lib.Dec.{T, eqb, eqb→eq}
use lib.ListN.{length, get_or, take, drop}
use lib.Seq.{get_or-take, get_or-drop}
use Rattle.bch.specs.Code.{remainder}
use Rattle.bch.specs.Tables.{syndrome}
use Rattle.syndromes.specs.Octets.{octets}
use Rattle.bch.proofs.Both.{left, right}
use Rattle.bch.proofs.RemainderRule.{remainders, rule as remainder-rule}
use Rattle.bch.proofs.Powers.{mul_lt, octet_power}
use Rattle.bch.proofs.Patterns.{rem_one}
use Rattle.bch.proofs.Linear.{rem_zero}
use Rattle.bch.proofs.Syndrome.{syndrome_xor, syndrome-zero}

-- the syndrome of bit k of a word
bit_syndrome : ℕ → ℕ
bit_syndrome zero = 4096
bit_syndrome (suc k) = 4096 + get_or remainders k 0

bit-syndrome : (k : ℕ) → k < 64 → syndrome (2 ^ k) ≡ bit_syndrome k
unfolding bit_syndrome
bit-syndrome zero h = ap₂ (λ (x y : ℕ). x % 2 * 4096 + y) (ones-ones 1) (rem-none)
  where
    rem-none : remainder (2 ^ 0 / 2) ≡ 0
    rem-none = rem_zero 63 1
bit-syndrome (suc k) h =
    let half : 2 ^ suc k / 2 ≡ 1 * 2 ^ k = omega (arith, pow-suc 2 k) in
    ap₂ (λ (x y : ℕ). x % 2 * 4096 + remainder y) one half ∙ ap (λ (x : ℕ). 4096 + x) (rem_one k (omega arith) ∙ sym (remainder-rule k (omega arith)))
  where
    one : ones (2 ^ suc k) ≡ 1
    one =
        ap ones (sym (add-zero (2 ^ suc k)) ∙ ap (λ (x : ℕ). x + 0) (sym (one-mul (2 ^ suc k)))) ∙ ones_cat (suc k) 1 0 (pow_pos (suc k))
        ∙ ap₂ ◌+◌ (ones-ones 1) (ones-ones 0)

-- each entry of the second list is that of the first, plus c
shifted : ℕ → List ℕ → List ℕ → Bool
shifted c [] ys = true
shifted c (x ∷ xs) [] = false
shifted c (x ∷ xs) (y ∷ ys) = eqb y (bit_xor c x) && shifted c xs ys

shifted_at : (c : ℕ) (xs ys : List ℕ) → T (shifted c xs ys) → (i : ℕ) → i < length xs → get_or ys i 0 ≡ bit_xor c (get_or xs i 0)
unfolding shifted
shifted_at c [] ys t i h = absurd (not-suc-le-zero h)
shifted_at c (x ∷ xs) [] t i h = absurd t
shifted_at c (x ∷ xs) (y ∷ ys) t zero h = eqb→eq y (bit_xor c x) (left (eqb y (bit_xor c x)) (shifted c xs ys) t)
shifted_at c (x ∷ xs) (y ∷ ys) t (suc i) h = shifted_at c xs ys (right (eqb y (bit_xor c x)) (shifted c xs ys) t) i (le_of_suc-le-suc h)

-- the first 2^n entries are the syndromes of the values of n bits, the lowest of which is bit k
spread : ℕ → ℕ → List ℕ → Bool
unfolding shifted bit_syndrome
spread zero k xs = eqb (get_or xs 0 0) 0
spread (suc n) k xs = spread n k xs && (eqb (length (take (2 ^ n) xs)) (2 ^ n) && shifted (bit_syndrome (n + k)) (take (2 ^ n) xs) (drop (2 ^ n) xs))

spread_at : (n k : ℕ) (xs : List ℕ) → n + k ≤ 64 → T (spread n k xs) → (v : ℕ) → v < 2 ^ n → get_or xs v 0 ≡ syndrome (v * 2 ^ k)
unfolding spread
spread_at zero k xs w t v h =
    let z : v ≡ 0 = lt-one h in
    rw (z, zero-mul (2 ^ k)) (eqb→eq (get_or xs 0 0) 0 t ∙ sym syndrome-zero)
spread_at (suc n) k xs w t v h = go (dec_lt v (2 ^ n)) (spread_at n k xs (omega arith) lower)
  where
    c : ℕ
    c = bit_syndrome (n + k)

    upperTest : Bool
    upperTest = shifted c (take (2 ^ n) xs) (drop (2 ^ n) xs)

    lengthTest : Bool
    lengthTest = eqb (length (take (2 ^ n) xs)) (2 ^ n)

    lower : T (spread n k xs)
    lower = left (spread n k xs) (lengthTest && upperTest) t

    rest : T (lengthTest && upperTest)
    rest = right (spread n k xs) (lengthTest && upperTest) t

    full : length (take (2 ^ n) xs) ≡ 2 ^ n
    full = eqb→eq (length (take (2 ^ n) xs)) (2 ^ n) (left lengthTest upperTest rest)

    go : Dec (v < 2 ^ n) → ((u : ℕ) → u < 2 ^ n → get_or xs u 0 ≡ syndrome (u * 2 ^ k)) → get_or xs v 0 ≡ syndrome (v * 2 ^ k)
    go (yes l) low = low v l
    go (no l) low =
        let u : ℕ = v - 2 ^ n in
        let e : v ≡ 2 ^ n + u = omega arith in
        let small : u < 2 ^ n = omega (arith, pow-suc 2 n) in
        let below : u * 2 ^ k < 2 ^ (n + k) = subst (λ (x : ℕ). u * 2 ^ k < x) (sym (pow-add 2 n k)) (mul_lt u (2 ^ n) (2 ^ k) small (pow_pos k)) in
        let sum : v * 2 ^ k ≡ bit_xor (1 * 2 ^ (n + k)) (u * 2 ^ k) =
        ap (λ (x : ℕ). x * 2 ^ k) e ∙ add-mul (2 ^ n) u (2 ^ k) ∙ ap (λ (x : ℕ). x + u * 2 ^ k) (sym (pow-add 2 n k) ∙ sym (one-mul (2 ^ (n + k)))) ∙ sym (xor_shifted 1 (n + k) (u * 2 ^ k) below) in
        ap (λ (x : ℕ). get_or xs x 0) e ∙ sym (get_or-drop (2 ^ n) xs u 0)
        ∙ shifted_at c (take (2 ^ n) xs) (drop (2 ^ n) xs) (right lengthTest upperTest rest) u (rw full small)
        ∙ ap (bit_xor c) (get_or-take (2 ^ n) xs u 0 small ∙ low u small)
        ∙ ap (λ (x : ℕ). bit_xor x (syndrome (u * 2 ^ k))) (sym (bit-syndrome (n + k) (omega arith)) ∙ ap syndrome (sym (one-mul (2 ^ (n + k)))))
        ∙ sym (syndrome_xor (1 * 2 ^ (n + k)) (u * 2 ^ k)) ∙ ap syndrome (sym sum)

-- in row o and those behind it stand the syndromes of the values of an octet, from octet o on
rows : ℕ → List (List ℕ) → Bool
unfolding spread
rows o [] = true
rows o (xs ∷ xss) = spread 8 (o * 8) xs && rows (suc o) xss

rows_at : (o : ℕ) (xss : List (List ℕ)) → o + length xss ≤ 8 → T (rows o xss) → (k v : ℕ) → k < length xss → v < 256
    → get_or (get_or xss k []) v 0 ≡ syndrome (v * 256 ^ (o + k))
unfolding rows
rows_at o [] w t k v hk hv = absurd (not-suc-le-zero hk)
rows_at o (xs ∷ xss) w t zero v hk hv =
    spread_at 8 (o * 8) xs (omega arith) (left (spread 8 (o * 8) xs) (rows (suc o) xss) t) v hv
    ∙ ap (λ (x : ℕ). syndrome (v * x)) (octet_power o ∙ ap (λ (x : ℕ). 256 ^ x) (sym (add-zero o)))
rows_at o (xs ∷ xss) w t (suc k) v hk hv =
    rows_at (suc o) xss (omega arith) (right (spread 8 (o * 8) xs) (rows (suc o) xss) t) k v (le_of_suc-le-suc hk) hv
    ∙ ap (λ (x : ℕ). syndrome (v * 256 ^ x)) (omega arith)

passed : T (rows 0 octets)
unfolding rows
passed = tt

pub octet_rule : (k v : ℕ) → k < 8 → v < 256 → get_or (get_or octets k []) v 0 ≡ syndrome (v * 256 ^ k)
octet_rule k v hk hv = rows_at 0 octets (omega arith) passed k v hk hv ∙ ap (λ (x : ℕ). syndrome (v * 256 ^ x)) (zero-add k)
