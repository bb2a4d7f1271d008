-- Numbers in decimal.
-- Assumes nothing.
use mathlib.Core.Path.{◌≡◌, refl, sym, ap, ◌∙◌}
use mathlib.Core.Bool.{Bool, true, false}
use mathlib.Core.List.{List, [], ◌∷◌, ◌++◌, append_assoc}
use Prim.Native.Nat.{ℕ, zero, suc, ◌+◌, ◌*◌, ◌-◌, ◌/◌, ◌%◌, ◌^◌, ◌≤◌, ◌<◌}
use native.Mathlib.Omega.{arith}
use native.Mathlib.Nat.{pow-suc, div-lt_iff_lt-mul}
use lib.Dec.{ltb}
use lib.ListN.{length, get_or, length-append}
use lib.ListN.{get_or-append}
use borrow.Author.Tests.{lt-ltb, le-ltb, ltb-true, ltb-false}
use Rattle.text.specs.Decimals.{spelled, decimal, last_two, field, value_of, read_from}

-- ---- a digit more

spelled-small : (f n : ℕ) → n < 10 → spelled (suc f) n ≡ (48 + n) ∷ []
unfolding spelled
spelled-small f n h = rw (lt-ltb n 10 h)

spelled_large : (f n : ℕ) → 10 ≤ n → spelled (suc f) n ≡ spelled f (n / 10) ++ ((48 + n % 10) ∷ [])
unfolding spelled
spelled_large f n h = rw (le-ltb n 10 h)

-- enough room is enough
spelled_same : (f g n : ℕ) → n < f → n < g → spelled f n ≡ spelled g n
spelled_same zero g n h k = absurd (omega arith)
spelled_same (suc f) zero n h k = absurd (omega arith)
spelled_same (suc f) (suc g) n h k = go (ltb n 10) refl (spelled_same f g (n / 10))
  where
    go : (b : Bool) → ltb n 10 ≡ b → (n / 10 < f → n / 10 < g → spelled f (n / 10) ≡ spelled g (n / 10)) → spelled (suc f) n ≡ spelled (suc g) n
    go true e ih = spelled-small f n (ltb-true n 10 e) ∙ sym (spelled-small g n (ltb-true n 10 e))
    go false e ih =
        let l : 10 ≤ n = ltb-false n 10 e in
        spelled_large f n l ∙ ap (λ d. d ++ ((48 + n % 10) ∷ [])) (ih (omega arith) (omega arith)) ∙ sym (spelled_large g n l)

-- a number below ten is its digit
pub decimal-small : (n : ℕ) → n < 10 → decimal n ≡ (48 + n) ∷ []
unfolding decimal
decimal-small n h = spelled-small n n h

-- any other is its tens and its last digit
pub decimal_large : (n : ℕ) → 10 ≤ n → decimal n ≡ decimal (n / 10) ++ ((48 + n % 10) ∷ [])
unfolding decimal
decimal_large n h =
    spelled_large n n h ∙ ap (λ d. d ++ ((48 + n % 10) ∷ [])) (spelled_same n (suc (n / 10)) (n / 10) (omega arith) (omega arith))

-- two digits
pub decimal-two : (n : ℕ) → 10 ≤ n → n < 100 → decimal n ≡ last_two n
decimal-two n h k =
    let q : n / 10 ≡ n / 10 % 10 = omega arith in
    decimal_large n h
    ∙ ap (λ d. d ++ ((48 + n % 10) ∷ [])) (decimal-small (n / 10) (omega arith))
    ∙ ap (λ d. (48 + d) ∷ (48 + n % 10) ∷ []) q

-- any longer number is its hundreds and its last two digits
pub decimal_more : (n : ℕ) → 100 ≤ n → decimal n ≡ decimal (n / 100) ++ last_two n
decimal_more n h =
    let q : n / 10 / 10 ≡ n / 100 = omega arith in
    decimal_large n (omega arith)
    ∙ ap (λ d. d ++ ((48 + n % 10) ∷ [])) (decimal_large (n / 10) (omega arith) ∙ ap (λ m. decimal m ++ ((48 + n / 10 % 10) ∷ [])) q)
    ∙ append_assoc (decimal (n / 100)) ((48 + n / 10 % 10) ∷ []) ((48 + n % 10) ∷ [])

-- ---- how many digits

length-small : (n : ℕ) → n < 10 → length (decimal n) ≡ 1
length-small n h = ap length (decimal-small n h)

length_large : (n : ℕ) → 10 ≤ n → length (decimal n) ≡ length (decimal (n / 10)) + 1
length_large n h = ap length (decimal_large n h) ∙ length-append (decimal (n / 10)) ((48 + n % 10) ∷ [])

-- as many digits as a power of ten has zeros hold every number below it
pub digits_within : (k n : ℕ) → n < 10 ^ suc k → length (decimal n) ≤ suc k
digits_within zero n h = omega (arith, length-small n h)
digits_within (suc k) n h = go (ltb n 10) refl (digits_within k (n / 10))
  where
    go : (b : Bool) → ltb n 10 ≡ b → (n / 10 < 10 ^ suc k → length (decimal (n / 10)) ≤ suc k) → length (decimal n) ≤ suc (suc k)
    go true e ih = omega (arith, length-small n (ltb-true n 10 e))
    go false e ih =
        let l : n / 10 < 10 ^ suc k = (div-lt_iff_lt-mul {k = 10} {x = n} {y = 10 ^ suc k} (omega arith)).1 (rw pow-suc at h) in
        omega (arith, length_large n (ltb-false n 10 e), ih l)

-- twenty hold every number of 64 bits
pub twenty_digits : (n : ℕ) → n < 2 ^ 64 → length (decimal n) ≤ 20
twenty_digits n h = digits_within 19 n (omega arith)

-- ---- read back

read_last : (b : ℕ) (l : List ℕ) (d : ℕ) → read_from b (l ++ (d ∷ [])) ≡ read_from b l * 10 + (d - 48)
read_last b [] d = refl
read_last b (x ∷ l) d = read_last (b * 10 + (x - 48)) l d

value-within : (f n : ℕ) → n < f → value_of (decimal n) ≡ n
value-within zero n h = absurd (omega arith)
value-within (suc f) n h = go (ltb n 10) refl (value-within f (n / 10))
  where
    go : (b : Bool) → ltb n 10 ≡ b → (n / 10 < f → value_of (decimal (n / 10)) ≡ n / 10) → value_of (decimal n) ≡ n
    go true e ih = ap value_of (decimal-small n (ltb-true n 10 e)) ∙ omega arith
    go false e ih =
        let l : 10 ≤ n = ltb-false n 10 e in
        ap value_of (decimal_large n l)
        ∙ read_last 0 (decimal (n / 10)) (48 + n % 10)
        ∙ ap (λ v. v * 10 + (48 + n % 10 - 48)) (ih (omega arith))
        ∙ omega arith

-- the digits spell the number
pub decimal-value : (n : ℕ) → value_of (decimal n) ≡ n
decimal-value n = value-within (suc n) n (omega arith)

-- so two numbers never print alike
pub decimal_once : (m n : ℕ) → decimal m ≡ decimal n → m ≡ n
decimal_once m n e = sym (decimal-value m) ∙ ap value_of e ∙ decimal-value n

some_digit : (f n : ℕ) → n < f → 0 < length (decimal n)
some_digit f n h = go (ltb n 10) refl
  where
    go : (b : Bool) → ltb n 10 ≡ b → 0 < length (decimal n)
    go true e = omega (arith, length-small n (ltb-true n 10 e))
    go false e = omega (arith, length_large n (ltb-false n 10 e))

first-within : (f n : ℕ) → n < f → 0 < n → 48 < get_or (decimal n) 0 0
first-within zero n h p = absurd (omega arith)
first-within (suc f) n h p = go (ltb n 10) refl (first-within f (n / 10))
  where
    go : (b : Bool) → ltb n 10 ≡ b → (n / 10 < f → 0 < n / 10 → 48 < get_or (decimal (n / 10)) 0 0) → 48 < get_or (decimal n) 0 0
    go true e ih = rw (decimal-small n (ltb-true n 10 e)) (omega arith)
    go false e ih =
        let l : 10 ≤ n = ltb-false n 10 e in
        let s : 0 < length (decimal (n / 10)) = some_digit (suc (n / 10)) (n / 10) (omega arith) in
        rw (decimal_large n l, get_or-append (decimal (n / 10)) ((48 + n % 10) ∷ []) 0 0 s) (ih (omega arith) (omega arith))

-- no number but 0 begins with a zero
pub no_leading_zero : (n : ℕ) → 0 < n → 48 < get_or (decimal n) 0 0
no_leading_zero n p = first-within (suc n) n (omega arith) p

-- ---- a number and what ends it

pub length-field : (n end : ℕ) → length (field n end) ≡ length (decimal n) + 1
unfolding field
length-field n end = length-append (decimal n) (end ∷ [])

pub field-within : (n end : ℕ) → n < 2 ^ 64 → length (field n end) ≤ 21
field-within n end h = omega (arith, length-field n end, twenty_digits n h)
