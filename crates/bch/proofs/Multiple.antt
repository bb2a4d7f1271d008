-- A word of 63 bits has the remainder 0 where, and only where, it is a codeword: a multiple of the generator.
-- Assumes nothing.
use mathlib.Core.Path.{◌≡◌, refl, sym, ap, ap₂, ◌∙◌, subst}
use Prim.Native.Nat.{ℕ, zero, suc, ◌+◌, ◌-◌, ◌*◌, ◌/◌, ◌%◌, ◌^◌, ◌<◌}
use native.Mathlib.Nat.{zero-mul, one-mul}
use native.Mathlib.Decide.{dec_lt}
use native.Mathlib.Omega.{arith}
use borrow.Author.Tests.{lt-ltb, le-ltb}
use lib.Arith.{lt-one}
use lib.Dec.{lit<}
use lib.Bits.{bit_xor, differ, xor_zero_r, xor_lt, xor_comm, xor_step, xor_block, xor_mod, xor_shr, xor_shifted}
use Rattle.bch.specs.Code.{generator, times, Codeword, double, remainder_from, remainder}
use Rattle.bch.proofs.Xor.{bit, xor_assoc, xor_four, xor_cancel, bit-times}
use Rattle.bch.proofs.Linear.{rem_zero, rem_xor}
use Rattle.bch.proofs.Range.{double_lt, bit_times_lt, rem_lt}
use Rattle.bch.proofs.Ones.{half_lt}
use Rattle.bch.proofs.Low.{low_remainder}

-- twice a sum is the sum of twice the two
twice_xor : (a b : ℕ) → bit_xor a b * 2 ≡ bit_xor (a * 2) (b * 2)
twice_xor a b =
    let e : bit_xor (a * 2) (b * 2) ≡ bit_xor (a * 2 / 2) (b * 2 / 2) * 2 + differ (a * 2 % 2) (b * 2 % 2) = xor_step (a * 2) (b * 2) in
    let a0 : a * 2 % 2 ≡ 0 = omega arith in
    let b0 : b * 2 % 2 ≡ 0 = omega arith in
    let a1 : a * 2 / 2 ≡ a = omega arith in
    let b1 : b * 2 / 2 ≡ b = omega arith in
    sym (rw (a0, b0, a1, b1) at e ∙ omega arith)

-- doubling with no test: the bit that goes out of the twelve brings the generator's other terms in
double_is : (p : ℕ) → p < 4096 → double p ≡ bit_xor (p * 2 % 2 ^ 12) (p * 2 / 2 ^ 12 * 0x539)
double_is p h = go (dec_lt (p * 2) 4096)
  where
    go : Dec (p * 2 < 4096) → double p ≡ bit_xor (p * 2 % 2 ^ 12) (p * 2 / 2 ^ 12 * 0x539)
    go (yes l) =
        let m : p * 2 % 2 ^ 12 ≡ p * 2 = omega arith in
        let d : p * 2 / 2 ^ 12 ≡ 0 = omega arith in
        rw (lt-ltb (p * 2) 4096 l, m, d) (sym (xor_zero_r (p * 2)))
    go (no n) =
        let r : ℕ = p * 2 - 4096 in
        let e : p * 2 ≡ 1 * 2 ^ 12 + r = omega arith in
        let m : p * 2 % 2 ^ 12 ≡ r = omega arith in
        let d : p * 2 / 2 ^ 12 ≡ 1 = omega arith in
        rw (le-ltb (p * 2) 4096 (omega arith), m, d)
        (ap (λ (x : ℕ). bit_xor x generator) e ∙ xor_block 12 1 1 r 0x539 (omega arith) (lit< tt) ∙ omega arith)

bits_xor : (x y : ℕ) → x < 2 → y < 2 → bit_xor x y ≡ differ x y
bits_xor zero y hx hy = refl
bits_xor (suc zero) zero hx hy = refl
bits_xor (suc zero) (suc zero) hx hy = refl
bits_xor (suc zero) (suc (suc y)) hx hy = absurd (omega arith)
bits_xor (suc (suc x)) y hx hy = absurd (omega arith)

double_xor : (a b : ℕ) → a < 4096 → b < 4096 → double (bit_xor a b) ≡ bit_xor (double a) (double b)
double_xor a b ha hb =
    double_is (bit_xor a b) (xor_lt 12 a b ha hb)
    ∙ ap (λ (x : ℕ). bit_xor (x % 2 ^ 12) (x / 2 ^ 12 * 0x539)) (twice_xor a b)
    ∙ ap₂ (λ (x y : ℕ). bit_xor x (y * 0x539)) (xor_mod (a * 2) (b * 2) 12)
    (xor_shr (a * 2) (b * 2) 12 ∙ bits_xor (a * 2 / 2 ^ 12) (b * 2 / 2 ^ 12) (omega arith) (omega arith))
    ∙ ap (bit_xor (bit_xor (a * 2 % 2 ^ 12) (b * 2 % 2 ^ 12))) (bit-times (a * 2 / 2 ^ 12) (b * 2 / 2 ^ 12) 0x539 (omega arith) (omega arith))
    ∙ xor_four (a * 2 % 2 ^ 12) (b * 2 % 2 ^ 12) (a * 2 / 2 ^ 12 * 0x539) (b * 2 / 2 ^ 12 * 0x539)
    ∙ sym (ap₂ bit_xor (double_is a ha) (double_is b hb))

bit-double : (b p : ℕ) → b < 2 → double (b * p) ≡ b * double p
bit-double zero p h = rw (zero-mul p, zero-mul (double p))
bit-double (suc zero) p h = rw (one-mul p, one-mul (double p))
bit-double (suc (suc b)) p h = absurd (omega arith)

-- the remainder, from check values that are all doubled
rem_double : (n p w : ℕ) → p < 4096 → remainder_from n (double p) w ≡ double (remainder_from n p w)
unfolding remainder_from
rem_double zero p w h = refl
rem_double (suc n) p w h =
    ap₂ bit_xor (sym (bit-double (w % 2) p (bit w))) (rem_double n (double p) (w / 2) (double_lt p h))
    ∙ sym (double_xor (w % 2 * p) (remainder_from n (double p) (w / 2)) (bit_times_lt (w % 2) p (bit w) h) (rem_lt n (double p) (w / 2) (double_lt p h)))

-- places above a word's bits add nothing
rem_more : (n p w : ℕ) → w < 2 ^ n → remainder_from (suc n) p w ≡ remainder_from n p w
unfolding remainder_from
rem_more zero p w h = rw (lt-one h, zero-mul p)
rem_more (suc n) p w h = ap (bit_xor (w % 2 * p)) (rem_more n (double p) (w / 2) (half_lt n h))

rem_even : (n p m : ℕ) → remainder_from (suc n) p (m * 2) ≡ remainder_from n (double p) m
unfolding remainder_from
rem_even n p m =
    let e : m * 2 % 2 ≡ 0 = omega arith in
    let d : m * 2 / 2 ≡ m = omega arith in
    rw (e, d, zero-mul p)

-- the remainder of a word times x
rem_twice : (m : ℕ) → m < 2 ^ 62 → remainder (m * 2) ≡ double (remainder m)
rem_twice m h = rem_even 62 1 m ∙ rem_double 62 1 m (lit< tt) ∙ ap double (sym (rem_more 62 1 m h))

rem_generator : (b : ℕ) → b < 2 → remainder (b * generator) ≡ 0
unfolding remainder_from
rem_generator zero h = refl
rem_generator (suc zero) h = refl
rem_generator (suc (suc b)) h = absurd (omega arith)

bit_generator_lt : (b : ℕ) → b < 2 → b * generator < 2 ^ 63
bit_generator_lt b h = omega arith

-- a multiple of the generator has the remainder 0
pub multiple_code : (n q : ℕ) → times n q < 2 ^ 63 → remainder (times n q) ≡ 0
unfolding times
multiple_code zero q h = rem_zero 63 1
multiple_code (suc n) q h =
    rem_xor 63 1 (q % 2 * generator) (p * 2) ∙ ap₂ bit_xor (rem_generator (q % 2) (bit q)) (rem_twice p small ∙ ap double (multiple_code n (q / 2) (omega (arith, small))))
  where
    p : ℕ
    p = times n (q / 2)

    small : p < 2 ^ 62
    small =
        omega (
          arith,
          xor_cancel (q % 2 * generator) (p * 2),
          xor_lt 63 (q % 2 * generator) (bit_xor (q % 2 * generator) (p * 2)) (bit_generator_lt (q % 2) (bit q)) h,
        )

-- division with remainder
record Divided (n c : ℕ) : Type 0 where
  quotient : ℕ
  rest : ℕ
  small : rest < 4096
  sum : c ≡ bit_xor (times n quotient) rest

divide : (n c : ℕ) → c < 2 ^ n → Divided n c
unfolding times
divide zero c h = record { quotient = 0; rest = 0; small = lit< tt; sum = lt-one h }
divide (suc n) c h = go (divide n (c / 2) (half_lt n h))
  where
    go : Divided n (c / 2) → Divided (suc n) c
    go d = pick (dec_lt (d.rest * 2 + c % 2) 4096)
      where
        q : ℕ
        q = d.quotient

        r : ℕ
        r = d.rest * 2 + c % 2

        p : ℕ
        p = times n q

        whole : c ≡ bit_xor (p * 2) r
        whole =
            let x : ℕ = bit_xor p d.rest in
            let e : c ≡ x * 2 + c % 2 = omega (arith, d.sum) in
            e ∙ sym (xor_shifted x 1 (c % 2) (bit c)) ∙ ap (λ (y : ℕ). bit_xor y (c % 2)) (twice_xor p d.rest)
            ∙ xor_assoc (p * 2) (d.rest * 2) (c % 2) ∙ ap (bit_xor (p * 2)) (xor_shifted d.rest 1 (c % 2) (bit c))

        pick : Dec (r < 4096) → Divided (suc n) c
        pick (yes l) = record { quotient = q * 2; rest = r; small = l; sum = (let e : q * 2 % 2 ≡ 0 = omega arith in let f : q * 2 / 2 ≡ q = omega arith in rw (e, f) whole) }
        pick (no l) =
            let t : ℕ = r - 4096 in
            let e : r ≡ 1 * 2 ^ 12 + t = omega arith in
            let b : t < 4096 = omega (arith, bit c, d.small) in
            let o : (q * 2 + 1) % 2 ≡ 1 = omega arith in
            let f : (q * 2 + 1) / 2 ≡ q = omega arith in
            record {
              quotient = q * 2 + 1;
              rest = bit_xor r generator;
              small = rw (e, xor_block 12 1 1 t 0x539 b (lit< tt)) (omega (arith, xor_lt 12 t 0x539 b (lit< tt)));
              sum =
                  rw (o, f) (whole ∙ sym (ap (bit_xor (bit_xor generator (p * 2))) (xor_comm r generator) ∙ xor_four generator (p * 2) generator r));
            }

-- a word with the remainder 0 is a multiple of the generator
pub code_multiple : (c : ℕ) → c < 2 ^ 63 → remainder c ≡ 0 → Codeword c
code_multiple c h e =
    (d.quotient, d.sum ∙ ap (bit_xor m) none ∙ xor_zero_r m)
  where
    d : Divided 63 c
    d = divide 63 c h

    m : ℕ
    m = times 63 d.quotient

    bound : m < 2 ^ 63
    bound =
        subst (λ (x : ℕ). x < 2 ^ 63) (ap (bit_xor d.rest) (d.sum ∙ xor_comm m d.rest) ∙ xor_cancel d.rest m)
        (xor_lt 63 d.rest c (omega (arith, d.small)) h)

    none : d.rest ≡ 0
    none = sym (low_remainder d.rest d.small) ∙ sym (ap (λ (x : ℕ). bit_xor x (remainder d.rest)) (multiple_code 63 d.quotient bound))
        ∙ sym (rem_xor 63 1 m d.rest) ∙ ap remainder (sym d.sum) ∙ e
