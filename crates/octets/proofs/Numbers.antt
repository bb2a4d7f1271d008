-- A number and its octets.
-- Assumes nothing.
use mathlib.Core.Path.{◌≡◌, refl, sym, ap, ap₂, ◌∙◌, subst}
use mathlib.Core.List.{List, [], ◌∷◌, ◌++◌}
use mathlib.Core.Bool.{cond}
use borrow.Author.Tests.{le-leb}
use Prim.Native.Nat.{ℕ, zero, suc, ◌+◌, ◌*◌, ◌/◌, ◌%◌, ◌^◌, ◌≤◌, ◌<◌}
use native.Mathlib.Nat.{pow-suc, mul_comm, mul_assoc, add_comm, add-mul-div_right, mod-eq_of_lt}
use native.Mathlib.Omega.{arith}
use lib.Arith.{mod-mul, digits_div, digits_lt}
use lib.Dec.{lit<, leb}
use lib.ListN.{length, take, drop}
use Rattle.octets.specs.Octets.{value, octets}

pub power_pos : (n : ℕ) → 0 < 256 ^ n
power_pos zero = lit< tt
power_pos (suc n) = omega (arith, pow-suc 256 n, power_pos n)

pub octets-length : (n v : ℕ) → length (octets n v) ≡ n
octets-length zero v = refl
octets-length (suc n) v = ap suc (octets-length n v)

value_low : (n v : ℕ) → value (octets n v) ≡ v % 256 ^ n
value_low zero v = omega arith
value_low (suc n) v =
    ap₂ (λ (k x : ℕ). v / 256 ^ n % 256 * 256 ^ k + x) (octets-length n v) (value_low n v)
    ∙ sym (mod-mul v {m = 256} {c = 256 ^ n} (lit< tt) (power_pos n)) ∙ ap (λ (m : ℕ). v % m) (mul_comm 256 (256 ^ n) ∙ sym (pow-suc 256 n))

-- the octets of a number stand for it
pub value-octets : (n v : ℕ) → v < 256 ^ n → value (octets n v) ≡ v
value-octets n v h = value_low n v ∙ mod-eq_of_lt h

-- a list of octets
abbrev pub Bytes : List ℕ → Type 0
Bytes [] = Unit
Bytes (x ∷ xs) = (x < 256) × Bytes xs

pub value_lt : (s : List ℕ) → Bytes s → value s < 256 ^ length s
value_lt [] b = lit< tt
value_lt (x ∷ xs) (h, b) =
    subst (λ (m : ℕ). value (x ∷ xs) < m) (mul_comm 256 (256 ^ length xs) ∙ sym (pow-suc 256 (length xs))) (digits_lt h (value_lt xs b))

octets_above : (n a v : ℕ) → octets n (a * 256 ^ n + v) ≡ octets n v
octets_above zero a v = refl
octets_above (suc n) a v =
    ap₂ ◌∷◌ first
    (ap (λ (x : ℕ). octets n (x + v)) (ap (λ (x : ℕ). a * x) (pow-suc 256 n) ∙ regroup a (256 ^ n)) ∙ octets_above n (a * 256) v)
  where
    regroup : (x m : ℕ) → x * (m * 256) ≡ x * 256 * m
    regroup x m = ap (λ (y : ℕ). x * y) (mul_comm m 256) ∙ sym (mul_assoc x 256 m)

    first : (a * 256 ^ suc n + v) / 256 ^ n % 256 ≡ v / 256 ^ n % 256
    first =
        ap (λ (x : ℕ). (x + v) / 256 ^ n % 256) (ap (λ (x : ℕ). a * x) (pow-suc 256 n) ∙ regroup a (256 ^ n))
        ∙ ap (λ (x : ℕ). x % 256) (ap (λ (x : ℕ). x / 256 ^ n) (add_comm (a * 256 * 256 ^ n) v) ∙ add-mul-div_right v (a * 256) (power_pos n)) ∙ omega arith

-- and a list of octets is that of its number
pub octets-value : (s : List ℕ) → Bytes s → octets (length s) (value s) ≡ s
octets-value [] b = refl
octets-value (x ∷ xs) (h, b) =
    ap₂ ◌∷◌ (ap (λ (y : ℕ). y % 256) (digits_div x (value_lt xs b)) ∙ mod-eq_of_lt h) (octets_above (length xs) x (value xs) ∙ octets-value xs b)

-- what `Number::read` gives of a slice that is long enough
pub read_whole : (n x : ℕ) (s : List ℕ) → x ≡ cond (leb n (length s)) (value (take n s)) 0 → n ≤ length s → x ≡ value (take n s)
read_whole n x s e h = e ∙ rw (le-leb n (length s) h)

-- what `Number::put` leaves of a target that is long enough
pub put_whole : (n v : ℕ) (t u : List ℕ) → u ≡ cond (leb n (length t)) (octets n v ++ drop n t) t → n ≤ length t → u ≡ octets n v ++ drop n t
put_whole n v t u e h = e ∙ rw (le-leb n (length t) h)
