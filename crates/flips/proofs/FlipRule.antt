-- The rule of the table of flips, by two tests that antt computes. Over all 2,017 patterns of at most two code bits: the
-- entry at a pattern's remainder names its places, so that no two of these patterns have one remainder. And over all 4,096
-- entries: what names at most two places stands at their remainder.
-- Assumes nothing.
use mathlib.Core.Path.{◌≡◌, refl, sym, ap, ◌∙◌, subst}
use mathlib.Core.Bool.{Bool, true, false, cond, ◌&&◌}
use mathlib.Core.List.{List, [], ◌∷◌}
use Prim.Native.Nat.{ℕ, zero, suc, ◌+◌, ◌*◌, ◌/◌, ◌%◌, ◌^◌, ◌≤◌, ◌<◌}
use native.Mathlib.Nat.{zero-mul, one-mul, add-mul, mul_assoc, mul_comm, add-zero, zero-add, add-suc, suc-add, le_of_suc-le-suc, not-suc-le-zero}
use native.Mathlib.Omega.{arith}
use lib.Arith.{lt-one, le-zero}
use lib.Bits.{bit_xor, xor_zero_r, xor_zero_l}
use lib.Count.{ones, ones_step, ones-ones}
use borrow.Author.Tests.{le-ltb}
use lib.Dec.{T, eqb, ltb, eqb→eq}
use lib.ListN.{get_or}
use Rattle.bch.specs.Code.{remainder_from, double, remainder}
use Rattle.bch.specs.Tables.{first_place_lem, second_place, bits_of, counts_of, Flips}
use Rattle.flips.specs.Flipped.{flipped}
use Rattle.bch.proofs.Both.{left, right}
use Rattle.bch.proofs.Xor.{bit, xor_assoc}
use Rattle.bch.proofs.Ones.{half_lt, ones_none}
use Rattle.bch.proofs.Linear.{rem_zero}
use Rattle.bch.proofs.Range.{remainder_lt}
use Rattle.bch.proofs.Places.{remainder_of_lem, bits_within, bits_few, bits_leave}

-- a list of 2^n entries, dealt out by the bits of their numbers, so that antt finds an entry in n steps
data Tree : Type 0 where
  leaf : ℕ → Tree
  node : Tree → Tree → Tree

evens : List ℕ → List ℕ
evens [] = []
evens (x ∷ []) = x ∷ []
evens (x ∷ y ∷ xs) = x ∷ evens xs

odds : List ℕ → List ℕ
odds [] = []
odds (x ∷ []) = []
odds (x ∷ y ∷ xs) = y ∷ odds xs

dealt : ℕ → List ℕ → Tree
unfolding evens odds
dealt zero xs = leaf (get_or xs 0 0)
dealt (suc n) xs = node (dealt n (evens xs)) (dealt n (odds xs))

look : Tree → ℕ → ℕ
look (leaf v) s = v
look (node l r) s = elim (s % 2) [ zero ↦ look l (s / 2) | suc b ↦ look r (s / 2) ]

two_more : (k : ℕ) → suc k * 2 ≡ suc (suc (k * 2))
two_more k = omega arith

evens_at : (xs : List ℕ) (k : ℕ) → get_or (evens xs) k 0 ≡ get_or xs (k * 2) 0
unfolding evens
evens_at [] k = refl
evens_at (x ∷ []) zero = refl
evens_at (x ∷ []) (suc k) = rw (two_more k)
evens_at (x ∷ y ∷ xs) zero = refl
evens_at (x ∷ y ∷ xs) (suc k) = rw (two_more k) (evens_at xs k)

odds_at : (xs : List ℕ) (k : ℕ) → get_or (odds xs) k 0 ≡ get_or xs (suc (k * 2)) 0
unfolding odds
odds_at [] k = refl
odds_at (x ∷ []) k = refl
odds_at (x ∷ y ∷ xs) zero = refl
odds_at (x ∷ y ∷ xs) (suc k) = rw (two_more k) (odds_at xs k)

looked : (n : ℕ) (xs : List ℕ) (s : ℕ) → s < 2 ^ n → look (dealt n xs) s ≡ get_or xs s 0
unfolding dealt look
looked zero xs s h = rw (lt-one h)
looked (suc n) xs s h = go (s % 2) refl (looked n (evens xs) (s / 2) (half_lt n h)) (looked n (odds xs) (s / 2) (half_lt n h))
  where
    go : (b : ℕ) → s % 2 ≡ b → look (dealt n (evens xs)) (s / 2) ≡ get_or (evens xs) (s / 2) 0 → look (dealt n (odds xs)) (s / 2) ≡ get_or (odds xs) (s / 2) 0
        → elim b [ zero ↦ look (dealt n (evens xs)) (s / 2) | suc c ↦ look (dealt n (odds xs)) (s / 2) ] ≡ get_or xs s 0
    go zero e i0 i1 = i0 ∙ evens_at xs (s / 2) ∙ ap (λ (x : ℕ). get_or xs x 0) (omega arith)
    go (suc zero) e i0 i1 = i1 ∙ odds_at xs (s / 2) ∙ ap (λ (x : ℕ). get_or xs x 0) (omega arith)
    go (suc (suc b)) e i0 i1 = absurd (omega (arith, bit s))

-- the entry v names count places, with the bits given
good : ℕ → ℕ → ℕ → Bool
good v bits count = eqb (bits_of v) bits && eqb (counts_of v) count

Good : ℕ → ℕ → ℕ → Type 0
Good v bits count = (bits_of v ≡ bits) × (counts_of v ≡ count)

-- n places are left and m ones, of which the lowest has the check value p and the bit pow. Sum, bits and count are those
-- of the ones set so far
tested : Tree → ℕ → ℕ → ℕ → ℕ → ℕ → ℕ → ℕ → Bool
unfolding look good
tested t zero m p sum bits count pow = good (look t sum) bits count
tested t (suc n) zero p sum bits count pow = good (look t sum) bits count
tested t (suc n) (suc m) p sum bits count pow =
    tested t n (suc m) (double p) sum bits count (pow * 2) && tested t n m (double p) (bit_xor sum p) (bits + pow) (suc count) (pow * 2)

digit : (q b pow : ℕ) → (q * 2 + b) * pow ≡ q * (pow * 2) + b * pow
digit q b pow = add-mul (q * 2) b pow ∙ ap (λ (x : ℕ). x + b * pow) (mul_assoc q 2 pow ∙ ap (λ (x : ℕ). q * x) (mul_comm 2 pow))

ended : (t : Tree) (n p sum bits count pow f : ℕ) → f ≡ 0 → T (good (look t sum) bits count)
    → Good (look t (bit_xor sum (remainder_from n p f))) (bits + f * pow) (count + ones f)
unfolding good Good
ended t n p sum bits count pow f e h =
    rw (e, rem_zero n p, xor_zero_r sum, zero-mul pow, add-zero bits, ones-ones 0, add-zero count) (
      eqb→eq (bits_of (look t sum)) bits (left (eqb (bits_of (look t sum)) bits) (eqb (counts_of (look t sum)) count) h),
      eqb→eq (counts_of (look t sum)) count (right (eqb (bits_of (look t sum)) bits) (eqb (counts_of (look t sum)) count) h),
    )

found : (t : Tree) (n m p sum bits count pow f : ℕ) → f < 2 ^ n → ones f ≤ m → T (tested t n m p sum bits count pow)
    → Good (look t (bit_xor sum (remainder_from n p f))) (bits + f * pow) (count + ones f)
unfolding tested remainder_from
found t zero m p sum bits count pow f hf ho h = ended t zero p sum bits count pow f (lt-one hf) h
found t (suc n) zero p sum bits count pow f hf ho h = ended t (suc n) p sum bits count pow f (ones_none f (le-zero ho)) h
found t (suc n) (suc m) p sum bits count pow f hf ho h =
    go (f % 2) refl (found t n (suc m) (double p) sum bits count (pow * 2) (f / 2) (half_lt n hf))
    (found t n m (double p) (bit_xor sum p) (bits + pow) (suc count) (pow * 2) (f / 2) (half_lt n hf))
  where
    q : ℕ
    q = f / 2

    r : ℕ
    r = remainder_from n (double p) q

    lo : Bool
    lo = tested t n (suc m) (double p) sum bits count (pow * 2)

    hi : Bool
    hi = tested t n m (double p) (bit_xor sum p) (bits + pow) (suc count) (pow * 2)

    whole : (b : ℕ) → f % 2 ≡ b → q * (pow * 2) + b * pow ≡ f * pow
    whole b e = sym (digit q b pow) ∙ ap (λ (x : ℕ). x * pow) (omega arith)

    go : (b : ℕ) → f % 2 ≡ b
        → (ones q ≤ suc m → T lo → Good (look t (bit_xor sum r)) (bits + q * (pow * 2)) (count + ones q))
        → (ones q ≤ m → T hi → Good (look t (bit_xor (bit_xor sum p) r)) (bits + pow + q * (pow * 2)) (suc count + ones q))
        → Good (look t (bit_xor sum (bit_xor (f % 2 * p) r))) (bits + f * pow) (count + ones f)
    go zero e i0 i1 =
        let i = i0 (omega (arith, ones_step f)) (left lo hi h) in
        let a : bits + q * (pow * 2) ≡ bits + f * pow = omega (arith, whole 0 e) in
        let c : count + ones q ≡ count + ones f = omega (arith, ones_step f) in
        rw (e, zero-mul p, xor_zero_l r) (rw (a, c) at i)
    go (suc zero) e i0 i1 =
        let i = i1 (omega (arith, ones_step f)) (right lo hi h) in
        let a : bits + pow + q * (pow * 2) ≡ bits + f * pow = omega (arith, whole 1 e) in
        let c : suc count + ones q ≡ count + ones f = omega (arith, ones_step f) in
        rw (e, one-mul p, ← (xor_assoc sum p r)) (rw (a, c) at i)
    go (suc (suc b)) e i0 i1 = absurd (omega (arith, bit f))

-- the entry v, which stands at s, names what leaves s, or more than two places
leaves : ℕ → ℕ → Bool
leaves s v = cond (ltb 2 (counts_of v)) true (eqb (bit_xor (remainder_of_lem (first_place_lem v)) (remainder_of_lem (second_place v))) s)

-- and so do the first n entries, from s on
all_leave : ℕ → ℕ → List ℕ → Bool
unfolding leaves
all_leave zero s xs = true
all_leave (suc n) s [] = false
all_leave (suc n) s (v ∷ vs) = leaves s v && all_leave n (suc s) vs

leaves_at : (n s : ℕ) (xs : List ℕ) → T (all_leave n s xs) → (k : ℕ) → k < n → T (leaves (s + k) (get_or xs k 0))
unfolding all_leave
leaves_at zero s xs t k h = absurd (not-suc-le-zero h)
leaves_at (suc n) s [] t k h = absurd t
leaves_at (suc n) s (v ∷ vs) t zero h = subst (λ (x : ℕ). T (leaves x v)) (sym (add-zero s)) (left (leaves s v) (all_leave n (suc s) vs) t)
leaves_at (suc n) s (v ∷ vs) t (suc k) h =
    subst (λ (x : ℕ). T (leaves x (get_or vs k 0))) (suc-add s k ∙ sym (add-suc s k))
    (leaves_at n (suc s) vs (right (leaves s v) (all_leave n (suc s) vs) t) k (le_of_suc-le-suc h))

-- opaque, so that no goal of those who use the rule has its numbers
unfoldable pub flips : List ℕ
flips = flipped

passed : T (tested (dealt 12 flips) 63 2 1 0 0 0 2)
unfolding tested dealt flips
passed = tt

named : (f : ℕ) → f < 2 ^ 63 → ones f ≤ 2 → (bits_of (get_or flips (remainder f) 0) ≡ f * 2) × (counts_of (get_or flips (remainder f) 0) ≡ ones f)
unfolding Good
named f hf ho =
    let s : ℕ = remainder f in
    let g = found (dealt 12 flips) 63 2 1 0 0 0 2 f hf ho passed in
    let e : look (dealt 12 flips) s ≡ get_or flips s 0 = looked 12 flips s (remainder_lt f) in
    rw (xor_zero_l s, e, zero-add (f * 2), zero-add (ones f)) at g

left_right : T (all_leave 4096 0 flips)
unfolding all_leave flips
left_right = tt

-- what leaves s is a pattern of at most two bits, and the entry at s is that pattern's
sound : (s : ℕ) → s < 4096 → counts_of (get_or flips s 0) ≤ 2
    → (remainder (bits_of (get_or flips s 0) / 2) ≡ s) × (ones (bits_of (get_or flips s 0)) ≡ counts_of (get_or flips s 0))
unfolding leaves
sound s h few =
    let told : T (leaves s v) = subst (λ (x : ℕ). T (leaves x v)) (zero-add s) (leaves_at 4096 0 flips left_right s h) in
    let at : remainder f ≡ s = bits_leave v ∙ eqb→eq (bit_xor (remainder_of_lem (first_place_lem v)) (remainder_of_lem (second_place v))) s (rw (le-ltb 2 (counts_of v) few) at told) in
    let n = rw at at (named f (half_lt 63 (bits_within v)) (omega (arith, ones_step (bits_of v), bits_few v))) in
    (at, omega (arith, ones_step (bits_of v), n.0, n.1))
  where
    v : ℕ
    v = get_or flips s 0

    f : ℕ
    f = bits_of v / 2

pub rule : (s : ℕ) → s < 4096 → Flips s (get_or flips s 0)
rule s h =
    record {
      named = λ f hf ho e. subst (λ (x : ℕ). (bits_of (get_or flips x 0) ≡ f * 2) × (counts_of (get_or flips x 0) ≡ ones f)) e (named f hf ho);
      sound = sound s h;
    }
