-- Words and their octets: exclusive or goes octet by octet, and what was joined comes out again.
-- Assumes nothing.
use mathlib.Core.Path.{◌≡◌, refl, sym, ap, ◌∙◌}
use mathlib.Core.List.{List, [], ◌∷◌}
use Prim.Native.Nat.{ℕ, zero, suc, ◌/◌, ◌%◌, ◌<◌}
use native.Mathlib.Omega.{arith}
use lib.Bits.{bit_xor, xor_lt, xor_shr, xor_mod}
use lib.ListN.{length}
use Rattle.aes.specs.Cipher.{at, tabulate, add_round_key}
use Rattle.aes.specs.Words.{joined, octet0, octet1, octet2, octet3, octets_of, words_of, added, Octets, Four}
use Rattle.mixcolumns.specs.Columns.{turned}
use Rattle.aes.specs.declared.Words.{Words}
use Rattle.aes.proofs.Blocks.{then, done}

pub xor_byte : {a b : ℕ} → a < 256 → b < 256 → bit_xor a b < 256
xor_byte {a} {b} p q = xor_lt 8 a b p q

pub xor0 : (x y : ℕ) → octet0 (bit_xor x y) ≡ bit_xor (octet0 x) (octet0 y)
xor0 x y = ap (λ (n : ℕ). n % 256) (xor_shr x y 24) ∙ xor_mod (x / 16777216) (y / 16777216) 8

pub xor1 : (x y : ℕ) → octet1 (bit_xor x y) ≡ bit_xor (octet1 x) (octet1 y)
xor1 x y = ap (λ (n : ℕ). n % 256) (xor_shr x y 16) ∙ xor_mod (x / 65536) (y / 65536) 8

pub xor2 : (x y : ℕ) → octet2 (bit_xor x y) ≡ bit_xor (octet2 x) (octet2 y)
xor2 x y = ap (λ (n : ℕ). n % 256) (xor_shr x y 8) ∙ xor_mod (x / 256) (y / 256) 8

pub xor3 : (x y : ℕ) → octet3 (bit_xor x y) ≡ bit_xor (octet3 x) (octet3 y)
xor3 x y = xor_mod x y 8

pub turned-joined : (a b c d : ℕ) → d < 256 → turned (joined a b c d) ≡ joined d a b c
turned-joined a b c d h = omega arith

pub four : {w x0 x1 x2 x3 : ℕ} → w ≡ joined x0 x1 x2 x3 → x0 < 256 → x1 < 256 → x2 < 256 → x3 < 256
    → Four w x0 x1 x2 x3
four {w} {x0} {x1} {x2} {x3} e h0 h1 h2 h3 =
    record { at0 = omega arith; at1 = omega arith; at2 = omega arith; at3 = omega arith }

-- the sixteen octets of four such words
pub sixteen : {w : Words} {x0 x1 x2 x3 x4 x5 x6 x7 x8 x9 x10 x11 x12 x13 x14 x15 : ℕ} → Four w.a x0 x1 x2 x3
    → Four w.b x4 x5 x6 x7 → Four w.c x8 x9 x10 x11 → Four w.d x12 x13 x14 x15
    → octets_of w
    ≡ x0 ∷ x1 ∷ x2 ∷ x3 ∷ x4 ∷ x5 ∷ x6 ∷ x7 ∷ x8 ∷ x9 ∷ x10 ∷ x11 ∷ x12 ∷ x13 ∷ x14 ∷ x15 ∷ []
sixteen p q r s =
    then p.at0 (then p.at1 (then p.at2 (then p.at3 (then q.at0 (then q.at1 (then q.at2 (then q.at3
    (then r.at0 (then r.at1 (then r.at2 (then r.at3 (then s.at0 (then s.at1 (then s.at2 (then s.at3
    done)))))))))))))))

xored : (x y : ℕ)
    → Four (bit_xor x y) (bit_xor (octet0 x) (octet0 y)) (bit_xor (octet1 x) (octet1 y)) (bit_xor (octet2 x) (octet2 y))
    (bit_xor (octet3 x) (octet3 y))
xored x y = record { at0 = xor0 x y; at1 = xor1 x y; at2 = xor2 x y; at3 = xor3 x y }

pub added-octets : (s k : Words) → octets_of (added s k) ≡ add_round_key (octets_of s) (octets_of k)
added-octets s k =
    sixteen {w = added s k} (xored s.a k.a) (xored s.b k.b) (xored s.c k.c) (xored s.d k.d)

pub whole : (n : ℕ) (l : List ℕ) → length l ≡ n → l ≡ tabulate n (at l)
whole zero [] h = refl
whole zero (x ∷ l) h = absurd (omega arith)
whole (suc n) [] h = absurd (omega arith)
whole (suc n) (x ∷ l) h = ap (λ (t : List ℕ). x ∷ t) (whole n l (omega arith))

pub octets_words : (l : List ℕ) → Octets l → length l ≡ 16 → octets_of (words_of l) ≡ l
octets_words l o h =
    sixteen {w = words_of l} (four refl (o 0) (o 1) (o 2) (o 3)) (four refl (o 4) (o 5) (o 6) (o 7))
    (four refl (o 8) (o 9) (o 10) (o 11)) (four refl (o 12) (o 13) (o 14) (o 15))
    ∙ sym (whole 16 l h)

pub octets_nil : Octets []
octets_nil i = omega arith

pub octets_cons : (x : ℕ) (l : List ℕ) → x < 256 → Octets l → Octets (x ∷ l)
octets_cons x l h o zero = h
octets_cons x l h o (suc i) = o i

pub octets-tabulate : (n : ℕ) (f : ℕ → ℕ) → ((i : ℕ) → f i < 256) → Octets (tabulate n f)
octets-tabulate zero f h = octets_nil
octets-tabulate (suc n) f h =
    octets_cons (f 0) (tabulate n (λ i. f (suc i))) (h 0) (octets-tabulate n (λ i. f (suc i)) (λ i. h (suc i)))

octets-word : (x : ℕ) (l : List ℕ) → Octets l → Octets (octet0 x ∷ octet1 x ∷ octet2 x ∷ octet3 x ∷ l)
octets-word x l o =
    octets_cons (octet0 x) (octet1 x ∷ octet2 x ∷ octet3 x ∷ l) (omega arith)
    (octets_cons (octet1 x) (octet2 x ∷ octet3 x ∷ l) (omega arith)
    (octets_cons (octet2 x) (octet3 x ∷ l) (omega arith) (octets_cons (octet3 x) l (omega arith) o)))

pub octets-octets : (w : Words) → Octets (octets_of w)
octets-octets w =
    let d = octet0 w.d ∷ octet1 w.d ∷ octet2 w.d ∷ octet3 w.d ∷ [] in
    let c = octet0 w.c ∷ octet1 w.c ∷ octet2 w.c ∷ octet3 w.c ∷ d in
    let b = octet0 w.b ∷ octet1 w.b ∷ octet2 w.b ∷ octet3 w.b ∷ c in
    octets-word w.a b (octets-word w.b c (octets-word w.c d (octets-word w.d [] octets_nil)))
