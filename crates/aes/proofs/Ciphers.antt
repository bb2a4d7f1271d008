-- The cipher of specs/OnWords is AES-128: a column, a round, a round key, the rounds, the block.
-- Assumes nothing.
use mathlib.Core.Path.{◌≡◌, refl, sym, ap, ap₂, ◌∙◌}
use mathlib.Core.List.{List}
use Prim.Native.Nat.{ℕ, zero, suc, ◌*◌, ◌<◌}
use native.Mathlib.Omega.{arith}
use lib.Bits.{bit_xor, xor_comm, xor_zero_r}
use Rattle.subbytes.specs.Field.{s_box, xtime}
use Rattle.subbytes.proofs.SboxRule.{s_box_byte, xtime_byte}
use Rattle.mixcolumns.specs.Columns.{joined, turned, mix_of}
use Rattle.aes.specs.Cipher.{mixed, add_round_key, round_of, last_of, next_key_lem, rcon, round_key, rounds, aes128}
use Rattle.aes.specs.Words.{octet0, octet1, octet2, octet3, octets_of, added, Four}
use Rattle.aes.specs.OnWords.{column_on, round_on, last_column_on, last_on, turned_word_on, next_key_on, round_key_on, rounds_on, cipher_on}
use Rattle.aes.specs.declared.Words.{Words}
use Rattle.aes.proofs.Octets.{xor_byte, xor0, xor1, xor2, xor3, turned-joined, four, sixteen, added-octets}
use Rattle.aes.proofs.Xor.{xor_assoc}

-- the rows in the order of the table's entries, and in that of 5.1.3 from row r on
pub sum1 : (a p q d : ℕ) → bit_xor (bit_xor (bit_xor a p) q) d ≡ bit_xor (bit_xor (bit_xor p q) d) a
sum1 a p q d =
    ap (λ (x : ℕ). bit_xor x d) (xor_assoc a p q) ∙ xor_assoc a (bit_xor p q) d ∙ xor_comm a (bit_xor (bit_xor p q) d)

sum2 : (a b p q : ℕ) → bit_xor (bit_xor (bit_xor a b) p) q ≡ bit_xor (bit_xor (bit_xor p q) a) b
sum2 a b p q =
    xor_assoc (bit_xor a b) p q ∙ xor_comm (bit_xor a b) (bit_xor p q) ∙ sym (xor_assoc (bit_xor p q) a b)

sum3 : (q b c p : ℕ) → bit_xor (bit_xor (bit_xor q b) c) p ≡ bit_xor (bit_xor (bit_xor p q) b) c
sum3 q b c p =
    xor_comm (bit_xor (bit_xor q b) c) p ∙ sym (xor_assoc p (bit_xor q b) c)
    ∙ ap (λ (x : ℕ). bit_xor x c) (sym (xor_assoc p q b))

-- an octet of a sum of five is the sum of the five octets
five : (f : ℕ → ℕ) → ((x y : ℕ) → f (bit_xor x y) ≡ bit_xor (f x) (f y)) → (p q r s k : ℕ)
    → f (bit_xor (bit_xor (bit_xor (bit_xor p q) r) s) k) ≡ bit_xor (bit_xor (bit_xor (bit_xor (f p) (f q)) (f r)) (f s)) (f k)
five f law p q r s k =
    law (bit_xor (bit_xor (bit_xor p q) r) s) k
    ∙ ap (λ (x : ℕ). bit_xor x (f k))
    (law (bit_xor (bit_xor p q) r) s
    ∙ ap (λ (x : ℕ). bit_xor x (f s)) (law (bit_xor p q) r ∙ ap (λ (x : ℕ). bit_xor x (f r)) (law p q)))

-- one, two and three times the S-box value of an octet
abbrev one : ℕ → ℕ
one x = s_box x

abbrev two : ℕ → ℕ
two x = xtime (one x)

abbrev three : ℕ → ℕ
three x = bit_xor (two x) (one x)

module _ (x : ℕ) (h : x < 256) where
  pub one_byte : one x < 256
  one_byte = s_box_byte x h

  two_byte : two x < 256
  two_byte = xtime_byte (one x) one_byte

  three_byte : three x < 256
  three_byte = xor_byte two_byte one_byte

  -- its column in each row
  mix0 : Four (mix_of x) (two x) (one x) (one x) (three x)
  unfolding mix_of
  mix0 = four refl two_byte one_byte one_byte three_byte

  turned1 : turned (mix_of x) ≡ joined (three x) (two x) (one x) (one x)
  unfolding mix_of
  turned1 = turned-joined (two x) (one x) (one x) (three x) three_byte

  mix1 : Four (turned (mix_of x)) (three x) (two x) (one x) (one x)
  mix1 = four turned1 three_byte two_byte one_byte one_byte

  turned2 : turned (turned (mix_of x)) ≡ joined (one x) (three x) (two x) (one x)
  turned2 = ap turned turned1 ∙ turned-joined (three x) (two x) (one x) (one x) one_byte

  mix2 : Four (turned (turned (mix_of x))) (one x) (three x) (two x) (one x)
  mix2 = four turned2 one_byte three_byte two_byte one_byte

  mix3 : Four (turned (turned (turned (mix_of x)))) (one x) (one x) (three x) (two x)
  mix3 =
      four (ap turned turned2 ∙ turned-joined (one x) (three x) (two x) (one x) one_byte) one_byte one_byte three_byte
      two_byte

-- 5.1.3 and 5.1.4: a column of a round
mixed_column : (a b c d k : ℕ)
    → Four (column_on a b c d k)
    (bit_xor (mixed (s_box (octet0 a)) (s_box (octet1 b)) (s_box (octet2 c)) (s_box (octet3 d))) (octet0 k))
    (bit_xor (mixed (s_box (octet1 b)) (s_box (octet2 c)) (s_box (octet3 d)) (s_box (octet0 a))) (octet1 k))
    (bit_xor (mixed (s_box (octet2 c)) (s_box (octet3 d)) (s_box (octet0 a)) (s_box (octet1 b))) (octet2 k))
    (bit_xor (mixed (s_box (octet3 d)) (s_box (octet0 a)) (s_box (octet1 b)) (s_box (octet2 c))) (octet3 k))
unfolding column_on
mixed_column a b c d k =
    let p = octet0 a in
    let q = octet1 b in
    let r = octet2 c in
    let s = octet3 d in
    let e0 = mix_of p in
    let e1 = turned (mix_of q) in
    let e2 = turned (turned (mix_of r)) in
    let e3 = turned (turned (turned (mix_of s))) in
    let f0 = mix0 p (omega arith) in
    let f1 = mix1 q (omega arith) in
    let f2 = mix2 r (omega arith) in
    let f3 = mix3 s (omega arith) in
    record {
      at0 =
          five octet0 xor0 e0 e1 e2 e3 k
          ∙ ap (λ (x : ℕ). bit_xor x (octet0 k)) (ap₂ bit_xor (ap₂ bit_xor (ap₂ bit_xor f0.at0 f1.at0) f2.at0) f3.at0);
      at1 =
          five octet1 xor1 e0 e1 e2 e3 k
          ∙ ap (λ (x : ℕ). bit_xor x (octet1 k))
          (ap₂ bit_xor (ap₂ bit_xor (ap₂ bit_xor f0.at1 f1.at1) f2.at1) f3.at1 ∙ sum1 (one p) (two q) (three r) (one s));
      at2 =
          five octet2 xor2 e0 e1 e2 e3 k
          ∙ ap (λ (x : ℕ). bit_xor x (octet2 k))
          (ap₂ bit_xor (ap₂ bit_xor (ap₂ bit_xor f0.at2 f1.at2) f2.at2) f3.at2 ∙ sum2 (one p) (one q) (two r) (three s));
      at3 =
          five octet3 xor3 e0 e1 e2 e3 k
          ∙ ap (λ (x : ℕ). bit_xor x (octet3 k))
          (ap₂ bit_xor (ap₂ bit_xor (ap₂ bit_xor f0.at3 f1.at3) f2.at3) f3.at3 ∙ sum3 (three p) (one q) (one r) (two s));
    }

pub round_is : (s k : Words) → octets_of (round_on s k) ≡ round_of (octets_of s) (octets_of k)
unfolding round_on round_of
round_is s k =
    sixteen {w = round_on s k} (mixed_column s.a s.b s.c s.d k.a)
    (mixed_column s.b s.c s.d s.a k.b) (mixed_column s.c s.d s.a s.b k.c)
    (mixed_column s.d s.a s.b s.c k.d)

pub last-column : (a b c d : ℕ)
    → Four (last_column_on a b c d) (s_box (octet0 a)) (s_box (octet1 b)) (s_box (octet2 c)) (s_box (octet3 d))
unfolding last_column_on
last-column a b c d =
    four refl (one_byte (octet0 a) (omega arith)) (one_byte (octet1 b) (omega arith)) (one_byte (octet2 c) (omega arith))
    (one_byte (octet3 d) (omega arith))

pub last_is : (s k : Words) → octets_of (last_on s k) ≡ last_of (octets_of s) (octets_of k)
unfolding last_on last_of
last_is s k =
    let w : Words =
    record {
      a = last_column_on s.a s.b s.c s.d;
      b = last_column_on s.b s.c s.d s.a;
      c = last_column_on s.c s.d s.a s.b;
      d = last_column_on s.d s.a s.b s.c;
    }
    in
    added-octets w k
    ∙ ap (λ (l : List ℕ). add_round_key l (octets_of k))
    (sixteen {w = w} (last-column s.a s.b s.c s.d) (last-column s.b s.c s.d s.a)
    (last-column s.c s.d s.a s.b) (last-column s.d s.a s.b s.c))

-- 5.2: each word of a round key is the sum of the one above it and the one before it
turned-word : (d rc : ℕ) → rc < 256
    → Four (bit_xor (turned_word_on d) (rc * 16777216)) (bit_xor (s_box (octet1 d)) rc) (s_box (octet2 d)) (s_box (octet3 d))
    (s_box (octet0 d))
unfolding turned_word_on
turned-word d rc h =
    let w = turned_word_on d in
    let v = rc * 16777216 in
    let f : Four w (s_box (octet1 d)) (s_box (octet2 d)) (s_box (octet3 d)) (s_box (octet0 d)) =
    four refl (one_byte (octet1 d) (omega arith)) (one_byte (octet2 d) (omega arith)) (one_byte (octet3 d) (omega arith))
    (one_byte (octet0 d) (omega arith))
    in
    let v0 : octet0 v ≡ rc = omega arith in
    let v1 : octet1 v ≡ 0 = omega arith in
    let v2 : octet2 v ≡ 0 = omega arith in
    let v3 : octet3 v ≡ 0 = omega arith in
    record {
      at0 = xor0 w v ∙ ap₂ bit_xor f.at0 v0;
      at1 = xor1 w v ∙ ap₂ bit_xor f.at1 v1 ∙ xor_zero_r (s_box (octet2 d));
      at2 = xor2 w v ∙ ap₂ bit_xor f.at2 v2 ∙ xor_zero_r (s_box (octet3 d));
      at3 = xor3 w v ∙ ap₂ bit_xor f.at3 v3 ∙ xor_zero_r (s_box (octet0 d));
    }

above : {w x0 x1 x2 x3 : ℕ} (v : ℕ) → Four w x0 x1 x2 x3
    → Four (bit_xor v w) (bit_xor (octet0 v) x0) (bit_xor (octet1 v) x1) (bit_xor (octet2 v) x2) (bit_xor (octet3 v) x3)
above {w} v p =
    record {
      at0 = xor0 v w ∙ ap (λ (x : ℕ). bit_xor (octet0 v) x) p.at0;
      at1 = xor1 v w ∙ ap (λ (x : ℕ). bit_xor (octet1 v) x) p.at1;
      at2 = xor2 v w ∙ ap (λ (x : ℕ). bit_xor (octet2 v) x) p.at2;
      at3 = xor3 v w ∙ ap (λ (x : ℕ). bit_xor (octet3 v) x) p.at3;
    }

pub next_key_is : (k : Words) (rc : ℕ) → rc < 256 → octets_of (next_key_on k rc) ≡ next_key_lem (octets_of k) rc
unfolding next_key_on
next_key_is k rc h =
    let a = above k.a (turned-word k.d rc h) in
    let b = above k.b a in
    let c = above k.c b in
    sixteen {w = next_key_on k rc} a b c (above k.d c)

pub rcon_byte : (i : ℕ) → rcon i < 256
unfolding rcon
rcon_byte zero = omega arith
rcon_byte (suc i) = xtime_byte (rcon i) (rcon_byte i)

pub round_key_is : (i : ℕ) (k : Words) → octets_of (round_key_on i k) ≡ round_key i (octets_of k)
unfolding round_key_on round_key
round_key_is zero k = refl
round_key_is (suc i) k =
    next_key_is (round_key_on i k) (rcon i) (rcon_byte i) ∙ ap (λ (l : List ℕ). next_key_lem l (rcon i)) (round_key_is i k)

rounds_are : (i : ℕ) (k s : Words) → octets_of (rounds_on i k s) ≡ rounds i (octets_of k) (octets_of s)
unfolding rounds_on rounds
rounds_are zero k s = refl
rounds_are (suc i) k s =
    round_is (rounds_on i k s) (round_key_on (suc i) k) ∙ ap₂ round_of (rounds_are i k s) (round_key_is (suc i) k)

-- for every key and every block
pub on_words : (k s : Words) → octets_of (cipher_on k s) ≡ aes128 (octets_of k) (octets_of s)
unfolding cipher_on aes128
on_words k s =
    last_is (rounds_on 9 k (added s k)) (round_key_on 10 k)
    ∙ ap₂ last_of (rounds_are 9 k (added s k) ∙ ap (rounds 9 (octets_of k)) (added-octets s k)) (round_key_is 10 k)
