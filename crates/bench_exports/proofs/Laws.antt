-- A sum over words, one after the other: what is summed, and what is still to come.
-- Assumes nothing.
use mathlib.Core.Path.{◌≡◌, sym, ap, ◌∙◌}
use mathlib.Core.List.{List}
use Prim.Native.Nat.{ℕ, ◌+◌, ◌^◌, ◌≤◌, ◌<◌}
use native.Mathlib.Numerals.{add-one}
use lib.Bits.{bit_xor, xor_zero_r}
use lib.ListN.{length, get_or, drop, drop_of_length-le}
use lib.Seq.{drop-cons}
use Rattle.hec.specs.Reads.{Reading, Reads, reading}
use Rattle.hec.proofs.Nearest.{is_reading}
use Rattle.bch.proofs.Xor.{xor_assoc}
use Rattle.bench_exports.specs.Sums.{value_of, read_sum}

module _ (n : ℕ) (words : List ℕ) (i sum : ℕ) (so_far : bit_xor sum (read_sum n (drop i words)) ≡ read_sum n words) where
  added : (x : ℕ) → i < length words → x ≡ value_of (reading n (get_or words i 0)) → bit_xor (bit_xor sum x) (read_sum n (drop (i + 1) words)) ≡ read_sum n words
  unfolding read_sum
  added x h e =
      xor_assoc sum x (read_sum n (drop (i + 1) words))
      ∙ ap (λ (y : ℕ). bit_xor sum y) (rw (e, add-one i) (sym (ap (read_sum n) (drop-cons words i 0 h))))
      ∙ so_far

  pub more : (x : ℕ) (r : Reading) → n ≤ 64 → get_or words i 0 < 2 ^ n → i < length words → Reads n (get_or words i 0) r → x ≡ value_of r
      → bit_xor (bit_xor sum x) (read_sum n (drop (i + 1) words)) ≡ read_sum n words
  more x r wide fits h reads e = added x h (e ∙ ap value_of (is_reading n (get_or words i 0) wide fits r reads))

  pub all : length words ≤ i → sum ≡ read_sum n words
  unfolding read_sum
  all h = sym (xor_zero_r sum) ∙ ap (λ (l : List ℕ). bit_xor sum (read_sum n l)) (sym (drop_of_length-le words h)) ∙ so_far
