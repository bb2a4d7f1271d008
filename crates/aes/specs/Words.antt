-- Sixteen octets as four words of 32 bits, the first octet of a word highest (FIPS 197, 3.5).
-- Assumes nothing.
use Rattle.std.specs.Prelude.{ℕ, ◌/◌, ◌%◌, ◌<◌, ◌≡◌, List, [], ◌∷◌, get_or}
use Rattle.std.specs.Int.Bits.{bit_xor}
pub use Rattle.mixcolumns.specs.Columns.{joined}
use Rattle.aes.specs.Cipher.{at}
use Rattle.aes.specs.declared.Words.{Words}

abbrev pub octet0 : ℕ → ℕ
octet0 w = w / 16777216 % 256

abbrev pub octet1 : ℕ → ℕ
octet1 w = w / 65536 % 256

abbrev pub octet2 : ℕ → ℕ
octet2 w = w / 256 % 256

abbrev pub octet3 : ℕ → ℕ
octet3 w = w % 256

abbrev pub octets_of : Words → List ℕ
octets_of w =
    octet0 w.a ∷ octet1 w.a ∷ octet2 w.a ∷ octet3 w.a ∷ octet0 w.b ∷ octet1 w.b ∷ octet2 w.b
    ∷ octet3 w.b ∷ octet0 w.c ∷ octet1 w.c ∷ octet2 w.c ∷ octet3 w.c ∷ octet0 w.d ∷ octet1 w.d
    ∷ octet2 w.d ∷ octet3 w.d ∷ []

abbrev pub words_of : List ℕ → Words
words_of l =
    record {
      a = joined (at l 0) (at l 1) (at l 2) (at l 3);
      b = joined (at l 4) (at l 5) (at l 6) (at l 7);
      c = joined (at l 8) (at l 9) (at l 10) (at l 11);
      d = joined (at l 12) (at l 13) (at l 14) (at l 15);
    }

abbrev pub added : Words → Words → Words
added s k =
    record {
      a = bit_xor s.a k.a;
      b = bit_xor s.b k.b;
      c = bit_xor s.c k.c;
      d = bit_xor s.d k.d;
    }

-- what stands past the end of a list of words
abbrev pub no_words : Words
no_words = record { a = 0; b = 0; c = 0; d = 0 }

-- each number of the list is an octet
abbrev pub Octets : List ℕ → Type 0
Octets l = (i : ℕ) → get_or l i 0 < 256

-- the octets of a word
pub record Four (w x0 x1 x2 x3 : ℕ) : Type 0 where
  pub at0 : octet0 w ≡ x0
  pub at1 : octet1 w ≡ x1
  pub at2 : octet2 w ≡ x2
  pub at3 : octet3 w ≡ x3

-- w is made of four octets, and they come out again
pub record Joined (a b c d w : ℕ) : Type 0 where
  pub made : w ≡ joined a b c d
  pub back : Four w a b c d

-- the words of sixteen octets, which come out again
pub record Loaded (l : List ℕ) (w : Words) : Type 0 where
  pub made : w ≡ words_of l
  pub back : octets_of w ≡ l
