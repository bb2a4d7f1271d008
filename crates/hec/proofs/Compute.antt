-- A word's reading by computation: its syndrome, and what the table of flips has for it.
-- Assumes nothing.
use mathlib.Core.Path.{◌≡◌, sym, ap, ◌∙◌, subst}
use mathlib.Core.Bool.{cond}
use Prim.Native.Nat.{ℕ, zero, suc, ◌+◌, ◌*◌, ◌/◌, ◌%◌, ◌^◌, ◌<◌}
use native.Mathlib.Nat.{lt_of_lt_of_le}
use native.Mathlib.Omega.{arith}
use lib.Arith.{lt-one}
use lib.Count.{ones, ones_in, ones_step, ones-ones}
use lib.Dec.{eqb, lit≤}
use lib.ListN.{get_or}
use Rattle.bch.specs.Code.{remainder}
use Rattle.bch.specs.Tables.{syndrome}
use Rattle.bch.proofs.Ones.{half_lt}
use Rattle.flips.proofs.FlipRule.{flips, rule}
use Rattle.hec.specs.Reads.{Reading, word, Reads, reading}
use Rattle.hec.specs.Mends.{mended_as, sent}
use Rattle.hec.proofs.Mending.{told, short}
use Rattle.hec.proofs.Nearest.{is_reading}

-- the ones of a number of d bits, which antt counts in d steps
counted : (d n : ℕ) → n < 2 ^ d → ones_in d n ≡ ones n
unfolding ones_in
counted zero n h = sym (ap ones (lt-one h) ∙ ones-ones 0)
counted (suc d) n h = ap (λ (x : ℕ). n % 2 + x) (counted d (n / 2) (half_lt d h)) ∙ sym (ones_step n)

abbrev pub syndrome_in : ℕ → ℕ
syndrome_in w = ones_in 64 w % 2 * 4096 + remainder (w / 2)

-- the word w of the syndrome s
abbrev read_as : ℕ → ℕ → Reading
read_as w s = cond (eqb s 0) (word w) (mended_as (get_or flips (s % 4096) 0) w s)

abbrev pub computed : ℕ → Reading
computed w = read_as w (syndrome_in w)

computes : (w : ℕ) → w < 2 ^ 64 → Reads 64 w (computed w)
computes w h =
    subst (λ (s : ℕ). Reads 64 w (read_as w s)) (sym (ap (λ (x : ℕ). x % 2 * 4096 + remainder (w / 2)) (counted 64 w h)))
    (told w h (get_or flips (syndrome w % 4096) 0) (rule (syndrome w % 4096) (omega arith)))

pub computed64 : (w : ℕ) → w < 2 ^ 64 → (r : Reading) → computed w ≡ r → reading 64 w ≡ r
computed64 w h r e = sym (is_reading 64 w (omega arith) h (computed w) (computes w h)) ∙ e

pub computed32 : (w : ℕ) → w < 2 ^ 32 → (r : Reading) → sent (computed w) ≡ r → reading 32 w ≡ r
computed32 w h r e = sym (is_reading 32 w (omega arith) h (sent (computed w)) (short w h (computed w) (computes w (lt_of_lt_of_le h (lit≤ tt))))) ∙ e
