-- The steps of the readers and writers, over plain variables: what their tests show of the definitions.
-- Assumes nothing.
use mathlib.Core.Path.{◌≡◌, refl, ap, ◌∙◌}
use mathlib.Core.Bool.{Bool, true, false, cond, ◌&&◌}
use mathlib.Core.List.{List}
use Prim.Native.Nat.{ℕ, ◌%◌, ◌^◌, ◌≤◌, ◌<◌}
use native.Mathlib.Nat.{mod-eq_of_lt}
use borrow.Author.Tests.{le-leb, lt-leb}
use lib.ListN.{length, take}
use Rattle.hec.specs.Reads.{Reading}
use Rattle.hec.specs.Writes.{protected}
use Rattle.octets.specs.Octets.{value, octets}
use Rattle.xgem.specs.Reads.{Found, short, taken, read_as}
use Rattle.xgem.specs.Writes.{WriteLeft, put, wrote}
use Rattle.answers.specs.declared.Answer.TheVariants.{Done, NotWritten}

module _ {X : Type 0} (read : ℕ → Reading) (n : ℕ) (of : ℕ → X) (s : List ℕ) where
  pub read_short : length s < n → short ≡ read_as read n of s
  read_short h = rw (lt-leb n (length s) h)

  pub read_found : (w : ℕ) (q : Reading) (x : Found X) → n ≤ length s → w ≡ value (take n s) → q ≡ read w → x ≡ taken of q → x ≡ read_as read n of s
  read_found w q x h e r t = rw (le-leb n (length s) h) (t ∙ ap (taken of) (r ∙ ap read e))

module _ (fits : Bool) (s t : List ℕ) where
  pub unfit : fits ≡ false → ◌≡◌ {A = WriteLeft} (record { answer = NotWritten; target = t }) (wrote fits s t)
  unfit e = rw e

  pub no_room : length t < length s → ◌≡◌ {A = WriteLeft} (record { answer = NotWritten; target = t }) (wrote fits s t)
  no_room h = rw (lt-leb (length s) (length t) h) (go fits)
    where
      go : (b : Bool) → ◌≡◌ {A = WriteLeft} (record { answer = NotWritten; target = t }) (cond (b && false) (record { answer = Done; target = put t s }) (record { answer = NotWritten; target = t }))
      go true = refl
      go false = refl

  pub done : (x : List ℕ) → fits ≡ true → length s ≤ length t → x ≡ put t s → ◌≡◌ {A = WriteLeft} (record { answer = Done; target = x }) (wrote fits s t)
  done x e h p = rw (e, le-leb (length s) (length t) h, p)

-- data bits that fit are all written
pub fitted : (fits : Bool) (n k d : ℕ) (t : List ℕ) → (fits ≡ true → d < 2 ^ k) → wrote fits (octets n (protected (d % 2 ^ k))) t ≡ wrote fits (octets n (protected d)) t
fitted true n k d t h = ap (λ (x : ℕ). wrote true (octets n (protected x)) t) (mod-eq_of_lt (h refl))
fitted false n k d t h = refl

-- and the word of data bits that fit is that of all of them
pub fitted_word : (fits : Bool) (n k d w : ℕ) (t : List ℕ) → (fits ≡ true → d < 2 ^ k) → w ≡ protected (d % 2 ^ k) → wrote fits (octets n w) t ≡ wrote fits (octets n (protected d)) t
fitted_word fits n k d w t h e = ap (λ (x : ℕ). wrote fits (octets n x) t) e ∙ fitted fits n k d t h
