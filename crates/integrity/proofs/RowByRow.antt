-- Rows that are laid one behind the other come out again, and their tags are those of the messages.
-- Assumes nothing.
use Prim.Native.Nat.{ℕ, zero, suc, ◌+◌, ◌*◌, ◌/◌, ◌%◌, ◌≤◌, ◌<◌}
use mathlib.Core.Path.{◌≡◌, ◌∙◌, refl, sym, ap, ap₂}
use mathlib.Core.Bool.{Bool, true, false, cond, ◌&&◌}
use mathlib.Core.List.{List, [], ◌∷◌, ◌++◌, append_assoc, append-nil}
use native.Mathlib.Nat.{mul-div_cancel, mul_comm}
use native.Mathlib.Numerals.{add-one}
use native.Mathlib.Omega.{arith}
use native.Mathlib.Decide.{dec_lt}
use borrow.Author.Tests.{lt-ltb, le-ltb, lt-leb}
use borrow.Author.Count.{below_more}
use lib.Dec.{ltb, leb}
use lib.ListN.{length, set, take, drop, replicate, length-take, length-drop}
use lib.Seq.{paste, length-paste, take-take, take_at, drop_at, take_all, length-take-le, take-suc-set, drop-set-lt}
use Rattle.aes.specs.Cipher.{at}
use Rattle.aes.specs.Words.{octets_of}
use Rattle.aes.specs.Blocks.{block_in}
use Rattle.aes.specs.declared.Words.{Words}
use Rattle.aes.proofs.Each.{block_worked}
use Rattle.cmac.specs.Tags.{message_of, tag_by, tags_by, mac64_by}
use Rattle.cmac.specs.declared.Prepared.{Prepared}
use Rattle.ploam.specs.Layout.{covered_octets, message_at, mic_field}
use Rattle.integrity.specs.Integrity.{covered, same, mic_right_by}
use Rattle.integrity.specs.Rows.{covered_in, Rows, has_field}
use Rattle.integrity.specs.declared.Direction.TheVariants.{Downstream}

-- what stands in a front of a list stands in the list
within_front : (n k m : ℕ) (l : List ℕ) → k + n ≤ m → take n (drop k (take m l)) ≡ take n (drop k l)
within_front n zero m l h = take-take n m l (omega arith)
within_front n (suc k) zero l h = absurd (omega arith)
within_front n (suc k) (suc m) [] h = refl
within_front n (suc k) (suc m) (x ∷ l) h = within_front n k m l (omega arith)

laid : (d s : List ℕ) (at n : ℕ) → paste d at s n ≡ take at d ++ (take n s ++ drop (at + n) d)
laid d s at n = append_assoc (take at d) (take n s) (drop (at + n) d)

-- a code and what follows it
pub code_first : (d m : List ℕ) (code at : ℕ) → at + 41 ≤ length d
    → paste (set d at code) (at + 1) (take 40 m) 40 ≡ paste d at (code ∷ take 40 m) 41
code_first d m code at h =
    let e : at + 1 + 40 ≡ at + 41 = omega arith in
    laid (set d at code) (take 40 m) (at + 1) 40
    ∙ ap₂ ◌++◌ (ap (λ (k : ℕ). take k (set d at code)) (add-one at) ∙ take-suc-set d at code (omega arith))
    (ap (◌++◌ (take 40 (take 40 m))) (ap (λ (k : ℕ). drop k (set d at code)) e ∙ drop-set-lt (at + 41) d at code (omega arith)))
    ∙ append_assoc (take at d) (code ∷ []) (take 40 (take 40 m) ++ drop (at + 41) d)
    ∙ sym (laid d (code ∷ take 40 m) at 41)

-- alone
pub fresh : (code : ℕ) (m : List ℕ) → 40 ≤ length m → paste (replicate 41 0) 0 (code ∷ take 40 m) 41 ≡ code ∷ take 40 m
fresh code m h =
    append-nil (take 41 (code ∷ take 40 m)) ∙ take_all 41 (code ∷ take 40 m) (omega (arith, length-take-le 40 m h))

-- a row that was laid
row_own : (d s : List ℕ) (j : ℕ) → length s ≡ 41 → j * 41 + 41 ≤ length d → message_of (paste d (j * 41) s 41) 41 j ≡ s
row_own d s j ls h =
    let e : length (take (j * 41) d) ≡ j * 41 = length-take-le (j * 41) d (omega arith) in
    let f : length (take 41 s) ≡ 41 = length-take-le 41 s (omega arith) in
    ap (λ (x : List ℕ). take 41 (drop (j * 41) x)) (laid d s (j * 41) 41)
    ∙ ap (take 41) (drop_at (take (j * 41) d) (take 41 s ++ drop (j * 41 + 41) d) (j * 41) e)
    ∙ take_at (take 41 s) (drop (j * 41 + 41) d) 41 f
    ∙ take_all 41 s (omega arith)

-- and one before it
row_before : (d s : List ℕ) (j k : ℕ) → k < j → j * 41 + 41 ≤ length d → message_of (paste d (j * 41) s 41) 41 k ≡ message_of d 41 k
row_before d s j k hk h =
    let e : length (take (j * 41) d) ≡ j * 41 = length-take-le (j * 41) d (omega arith) in
    let inside : k * 41 + 41 ≤ j * 41 = omega arith in
    sym (within_front 41 (k * 41) (j * 41) (paste d (j * 41) s 41) inside)
    ∙ ap (λ (p : List ℕ). take 41 (drop (k * 41) p))
    (ap (take (j * 41)) (laid d s (j * 41) 41) ∙ take_at (take (j * 41) d) (take 41 s ++ drop (j * 41 + 41) d) (j * 41) e)
    ∙ within_front 41 (k * 41) (j * 41) d inside

pub whole_message : (b : List ℕ) (p : ℕ) → p < length b / 48 → length (message_at b p) ≡ 48
whole_message b p h = length-take-le 48 (drop (48 * p) b) (omega (arith, length-drop (48 * p) b))

length-covered : (b : List ℕ) (p : ℕ) → p < length b / 48 → length (covered Downstream (message_at b p)) ≡ 41
length-covered b p h =
    ap suc (length-take-le covered_octets (message_at b p) (omega (arith, whole_message b p h)))

-- one row more
pub covered_more : (b places d r : List ℕ) (j p : ℕ) → p ≡ at places j → r ≡ covered_in b p d (j * 41) → j * 41 + 41 ≤ length d
    → Rows b places j d → Rows b places (j + 1) r
covered_more b places d r j p ep er h f =
    below_more (λ (k : ℕ). at places k < length b / 48 → message_of r 41 k ≡ covered Downstream (message_at b (at places k))) j
    (λ k hk hp. ap (λ (x : List ℕ). message_of x 41 k) er ∙ kept k hk (ltb p (length b / 48)) ∙ f k hk hp)
    (λ hp.
    let s = covered Downstream (message_at b p) in
    let hq : p < length b / 48 = rw ep hp in
    ap (λ (x : List ℕ). message_of x 41 j) (er ∙ ap (λ (t : Bool). cond t (paste d (j * 41) s 41) d) (lt-ltb p (length b / 48) hq))
    ∙ row_own d s j (length-covered b p hq) h
    ∙ ap (λ (x : ℕ). covered Downstream (message_at b x)) ep)
  where
    kept : (k : ℕ) → k < j → (t : Bool) → message_of (cond t (paste d (j * 41) (covered Downstream (message_at b p)) 41) d) 41 k ≡ message_of d 41 k
    kept k hk true = row_before d (covered Downstream (message_at b p)) j k hk h
    kept k hk false = refl

pub length_covered_in : (b d r : List ℕ) (p at : ℕ) → r ≡ covered_in b p d at → at + 41 ≤ length d → length r ≡ length d
length_covered_in b d r p at e h = ap length e ∙ go (dec_lt p (length b / 48))
  where
    go : Dec (p < length b / 48) → length (covered_in b p d at) ≡ length d
    go (yes l) =
        let s = covered Downstream (message_at b p) in
        ap (λ (t : Bool). length (cond t (paste d at s 41) d)) (lt-ltb p (length b / 48) l)
        ∙ length-paste d at s 41 h (omega (arith, length-covered b p l))
    go (no l) = ap (λ (t : Bool). length (cond t (paste d at (covered Downstream (message_at b p)) 41) d)) (le-ltb p (length b / 48) (omega arith))

pub short_message : (b : List ℕ) (p : ℕ) → length b / 48 ≤ p → length (message_at b p) < 48
short_message b p h = simp (length-take, length-drop) (omega arith)

-- a field that is the right one where the message is whole
either : {p n : ℕ} (m mic right : List ℕ) → (p < n → mic ≡ right) → (n ≤ p → length m < 48) → Dec (p < n)
    → has_field mic m ≡ (leb 48 (length m) && same (mic_field m) right)
either m mic right f g (yes q) = ap (λ (x : List ℕ). leb 48 (length m) && same (mic_field m) x) (f q)
either m mic right f g (no q) = rw (lt-leb 48 (length m) (g (omega arith)))

-- the tag of a row is that of its message
module _ (key : Prepared) (b places rows ts : List ℕ) (n : ℕ) (f : Rows b places n rows) (hn : 0 < n) (h8 : n ≤ 8) (l : n * 41 ≤ length rows)
    (et : ts ≡ tags_by key (take (n * 41) rows) n) where
  size : length (take (n * 41) rows) / n ≡ 41
  size = ap (λ (k : ℕ). k / n) (length-take-le (n * 41) rows l ∙ mul_comm n 41) ∙ mul-div_cancel 41 hn

  tag_row : (j : ℕ) → j < n → block_in ts j ≡ tag_by key (message_of rows 41 j)
  unfolding tags_by
  tag_row j hj =
      ap (λ (x : List ℕ). block_in x j) et
      ∙ block_worked 0 n (λ k x. tag_by key (message_of (take (n * 41) rows) (length (take (n * 41) rows) / n) k)) (replicate 32 0) j hj (omega arith)
      ∙ ap₂ (λ (m k : ℕ). tag_by key (message_of (take (n * 41) rows) m k)) size (zero-and j)
      ∙ ap (tag_by key) (within_front 41 (j * 41) (n * 41) rows (omega arith))
    where
      zero-and : (k : ℕ) → 0 + k ≡ k
      zero-and k = omega arith

  -- so what is found by it is right
  pub found_right : (j : ℕ) (w : Words) (mic : List ℕ) (r : Bool) → j < n → w ≡ block_in ts (j % 8) → mic ≡ take 8 (octets_of w)
      → r ≡ has_field mic (message_at b (at places j)) → r ≡ mic_right_by key Downstream (message_at b (at places j))
  unfolding mic_right_by
  found_right j w mic r hj ew em er =
      let m = message_at b (at places j) in
      let small : j % 8 ≡ j = omega arith in
      let tagged : at places j < length b / 48 → mic ≡ mac64_by key (covered Downstream m) =
      λ q. em ∙ ap (λ (x : Words). take 8 (octets_of x)) (ew ∙ ap (block_in ts) small ∙ tag_row j hj ∙ ap (tag_by key) (f j hj q))
      in
      er ∙ either m mic (mac64_by key (covered Downstream m)) tagged (short_message b (at places j)) (dec_lt (at places j) (length b / 48))
