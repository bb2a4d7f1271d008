-- What is put behind what was put.
-- Assumes nothing.
use mathlib.Core.Path.{◌≡◌, refl, sym, ap, ◌∙◌}
use mathlib.Core.Bool.{Bool, true, false}
use mathlib.Core.List.{List, [], ◌∷◌, ◌++◌, append_assoc}
use Prim.Native.Nat.{ℕ, suc, ◌+◌, min, max, ◌≤◌, ◌<◌}
use native.Mathlib.Omega.{arith}
use native.Mathlib.Nat.{add-zero, zero-add}
use lib.Dec.{leb}
use lib.ListN.{length, take, drop, get_or, set, length-append, drop_of_length-le}
use lib.Seq.{sets, sets-eq, length-sets, set_out, drop-cons, take-append_seam}
use borrow.Author.Tests.{leb-true, leb-false}
use Rattle.text.specs.Texts.{Added, added}

sets_append : (a b l : List ℕ) (i : ℕ) → sets l i (a ++ b) ≡ sets (sets l i a) (i + length a) b
sets_append [] b l i = ap (λ k. sets l k b) (sym (add-zero i))
sets_append (x ∷ a) b l i =
    let n : suc i + length a ≡ i + suc (length a) = omega arith in
    sets_append a b (set l i x) (suc i) ∙ ap (λ k. sets (sets (set l i x) (suc i) a) k b) n

-- nothing is stored past the end
sets_out : (s l : List ℕ) (i : ℕ) → length l ≤ i → sets l i s ≡ l
sets_out [] l i h = refl
sets_out (x ∷ s) l i h = ap (λ m. sets m (suc i) s) (set_out l i x h) ∙ sets_out s l (suc i) (omega arith)

abbrev behind : ℕ → ℕ → ℕ → ℕ
behind at n end = max at (min (at + n) end)

-- what is put behind a part that is there whole, or cut off
sets_next : (l : List ℕ) (at : ℕ) (a b : List ℕ) → sets (sets l at a) (behind at (length a) (length l)) b ≡ sets l at (a ++ b)
sets_next l at a b = go (leb (at + length a) (length l)) refl ∙ sym (sets_append a b l at)
  where
    m : List ℕ
    m = sets l at a

    go : (t : Bool) → leb (at + length a) (length l) ≡ t → sets m (behind at (length a) (length l)) b ≡ sets m (at + length a) b
    go true e =
        let h : at + length a ≤ length l = leb-true (at + length a) (length l) e in
        let n : behind at (length a) (length l) ≡ at + length a = omega arith in
        ap (λ k. sets m k b) n
    go false e =
        let h : length l < at + length a = leb-false (at + length a) (length l) e in
        let n : length m ≡ length l = length-sets l at a in
        sets_out b m (behind at (length a) (length l)) (omega arith) ∙ sym (sets_out b m (at + length a) (omega arith))

place-next : (l : List ℕ) (at : ℕ) (a b : List ℕ)
    → behind (behind at (length a) (length l)) (length b) (length (sets l at a)) ≡ behind at (length (a ++ b)) (length l)
place-next l at a b = simp (length-append, length-sets) (omega arith)

-- a part behind a part
pub added_next : (l : List ℕ) (at : ℕ) (a b : List ℕ) (x y : Added) → x ≡ added l at a → y ≡ added x.text x.place b
    → y ≡ added l at (a ++ b)
unfolding added
added_next l at a b x y e f =
    f ∙ ap (λ z. added z.text z.place b) e ∙ (λ i. record { text = sets_next l at a b i; place = place-next l at a b i })

pub added-three : (l : List ℕ) (at : ℕ) (a b c : List ℕ) (x y z : Added) → x ≡ added l at a → y ≡ added x.text x.place b
    → z ≡ added y.text y.place c
    → z ≡ added l at (a ++ b ++ c)
added-three l at a b c x y z e f g = added_next l at (a ++ b) c y z (added_next l at a b x y e f) g

pub added-four : (l : List ℕ) (at : ℕ) (a b c d : List ℕ) (w x y z : Added) → w ≡ added l at a → x ≡ added w.text w.place b
    → y ≡ added x.text x.place c
    → z ≡ added y.text y.place d
    → z ≡ added l at (a ++ b ++ c ++ d)
added-four l at a b c d w x y z e f g h = added_next l at (a ++ b ++ c) d y z (added-three l at a b c w x y e f g) h

-- nothing put is nothing changed
pub added_none : (x : Added) → x ≡ added x.text x.place []
unfolding added
added_none x =
    let place : x.place ≡ behind x.place 0 (length x.text) = omega arith in
    λ i. record { text = x.text; place = place i }

-- ---- one octet

pub octet-stored : (l : List ℕ) (at o : ℕ) → at < length l → ◌≡◌ {A = Added} (record { text = set l at o; place = at + 1 }) (added l at (o ∷ []))
unfolding added
octet-stored l at o h =
    let place : at + 1 ≡ behind at 1 (length l) = omega arith in
    λ i. record { text = set l at o; place = place i }

pub octet-cut : (l : List ℕ) (at o : ℕ) → length l ≤ at → ◌≡◌ {A = Added} (record { text = l; place = at }) (added l at (o ∷ []))
unfolding added
octet-cut l at o h =
    let place : at ≡ behind at 1 (length l) = omega arith in
    λ i. record { text = sym (set_out l at o h) i; place = place i }

-- ---- where there is room

-- the text is as long as it was
pub length-added : (l : List ℕ) (at : ℕ) (s : List ℕ) → length (added l at s).text ≡ length l
unfolding added
length-added l at s = length-sets l at s

-- the place does not leave the text
pub place-within : (l : List ℕ) (at : ℕ) (s : List ℕ) → at ≤ length l → (added l at s).place ≤ length l
unfolding added
place-within l at s h = omega arith

pub added-fits : (l : List ℕ) (at : ℕ) (s : List ℕ) → at + length s ≤ length l
    → ◌≡◌ {A = Added} (added l at s) (record { text = take at l ++ (s ++ drop (at + length s) l); place = at + length s })
unfolding added
added-fits l at s h =
    let text : sets l at s ≡ take at l ++ (s ++ drop (at + length s) l) =
    sets-eq s l at h ∙ append_assoc (take at l) s (drop (at + length s) l) in
    let place : behind at (length s) (length l) ≡ at + length s = omega arith in
    λ i. record { text = text i; place = place i }

-- what is put into the front of a text that has room for it is what stands there
pub whole : (l s : List ℕ) (x : Added) → x ≡ added l 0 s → length s ≤ length l → (take x.place x.text ≡ s) × (x.place ≤ length x.text)
whole l s x e h =
    let f : x ≡ record { text = s ++ drop (0 + length s) l; place = 0 + length s } = e ∙ added-fits l 0 s (omega arith) in
    let p : x.place ≡ length s = ap (λ z. z.place) f ∙ zero-add (length s) in
    let n : length x.text ≡ length l = ap (λ z. length z.text) e ∙ length-added l 0 s in (
      ap (λ z. take z.place z.text) f ∙ ap (λ k. take k (s ++ drop (0 + length s) l)) (zero-add (length s)) ∙ take-append_seam s (drop (0 + length s) l),
      omega (arith, p, n),
    )

-- ---- a word, octet by octet

pub word-turn : (word : List ℕ) (i : ℕ) (x y whole : Added) → i < length word → y ≡ added x.text x.place (get_or word i 0 ∷ [])
    → added x.text x.place (drop i word) ≡ whole
    → added y.text y.place (drop (i + 1) word) ≡ whole
word-turn word i x y whole h e f =
    let n : suc i ≡ i + 1 = omega arith in
    added_next x.text x.place (get_or word i 0 ∷ []) (drop (i + 1) word) y _ e refl
    ∙ ap (λ k. added x.text x.place (get_or word i 0 ∷ drop k word)) (sym n)
    ∙ ap (added x.text x.place) (sym (drop-cons word i 0 h))
    ∙ f

pub word_end : (word : List ℕ) (i : ℕ) (x whole : Added) → length word ≤ i → added x.text x.place (drop i word) ≡ whole → x ≡ whole
word_end word i x whole h e = added_none x ∙ ap (added x.text x.place) (sym (drop_of_length-le word h)) ∙ e
