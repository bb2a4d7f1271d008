-- Records one after another.
-- Assumes nothing.
use Rattle.std.proofs.Common.{◌≡◌, ℕ, zero, suc, ◌+◌, ◌-◌, ◌*◌, ◌<◌, ◌≤◌, List, [], ◌∷◌, ◌++◌, length, take, drop, sym, refl, ap, ◌∙◌, add-zero, arith, length-append, drop-drop}
use native.Mathlib.Nat.{sub-zero, add-sub_cancel_left}
use Rattle.payload.specs.Memory.{put}
use Rattle.payload.proofs.Put.{put-put}
use Rattle.trace.specs.Records.{records}
use Rattle.trace.specs.Runs.{Shown, after, lines_of, step, shown_by, shown}
use Rattle.trace.proofs.Steps.{put-nothing}

-- records that follow what is shown
abbrev pub shown_from : Shown → List (List ℕ) → Shown
shown_from s l = shown s.at l s.text s.place

pub shown_none : (s : Shown) → s ≡ shown_from s []
unfolding shown
shown_none s = λ i. record { at = s.at; text = put-nothing s.text s.place i; place = sym (add-zero s.place) i }

pub shown-next : (s : Shown) (x : List ℕ) (l : List (List ℕ)) → s.place ≤ length s.text
    → shown_from (shown_by (step s.at x) s.text s.place) l ≡ shown_from s (x ∷ l)
unfolding shown
shown-next s x l h =
    let line : List ℕ = (step s.at x).line in
    let rest : List ℕ = lines_of (step s.at x).at l in
    let et : put (put s.text s.place line) (s.place + length line) rest ≡ put s.text s.place (line ++ rest) =
    put-put s.text s.place line rest (s.place + length line) refl h in
    let ep : s.place + length line + length rest ≡ s.place + length (line ++ rest) = simp length-append (omega arith) in
    λ i. record { at = after (step s.at x).at l; text = et i; place = ep i }

-- a turn of the loop
pub block-turn : (input : List ℕ) (count i : ℕ) (s t : Shown) → i < count → s.place ≤ length s.text
    → t ≡ shown_by (step s.at (take (i * 1024 + 1024 - i * 1024) (drop (i * 1024) input))) s.text s.place
    → shown_from t (records (count - (i + 1)) (drop ((i + 1) * 1024) input)) ≡ shown_from s (records (count - i) (drop (i * 1024) input))
block-turn input count i s t h k e =
    let d : List ℕ = drop (i * 1024) input in
    let l : List (List ℕ) = records (count - (i + 1)) (drop 1024 d) in
    let n : i * 1024 + 1024 ≡ (i + 1) * 1024 = omega arith in
    let c : suc (count - (i + 1)) ≡ count - i = omega arith in
    ap (λ z. shown_from t (records (count - (i + 1)) z)) (ap (λ m. drop m input) (sym n) ∙ sym (drop-drop 1024 (i * 1024) input))
    ∙ ap (λ z. shown_from z l) (e ∙ ap (λ m. shown_by (step s.at (take m d)) s.text s.place) (add-sub_cancel_left (i * 1024) 1024))
    ∙ shown-next s (take 1024 d) l k
    ∙ ap (λ m. shown_from s (records m d)) c

-- the loop's end
pub block_end : (input : List ℕ) (count i : ℕ) (s t : Shown) → count ≤ i → shown_from s (records (count - i) (drop (i * 1024) input)) ≡ t → s ≡ t
block_end input count i s t h e =
    let z : zero ≡ count - i = omega arith in
    shown_none s ∙ ap (λ m. shown_from s (records m (drop (i * 1024) input))) z ∙ e

-- its start
pub block_start : (input : List ℕ) (count : ℕ) (s : Shown) → shown_from s (records (count - 0) (drop (0 * 1024) input)) ≡ shown_from s (records count input)
block_start input count s = ap (λ m. shown_from s (records m input)) (sub-zero count)
