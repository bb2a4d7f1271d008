-- What is printed does not depend on how the input is cut into reads.
-- Assumes nothing.
use Rattle.std.proofs.Common.{◌≡◌, ℕ, zero, suc, ◌+◌, ◌-◌, ◌*◌, ◌/◌, ◌<◌, ◌≤◌, false, eqb, List, [], ◌∷◌, ◌++◌, length, take, drop, sym, refl, ap, ◌∙◌, ap₂, append_assoc, append-nil, zero-add, arith, length-append, length-drop, take_all, drop-drop, take_at, ne_eqb}
use lib.Seq.{drop-append-le}
use Rattle.payload.specs.Memory.{put}
use Rattle.trace.specs.Lines.{bad_line}
use Rattle.trace.specs.Records.{kind_of, records, whole_records, left, records_of_lem}
use Rattle.trace.specs.Runs.{At, step, after, lines_of, powered, turned, trace_of}
use Rattle.trace.specs.Sessions.{joined, written_from, written_of}
use Rattle.trace.proofs.Turns.{records_front}

-- ---- records of what stands one behind the other

records-add : (j k : ℕ) (l : List ℕ) → records (j + k) l ≡ records j l ++ records k (drop (j * 1024) l)
records-add zero k l = ap (λ n. records n l) (zero-add k)
records-add (suc j) k l =
    let n : suc j + k ≡ suc (j + k) = omega arith in
    let m : 1024 + j * 1024 ≡ suc j * 1024 = omega arith in
    ap (λ z. records z l) n
    ∙ ap (λ z. take 1024 l ∷ z) (records-add j k (drop 1024 l) ∙ ap (λ z. records j (drop 1024 l) ++ records k z) (drop-drop (j * 1024) 1024 l ∙ ap (λ z. drop z l) m))

records-before : (k : ℕ) (b c : List ℕ) → k * 1024 ≤ length b → records k (b ++ c) ≡ records k b
records-before k b c h =
    let n : length b ≤ length (b ++ c) = simp length-append (omega arith) in
    sym (records_front k (length b) (b ++ c) h n) ∙ ap (records k) (take_at b c (length b) refl)

records-cut : (b c : List ℕ) → records_of_lem (b ++ c) ≡ whole_records b ++ records_of_lem (left b ++ c)
unfolding records_of_lem
records-cut b c =
    let w : ℕ = length b / 1024 in
    let h : w * 1024 ≤ length b = omega arith in
    let m : ℕ = (length (left b ++ c) + 1023) / 1024 in
    let e : length (left b ++ c) ≡ length b - w * 1024 + length c = length-append (left b) c ∙ ap (λ n. n + length c) (length-drop (w * 1024) b) in
    let n : (length (b ++ c) + 1023) / 1024 ≡ w + m =
    ap (λ z. (z + 1023) / 1024) (length-append b c) ∙ omega (arith, e) in
    ap (λ z. records z (b ++ c)) n
    ∙ records-add w m (b ++ c)
    ∙ ap₂ (λ x y. x ++ records m y) (records-before w b c h) (drop-append-le (w * 1024) b c h)

-- ---- lines of what stands one behind the other

lines-append : (p : At) (l m : List (List ℕ)) → lines_of p (l ++ m) ≡ lines_of p l ++ lines_of (after p l) m
lines-append p [] m = refl
lines-append p (x ∷ l) m = ap (λ z. (step p x).line ++ z) (lines-append (step p x).at l m) ∙ sym (append_assoc (step p x).line _ _)

written_whole : (p : At) (kept : List ℕ) (l : List (List ℕ)) → written_from p kept l ≡ lines_of p (records_of_lem (kept ++ joined l))
written_whole p kept [] = ap (λ z. lines_of p (records_of_lem z)) (sym (append-nil kept))
written_whole p kept (piece ∷ l) =
    let b : List ℕ = kept ++ piece in
    let q : At = after p (whole_records b) in
    ap (λ z. lines_of p (whole_records b) ++ z) (written_whole q (left b) l)
    ∙ sym (lines-append p (whole_records b) (records_of_lem (left b ++ joined l)))
    ∙ ap (lines_of p) (sym (records-cut b (joined l)))
    ∙ ap (λ z. lines_of p (records_of_lem z)) (append_assoc kept piece (joined l))

-- however the reads cut the input, what is written is what the whole input prints
pub any_cuts : (pieces : List (List ℕ)) → written_of pieces ≡ trace_of (joined pieces)
unfolding trace_of
any_cuts pieces = written_whole powered [] pieces

-- ---- the code's turn is the session's

front_put : (l s : List ℕ) → take (length s) (put l 0 s) ≡ s
unfolding put
front_put l s = take_at s (drop (0 + length s) l) (length s) refl

-- what a turn writes: the front of the text
pub turn-writes : (p : At) (input text : List ℕ) (filled : ℕ)
    → take (turned p input filled text).written (turned p input filled text).text ≡ lines_of p (whole_records (take filled input))
unfolding turned
turn-writes p input text filled = front_put text (lines_of p (whole_records (take filled input)))

-- what it keeps: the front of the input
pub turn_keeps : (p : At) (input text : List ℕ) (filled : ℕ)
    → take (turned p input filled text).kept (turned p input filled text).input ≡ left (take filled input)
unfolding turned
turn_keeps p input text filled = front_put input (left (take filled input))

-- what is kept at the end is one record, or none
pub kept_short : (kept : List ℕ) → 0 < length kept → length kept ≤ 1023 → records_of_lem kept ≡ kept ∷ []
unfolding records_of_lem
kept_short kept h k =
    let n : (length kept + 1023) / 1024 ≡ 1 = omega arith in
    ap (λ z. records z kept) n ∙ ap (λ z. z ∷ []) (take_all 1024 kept (omega arith))

-- and one that short is bad: what the program prints of it is its line
pub kept_bad : (p : At) (kept : List ℕ) → p.run.stopped ≡ false → length kept ≤ 1023 → (step p kept).line ≡ bad_line p.run.number
unfolding step kind_of
kept_bad p kept going h =
    let other : eqb (length kept) 1024 ≡ false = ne_eqb (length kept) 1024 (λ e. omega (arith, e, h)) in
    rw (going, other) refl

pub kept_none : records_of_lem [] ≡ []
unfolding records_of_lem
kept_none = refl
