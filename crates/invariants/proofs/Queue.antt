-- The answers owed are a queue: what is owed is sent once, in order, and nothing is sent that is not owed.
-- Assumes nothing.
use Prim.Native.Nat.{ℕ, zero, suc, ◌+◌, ◌-◌, ◌≤◌, ◌<◌}
use mathlib.Core.Path.{◌≡◌, ◌∙◌, refl, sym, ap}
use mathlib.Core.List.{List, [], ◌∷◌, ◌++◌, map}
use mathlib.Core.Bool.{Bool, true, false, cond}
use native.Mathlib.Omega.{arith}
use native.Mathlib.Numerals.{add-one}
use lib.ListN.{length, get_or, take, drop, set, replicate, length-append}
use lib.Seq.{take-suc-set, take-append-le}
use lib.Dec.{eqb, eqb-suc-zero}
use borrow.Author.Tests.{lt-leb, le-leb}
use Rattle.ids.specs.declared.OnuId.{OnuId}
use Rattle.ploamu.specs.declared.UpstreamMessage.{UpstreamMessage}
use Rattle.link.specs.declared.Owed.{Owed}
use Rattle.link.specs.declared.Queue.{Queue}
use Rattle.link.specs.Limits.{most_owed}
use Rattle.link.specs.Link.{owed_answers, owe, oldest, paid, blank}
use Rattle.replies.specs.Replying.{answering, no_message, in_operation_lem}

abbrev queue : List Owed → ℕ → Queue
queue answers count = record { answers = answers; count = count }

-- ---- statements

-- what n planned PLOAMu bursts send in O5, one after another, and what is owed then
pub sent_by : OnuId → ℕ → Queue → List UpstreamMessage
sent_by onu zero q = []
sent_by onu (suc n) q = in_operation_lem onu q ∷ sent_by onu n (paid q)

pub afterwards : ℕ → Queue → Queue
afterwards zero q = q
afterwards (suc n) q = afterwards n (paid q)

-- an answer that is owed comes in at the end, and a ninth is not taken
pub owed_last
    : (q : Queue) (o : Owed) → q.count < most_owed → length q.answers ≡ most_owed → owed_answers (owe q o) ≡ owed_answers q ++ (o ∷ [])
owed_last q o h k =
    let e : q.count < length q.answers = omega arith in
    rw (lt-leb most_owed q.count h, add-one q.count) (take-suc-set q.answers q.count o e)

pub ninth_refused : (q : Queue) (o : Owed) → most_owed ≤ q.count → owe q o ≡ q
ninth_refused q o h = rw (le-leb most_owed q.count h)

-- ---- the oldest goes first

left : (n : ℕ) (x : Owed) (xs : List Owed) → n ≤ length xs → owed_answers (paid (queue (x ∷ xs) (suc n))) ≡ take n xs
left n x xs h =
    let e : suc n - 1 ≡ n = omega arith in
    rw (eqb-suc-zero n, e) (take-append-le n xs (blank ∷ []) h)

first
    : (a : List Owed) (n : ℕ) → 0 < n → n ≤ length a
    → owed_answers (queue a n) ≡ oldest (queue a n) ∷ owed_answers (paid (queue a n))
first a zero h k = absurd (omega arith)
first [] (suc n) h k = absurd (omega arith)
first (x ∷ xs) (suc n) h k = let l : n ≤ length xs = omega arith in ap (λ (r : List Owed). x ∷ r) (sym (left n x xs l))

pub oldest-first : (q : Queue) → 0 < q.count → q.count ≤ length q.answers → owed_answers q ≡ oldest q ∷ owed_answers (paid q)
oldest-first q h k = first q.answers q.count h k

-- what is paid still fits
paid-fits : (a : List Owed) (n : ℕ) → n ≤ length a → (paid (queue a n)).count ≤ length (paid (queue a n)).answers
paid-fits a zero h = h
paid-fits [] (suc n) h = absurd (omega arith)
paid-fits (x ∷ xs) (suc n) h =
    let e : suc n - 1 ≡ n = omega arith in
    rw (eqb-suc-zero n, e) (simp length-append (omega arith))

-- ---- what is sent: the answers owed in their order, each once, and "no message" after them

something_owed : (onu : OnuId) (a : List Owed) (c : ℕ) → in_operation_lem onu (queue a (suc c)) ≡ answering onu (oldest (queue a (suc c)))
something_owed onu a c = rw (eqb-suc-zero c)

pub sent_in_order
    : (onu : OnuId) (n m : ℕ) (a : List Owed) (c : ℕ) → n ≤ m → c ≤ length a
    → sent_by onu n (queue a c) ≡ take n (map (answering onu) (owed_answers (queue a c)) ++ replicate m (no_message onu))
unfolding sent_by
sent_in_order onu zero m a c h k = refl
sent_in_order onu (suc n) zero a c h k = absurd (omega arith)
sent_in_order onu (suc n) (suc m) a zero h k =
    ap (λ (l : List UpstreamMessage). no_message onu ∷ l) (sent_in_order onu n m a zero (omega arith) k)
sent_in_order onu (suc n) (suc m) a (suc c) h k =
    let e = first a (suc c) (omega arith) k in
    let p = paid (queue a (suc c)) in
    let i = sent_in_order onu n (suc m) p.answers p.count (omega arith) (paid-fits a (suc c) k) in
    ap (λ (x : UpstreamMessage). x ∷ sent_by onu n p) (something_owed onu a c)
    ∙ ap (λ (l : List UpstreamMessage). answering onu (oldest (queue a (suc c))) ∷ l) i
    ∙ ap (λ (l : List Owed). take (suc n) (map (answering onu) l ++ replicate (suc m) (no_message onu))) (sym e)

-- .. and what n bursts have sent is no longer owed
pub no_longer_owed : (n : ℕ) (a : List Owed) (c : ℕ) → c ≤ length a → owed_answers (afterwards n (queue a c)) ≡ drop n (owed_answers (queue a c))
unfolding afterwards
no_longer_owed zero a c k = refl
no_longer_owed (suc n) a zero k = no_longer_owed n a zero k ∙ empty n
  where
    empty : (n : ℕ) → drop n (take 0 a) ≡ []
    empty zero = refl
    empty (suc n) = refl
no_longer_owed (suc n) a (suc c) k =
    let p = paid (queue a (suc c)) in
    no_longer_owed n p.answers p.count (paid-fits a (suc c) k)
    ∙ rw (first a (suc c) (omega arith) k)
