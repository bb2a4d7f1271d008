-- No upstream word is taken twice: not within a frame, not by the words carried over, not over any list of frame times.
-- Assumes nothing.
use Prim.Native.Nat.{ℕ, suc, ◌+◌, ◌≤◌, ◌<◌, zero-le}
use mathlib.Core.Path.{◌≡◌, ◌∙◌, refl, ap}
use mathlib.Core.List.{List, [], ◌∷◌, ◌++◌}
use mathlib.Core.Bool.{Bool, true, false, cond, ◌&&◌, false≢true}
use native.Mathlib.Omega.{arith}
use lib.Dec.{leb, ltb}
use borrow.Author.Tests.{lt-leb, ltb-true}
use Rattle.station.specs.Limits.{upstream_words}
use Rattle.entries.specs.declared.Own.{Own}
use Rattle.entries.specs.Standings.{is_planned_lem}
use Rattle.series.specs.declared.Around.{Around}
use Rattle.series.specs.Series.{Series, series_of, standings, planned_of, planned, burst_words, end_of, outset, beyond, last_end, verdict_of}
use Rattle.bwmap.specs.Upstream.{FrameTime, Burst, finish, sent, carry, bursts, bursts_of, takes, takers, Apart}
use Rattle.bwmap.specs.Upstream.FrameTime.{dark, frame}
use Rattle.series.proofs.Judged.{planned_facts}
use Rattle.bwmap.proofs.Kept.{carried_most}

abbrev ends : ℕ → List Burst → ℕ
ends e [] = e
ends e (b ∷ l) = ends (finish b) l

apart_from : (d e : ℕ) (l : List Burst) → d ≤ e → Apart e l → Apart d l
apart_from d e [] h a = tt
apart_from d e (b ∷ l) h a = (omega arith, a.1)

apart-append : (d e : ℕ) (l m : List Burst) → Apart d l → ends d l ≤ e → Apart e m → Apart d (l ++ m)
apart-append d e [] m a h b = apart_from d e m h b
apart-append d e (x ∷ l) m a h b = (a.0, apart-append (finish x) e l m a.1 h b)

-- ---- one frame time

planned-apart : (o : ℕ) (around : Around) (l : List Series) → Apart (o + around.end) (bursts o (planned around l))
planned-apart o around [] = tt
planned-apart o around (s ∷ l) = go (is_planned_lem (verdict_of around s)) refl (planned-apart o (beyond around s) l) (planned-apart o around l)
  where
    go
        : (b : Bool) → is_planned_lem (verdict_of around s) ≡ b → Apart (o + end_of s) (bursts o (planned (beyond around s) l))
        → Apart (o + around.end) (bursts o (planned around l))
        → Apart (o + around.end) (bursts o (cond b (s ∷ planned (beyond around s) l) (planned around l)))
    go true t x y =
        let f = planned_facts around s.head.start (burst_words s) t in
        (omega arith, apart_from (o + s.head.start + burst_words s) (o + end_of s) (bursts o (planned (beyond around s) l)) (omega arith) x)
    go false t x y = y

-- the bursts of a frame begin after the words carried over, each where the one before has ended or later
pub frame_apart : (own : Own) (m : List ℕ) (carried : ℕ) → Apart carried (bursts 0 (planned_of own m carried))
frame_apart own m carried = apart_from carried (0 + carried) (bursts 0 (planned_of own m carried)) (omega arith) (planned-apart 0 (outset carried) (series_of (standings own m)))

ends-bursts : (o e : ℕ) (l : List Series) → ends (o + e) (bursts o l) ≡ o + last_end e l
ends-bursts o e [] = refl
ends-bursts o e (s ∷ l) =
    let h : o + s.head.start + burst_words s ≡ o + end_of s = omega arith in
    ap (λ (z : ℕ). ends z (bursts o l)) h ∙ ends-bursts o (end_of s) l

-- ---- frame times one after another

sent-apart : (o carried : ℕ) (t : FrameTime) → Apart (o + carried) (bursts o (sent carried t))
sent-apart o carried dark = tt
sent-apart o carried (frame own m) = planned-apart o (outset carried) (series_of (standings own m))

pub times-apart : (o carried : ℕ) (l : List FrameTime) → Apart (o + carried) (bursts_of o carried l)
times-apart o carried [] = tt
times-apart o carried (t ∷ l) =
    apart-append (o + carried) (o + upstream_words + carry carried t) (bursts o (sent carried t)) _ (sent-apart o carried t)
    (omega (arith, ends-bursts o carried (sent carried t)))
    (times-apart (o + upstream_words) (carry carried t) l)

-- a frame time leaves at most 9,719 words
pub carry-most : (carried : ℕ) (t : FrameTime) → carried < upstream_words → carry carried t < upstream_words
carry-most carried dark h = omega arith
carry-most carried (frame own m) h = carried_most own m carried h

-- ---- a word has at most one taker

none_before : (x e : ℕ) (l : List Burst) → x < e → Apart e l → takers x l ≡ 0
none_before x e [] h a = refl
none_before x e (b ∷ l) h a = rw (lt-leb b.from x (omega arith)) (none_before x (finish b) l (omega arith) a.1)

second : (p q : Bool) → (p && q) ≡ true → q ≡ true
second true q h = h
second false q h = absurd (false≢true h)

pub at_most_one : (x e : ℕ) (l : List Burst) → Apart e l → takers x l ≤ 1
at_most_one x e [] a = zero-le
at_most_one x e (b ∷ l) a = go (takes x b) refl (at_most_one x (finish b) l a.1)
  where
    go : (t : Bool) → takes x b ≡ t → takers x l ≤ 1 → cond t (suc (takers x l)) (takers x l) ≤ 1
    go true h ih = omega (arith, none_before x (finish b) l (ltb-true x (finish b) (second (leb b.from x) (ltb x (finish b)) h)) a.1)
    go false h ih = ih

-- over any list of frame times no upstream word is taken twice, whatever is carried over at the start
pub no_word_twice : (carried : ℕ) (l : List FrameTime) (x : ℕ) → takers x (bursts_of 0 carried l) ≤ 1
no_word_twice carried l x = at_most_one x (0 + carried) (bursts_of 0 carried l) (times-apart 0 carried l)
