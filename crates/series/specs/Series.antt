-- The paper's "Map walk", second half: the series of a map, and which of them are planned.
-- Assumes nothing.
use Rattle.std.specs.Prelude.{ℕ, zero, suc, ◌+◌, ◌-◌, ◌*◌, ◌/◌, Bool, cond, List, [], ◌∷◌, ltb, leb, length, drop}
use Rattle.xgtc.specs.declared.allocation.Allocation.{Allocation}
use Rattle.xgem.specs.Reads.{Found}
use Rattle.xgtc.specs.Reads.{read_allocation_lem}
use Rattle.station.specs.Limits.{upstream_words}
use Rattle.entries.specs.declared.Own.{Own}
use Rattle.entries.specs.declared.Verdict.{Verdict}
use Rattle.entries.specs.declared.Verdict.TheVariants.{Planned, TooLong, Overlapping, AfterTheLast}
use Rattle.entries.specs.declared.Standing.{Standing}
use Rattle.entries.specs.declared.Standing.TheVariants.{Apart, Head, More}
use Rattle.entries.specs.Limits.{structure_octets}
use Rattle.entries.specs.Standings.{standing, is_planned_lem}
use Rattle.series.specs.declared.Around.{Around}
use Rattle.series.specs.Limits.{bursts_a_frame, more_a_burst, words_a_burst, ploamu_words}

-- ---- the entries of a map

-- the i-th entry, read from its mended word
unfoldable pub entry_at : List ℕ → ℕ → Found Allocation
entry_at m i = read_allocation_lem (drop (structure_octets * i) m)

-- a ragged end is no entry
abbrev pub entry_count : List ℕ → ℕ
entry_count m = length m / structure_octets

-- k entries from the i-th on, each by itself
abbrev pub standings_from : Own → List ℕ → ℕ → ℕ → List Standing
standings_from own m i zero = []
standings_from own m i (suc k) = standing own (entry_at m i) ∷ standings_from own m (suc i) k

abbrev pub standings : Own → List ℕ → List Standing
standings own m = standings_from own m 0 (entry_count m)

-- ---- the series

pub record Series : Type 0 where
  pub head : Allocation
  pub more : List Allocation

-- "the entries straight after it that continue and are ours", so many at most
abbrev pub run : ℕ → List Standing → List Allocation
run zero l = []
run (suc k) [] = []
run (suc k) (Apart v ∷ l) = []
run (suc k) (Head a ∷ l) = []
run (suc k) (More a ∷ l) = a ∷ run k l

-- "A series is a head of ours and the entries straight after it"; "a 17th closes it"
abbrev pub series_at : Allocation → List Standing → Series
series_at a l = record { head = a; more = run more_a_burst l }

abbrev pub series_of : List Standing → List Series
series_of [] = []
series_of (Apart v ∷ l) = series_of l
series_of (Head a ∷ l) = series_at a l ∷ series_of l
series_of (More a ∷ l) = series_of l

-- ---- the words of a burst

abbrev pub grants : List Allocation → ℕ
grants [] = 0
grants (a ∷ l) = a.grant + grants l

-- "A burst has 1 word, 12 more if its head has PLOAMu, its GrantSizes, and 1 word": those after the head's come to g
unfoldable pub words_of : Allocation → ℕ → ℕ
words_of h g = 1 + cond h.ploamu ploamu_words 0 + (h.grant + g) + 1

abbrev pub burst_words : Series → ℕ
burst_words s = words_of s.head (grants s.more)

-- the word where it ends
abbrev pub end_of : Series → ℕ
end_of s = s.head.start + burst_words s

-- ---- which are planned

pub record Reason : Type 0 where
  pub applies : Bool
  pub verdict : Verdict

abbrev pub first_of : List Reason → Verdict
first_of [] = Planned
first_of (r ∷ l) = cond r.applies r.verdict (first_of l)

-- what is around a series: the word where the last planned burst ends, and how many the frame has planned before it. As a frame
-- arrives, the words carried over stand for the last burst
abbrev pub outset : ℕ → Around
outset carried = record { end = carried; bursts = 0 }

-- and beyond one that is planned
abbrev pub beyond : Around → Series → Around
beyond around s = record { end = end_of s; bursts = around.bursts + 1 }

-- why a burst of so many words at `start` is passed over: "over 9,720 words; starts before the word where the last planned burst
-- ends; four are planned already"
abbrev pub reasons : Around → ℕ → ℕ → List Reason
reasons around start words =
    record { applies = ltb words_a_burst words; verdict = TooLong }
    ∷ record { applies = ltb start around.end; verdict = Overlapping }
    ∷ record { applies = leb bursts_a_frame around.bursts; verdict = AfterTheLast }
    ∷ []

-- "for the first reason that applies"
unfoldable pub judged : Around → ℕ → ℕ → Verdict
judged around start words = first_of (reasons around start words)

abbrev pub verdict_of : Around → Series → Verdict
verdict_of around s = judged around s.head.start (burst_words s)

-- the series that are planned. One that is passed over moves nothing
abbrev pub planned : Around → List Series → List Series
planned around [] = []
planned around (s ∷ l) = cond (is_planned_lem (verdict_of around s)) (s ∷ planned (beyond around s) l) (planned around l)

-- the word where the last burst ends: that of the frame before, which ends at e, until one is planned
abbrev pub last_end : ℕ → List Series → ℕ
last_end e [] = e
last_end e (s ∷ l) = last_end (end_of s) l

-- "the part of the last burst beyond word 9,719"
abbrev pub carried_over_lem : ℕ → ℕ
carried_over_lem e = e - upstream_words

-- what is planned of a map, with the words carried over from the frame before
abbrev pub planned_of : Own → List ℕ → ℕ → List Series
planned_of own m carried = planned (outset carried) (series_of (standings own m))
