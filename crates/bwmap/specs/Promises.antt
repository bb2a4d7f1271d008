-- What is promised of the plan of one map, in words that a reader of the paper can check.
-- Assumes nothing.
use Rattle.std.specs.Prelude.{ℕ, ◌+◌, ◌≤◌, ◌<◌, true, false, List, [], ◌∷◌, length}
use Rattle.xgtc.specs.declared.allocation.Allocation.{Allocation}
use Rattle.entries.specs.Limits.{last_start}
use Rattle.entries.specs.declared.Own.{Own}
use Rattle.entries.specs.declared.Verdict.{Verdict}
use Rattle.entries.specs.declared.Verdict.TheVariants.{Planned, Unreadable, StartTimeUnfit, DbruWithoutRoom, Foreign, ContinuingNothing, Seventeenth, TooLong, Overlapping, AfterTheLast, Silent}
use Rattle.entries.specs.Standings.{Mine}
use Rattle.series.specs.Limits.{words_a_burst, bursts_a_frame, entries_a_burst}
use Rattle.series.specs.declared.Around.{Around}
use Rattle.series.specs.Series.{Series, entry_at, entry_count, burst_words, beyond}

-- ---- whose a series is

-- the entries from the i-th on are these, and each continues and is ours
abbrev pub Follow : Own → List ℕ → ℕ → List Allocation → Type 0
Follow own m i [] = Unit {0}
Follow own m i (a ∷ l) = (i < entry_count m) × Mine own (entry_at m i) a true × Follow own m (i + 1) l

-- one series of the map: a head of ours, and entries of ours straight after it
pub record SeriesIn (own : Own) (m : List ℕ) (s : Series) : Type 0 where
  pub at : ℕ
  pub lies : at < entry_count m
  pub head : Mine own (entry_at m at) s.head false
  pub more : Follow own m (at + 1) s.more
  pub few : length s.more + 1 ≤ entries_a_burst
  pub start : s.head.start ≤ last_start

abbrev pub Every : (Series → Type 0) → List Series → Type 0
Every P [] = Unit {0}
Every P (s ∷ l) = P s × Every P l

-- ---- why a series is planned or not

-- the fact behind each verdict on a series, with nothing earlier in the list of reasons
abbrev pub Because : Around → Series → Verdict → Type 0
Because around s TooLong = words_a_burst < burst_words s
Because around s Overlapping = (burst_words s ≤ words_a_burst) × (s.head.start < around.end)
Because around s AfterTheLast = (burst_words s ≤ words_a_burst) × (around.end ≤ s.head.start) × (bursts_a_frame ≤ around.bursts)
Because around s Planned = (burst_words s ≤ words_a_burst) × (around.end ≤ s.head.start) × (around.bursts < bursts_a_frame)
Because around s Unreadable = ⊥
Because around s StartTimeUnfit = ⊥
Because around s DbruWithoutRoom = ⊥
Because around s Foreign = ⊥
Because around s ContinuingNothing = ⊥
Because around s Seventeenth = ⊥
Because around s Silent = ⊥

-- a plan accounts for every series of ours, in map order: it is planned once, or passed over for its first reason and
-- then moves nothing
pub data Account : Around → List Series → List Series → Type 0 where
  done : {around : Around} → Account around [] []
  plans : {around : Around} {s : Series} {l p : List Series} → Because around s Planned → Account (beyond around s) l p → Account around (s ∷ l) (s ∷ p)
  too_long : {around : Around} {s : Series} {l p : List Series} → Because around s TooLong → Account around l p → Account around (s ∷ l) p
  overlapping : {around : Around} {s : Series} {l p : List Series} → Because around s Overlapping → Account around l p → Account around (s ∷ l) p
  after_the_last : {around : Around} {s : Series} {l p : List Series} → Because around s AfterTheLast → Account around l p → Account around (s ∷ l) p
