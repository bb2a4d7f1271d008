-- A list of frame times, and the upstream words that its bursts take: words are counted from the beginning.
-- Assumes nothing.
use Rattle.std.specs.Prelude.{ℕ, suc, ◌+◌, ◌≤◌, List, [], ◌∷◌, ◌++◌, Bool, ◌&&◌, cond, ltb, leb}
use Rattle.station.specs.Limits.{upstream_words}
use Rattle.entries.specs.declared.Own.{Own}
use Rattle.series.specs.Series.{Series, planned_of, burst_words, last_end, carried_over_lem}

-- a frame time: without a plan (lost, or answered 4 or 5), or with what is ours and the map that arrived
pub data FrameTime : Type 0 where
  dark : FrameTime
  frame : Own → List ℕ → FrameTime

pub record Burst : Type 0 where
  pub from : ℕ
  pub size : ℕ

abbrev pub finish : Burst → ℕ
finish b = b.from + b.size

-- the series planned in a frame time, with so many words carried over
abbrev pub sent : ℕ → FrameTime → List Series
sent carried dark = []
sent carried (frame own m) = planned_of own m carried

-- "At the next frame time, lost or not and in every state, the words carried over are the part of the last burst beyond
-- word 9,719"
abbrev pub carry : ℕ → FrameTime → ℕ
carry carried t = carried_over_lem (last_end carried (sent carried t))

-- the bursts of series in an upstream frame that begins at the word o
abbrev pub bursts : ℕ → List Series → List Burst
bursts o [] = []
bursts o (s ∷ l) = record { from = o + s.head.start; size = burst_words s } ∷ bursts o l

-- the bursts of frame times one after another, the first of which begins at the word o
abbrev pub bursts_of : ℕ → ℕ → List FrameTime → List Burst
bursts_of o carried [] = []
bursts_of o carried (t ∷ l) = bursts o (sent carried t) ++ bursts_of (o + upstream_words) (carry carried t) l

-- the burst takes the word x
abbrev pub takes : ℕ → Burst → Bool
takes x b = leb b.from x && ltb x (finish b)

-- how many of the bursts take the word x
abbrev pub takers : ℕ → List Burst → ℕ
takers x [] = 0
takers x (b ∷ l) = cond (takes x b) (suc (takers x l)) (takers x l)

-- each begins where the one before has ended or later, the first at e or later
abbrev pub Apart : ℕ → List Burst → Type 0
Apart e [] = Unit {0}
Apart e (b ∷ l) = (e ≤ b.from) × Apart (finish b) l
