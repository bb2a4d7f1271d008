-- The numbers of the paper that bound a series.
-- Assumes nothing.
use Rattle.std.specs.Prelude.{ℕ, ◌-◌}
use Rattle.station.specs.Limits.{upstream_words}

-- "4 bursts a frame, 16 entries a burst, 9,720 words a burst"
abbrev pub bursts_a_frame : ℕ
bursts_a_frame = 4

abbrev pub entries_a_burst : ℕ
entries_a_burst = 16

-- those that may follow the head
abbrev pub more_a_burst : ℕ
more_a_burst = entries_a_burst - 1

abbrev pub words_a_burst : ℕ
words_a_burst = upstream_words

-- 8.2.2: the words of a PLOAMu, 48 octets
abbrev pub ploamu_words : ℕ
ploamu_words = 12
