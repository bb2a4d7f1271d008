-- A series as its entries are read one after another.
-- Assumes nothing.
use Rattle.std.specs.Prelude.{◌+◌, ◌*◌, ◌≤◌, ◌<◌, Bool, ◌&&◌, ltb, leb}
use Rattle.xgtc.specs.declared.allocation.Allocation.{Allocation}
use Rattle.entries.specs.Standings.{is_planned_lem}
use Rattle.series.specs.Limits.{entries_a_burst, more_a_burst}
use Rattle.series.specs.Series.{words_of, judged}
use Rattle.series.specs.declared.Around.{Around}
use Rattle.series.specs.declared.Open.{Open}

abbrev pub closed : Open
closed = record { entries = 0; start = 0; words = 0 }

abbrev pub opened : Allocation → Open
opened h = record { entries = 1; start = h.start; words = words_of h 0 }

abbrev pub joined : Open → Allocation → Open
joined s a = record { entries = s.entries + 1; start = s.start; words = s.words + a.grant }

-- one is open, and has room for one more
unfoldable pub goes_on_lem : Open → Bool
goes_on_lem s = ltb 0 s.entries && leb s.entries more_a_burst

-- one is open, and is planned as it ends
unfoldable pub fits : Around → Open → Bool
fits around s = ltb 0 s.entries && is_planned_lem (judged around s.start s.words)

-- its numbers stay small
pub record Modest (s : Open) : Type 0 where
  pub few : s.entries ≤ entries_a_burst
  pub start : s.start < 65536
  pub words : s.words ≤ 65549 * s.entries
