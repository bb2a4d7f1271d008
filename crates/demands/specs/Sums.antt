-- Document 01's "Sums to prove", one table: the theorem `sums` says that each of the twelve rows holds.
-- Assumes nothing.
use Rattle.std.specs.Prelude.{◌≡◌, ℕ}
use Rattle.octets.specs.Octets.{octets}
use Rattle.xgem.specs.Layouts.{payload_size_lem}
use Rattle.xgem.specs.Reads.{fields, unreadable}
use Rattle.xgtc.specs.Reads.{read_hlend_lem}
use Rattle.bwmap.specs.Sums.{Sum8, Sum9, Sum10, Sum11}
use Rattle.decisions.specs.Sums.{Sum12}

-- the four octets of HLend give a BWmap length and a PLOAM count
abbrev pub hlend_gives : ℕ → ℕ → ℕ → Type 0
hlend_gives word bwmap ploam = read_hlend_lem (octets 4 word) ≡ fields (record { bwmap = bwmap; ploam = ploam })

pub record Sums : Type 1 where
  pub sum_1 : hlend_gives 0x00000000 0 0
  pub sum_2 : hlend_gives 0x00002A73 0 1
  pub sum_3 : hlend_gives 0x002013AC 1 0
  pub sum_4 : hlend_gives 0x002039DF 1 1
  -- one and two bits away they read as sum 2
  pub sum_5 : hlend_gives 0x00002A72 0 1 × hlend_gives 0x00002A70 0 1
  pub sum_6 : read_hlend_lem (octets 4 0x00002A74) ≡ unreadable
  -- what a payload of that PLI takes
  pub sum_7 : (payload_size_lem 1 ≡ 8) × (payload_size_lem 8 ≡ 8) × (payload_size_lem 9 ≡ 12) × (payload_size_lem 16383 ≡ 16384)
  -- a plan, what an overlap passes over, what is carried over, and what is too long
  pub sum_8 : Sum8
  pub sum_9 : Sum9
  pub sum_10 : Sum10
  pub sum_11 : Sum11
  -- Relative -1 at equalization delay 0: unchanged, parameter error
  pub sum_12 : Sum12
