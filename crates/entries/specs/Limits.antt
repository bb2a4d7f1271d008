-- The numbers of clause 8.1.2 that an allocation structure is judged by.
-- Assumes nothing.
use Rattle.std.specs.Prelude.{ℕ, ◌-◌}
use Rattle.station.specs.Limits.{upstream_words}

-- an allocation structure has 64 bits
abbrev pub structure_octets : ℕ
structure_octets = 8

-- "A head has StartTime at most 9,719"
abbrev pub last_start : ℕ
last_start = upstream_words - 1

-- "65,535 continues the burst"
abbrev pub continuing : ℕ
continuing = 65535
