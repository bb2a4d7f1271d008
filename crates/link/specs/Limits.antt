-- The numbers of the paper that bound what a head end gives and is owed.
-- Assumes nothing.
use Rattle.std.specs.Prelude.{ℕ}

-- "At most 16 added Alloc-IDs, 8 owed answers"
abbrev pub added_allocs : ℕ
added_allocs = 16

abbrev pub most_owed : ℕ
most_owed = 8

-- 15.6.2: octets of a key
abbrev pub key_octets : ℕ
key_octets = 16
