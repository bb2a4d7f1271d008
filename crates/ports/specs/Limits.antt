-- The numbers of the paper that bound a station's ports.
-- Assumes nothing.
use Rattle.std.specs.Prelude.{ℕ, ◌+◌}

-- "17 slots of 2,048 bytes. Slot 0 is the management port; slots 1 to 16 are for added ports"
abbrev pub added_ports : ℕ
added_ports = 16

abbrev pub slots : ℕ
slots = 1 + added_ports

-- "A total over 2,048 drops the partial"
abbrev pub sdu_bytes : ℕ
sdu_bytes = 2048

-- a slot has room for the longest SDU
abbrev pub slot_bytes : ℕ
slot_bytes = sdu_bytes
