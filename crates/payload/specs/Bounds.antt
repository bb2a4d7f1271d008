-- The bounds that the walk keeps: there is room for what is still to come.
-- Assumes nothing.
use Rattle.std.specs.Prelude.{◌≡◌, List, [], ◌∷◌, ℕ, ◌+◌, ◌≤◌, length, get_or}
use Rattle.ports.specs.Limits.{slots, added_ports, slot_bytes}
use Rattle.payload.specs.Memory.{Receiver}
use Rattle.payload.specs.Walk.{memory_bytes}

-- the bytes of all unfinished SDUs
unfoldable pub total : List ℕ → ℕ
total [] = 0
total (n ∷ rest) = n + total rest

-- no partial is longer than its slot, the memory holds the slots, and there is room for n bytes more of payload beside what
-- the partials hold
pub record Ready (s : Receiver) (n : ℕ) : Type 0 where
  pub ids : length s.ports.ids ≡ added_ports
  pub count : length s.ports.lengths ≡ slots
  pub within : (i : ℕ) → get_or s.ports.lengths i 0 ≤ slot_bytes
  pub memory : memory_bytes ≤ length s.memory
  pub space : s.bytes + (total s.ports.lengths + n) ≤ length s.deliveries
