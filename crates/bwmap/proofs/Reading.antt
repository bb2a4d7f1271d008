-- The part of a map from an entry on is read as that entry.
-- Assumes nothing.
use Prim.Native.Nat.{ℕ, ◌-◌, ◌*◌}
use mathlib.Core.Path.{◌≡◌, ap}
use mathlib.Core.List.{List}
use native.Mathlib.Omega.{arith}
use lib.ListN.{length, take, drop, length-drop}
use lib.Seq.{take_all}
use Rattle.xgtc.specs.Reads.{read_allocation_lem}
use Rattle.series.specs.Series.{entry_at}

pub read-entry : (m : List ℕ) (i : ℕ) → read_allocation_lem (take (length m - 8 * i) (drop (8 * i) m)) ≡ entry_at m i
unfolding entry_at
read-entry m i = ap read_allocation_lem (take_all (length m - 8 * i) (drop (8 * i) m) (omega (arith, length-drop (8 * i) m)))
