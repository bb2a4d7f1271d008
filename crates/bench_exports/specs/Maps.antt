-- Whose grants the map benchmark looks for: O5, ONU-ID 5, and the added Alloc-IDs 2000, 2011, and so on.
-- Assumes nothing.
use Rattle.std.specs.Prelude.{None, Option, Some, List, [], ◌∷◌, ℕ, zero, suc, ◌+◌}
use Rattle.bwmap.specs.declared.Plan.{Plan}
use Rattle.ids.specs.declared.AllocId.{AllocId}
use Rattle.station.specs.declared.Activation.TheVariants.{Operation}
use Rattle.entries.specs.declared.Own.{Own}

abbrev pub allocs_from : ℕ → ℕ → List AllocId
allocs_from zero n = []
allocs_from (suc count) n = record { 0 = n } ∷ allocs_from count (n + 11)

abbrev pub bench_own_lem : Own
bench_own_lem = record { activation = Operation; onu = record { 0 = 5 }; allocs = record { ids = allocs_from 16 2000; count = 16 } }

abbrev pub records_of_lem : Option Plan → ℕ
records_of_lem (Some p) = p.records
records_of_lem None = 0
