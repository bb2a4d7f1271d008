-- The numbers of the paper that bound a plan.
-- Assumes nothing.
use Rattle.std.specs.Prelude.{ℕ, ◌*◌}
use Rattle.series.specs.Limits.{bursts_a_frame, entries_a_burst}

-- "The plan is 256 numbers of sixteen bits: at most 64 records of four"
abbrev pub numbers_a_record : ℕ
numbers_a_record = 4

abbrev pub plan_numbers : ℕ
plan_numbers = bursts_a_frame * entries_a_burst * numbers_a_record
