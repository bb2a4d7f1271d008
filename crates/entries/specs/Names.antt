-- "what became of it: planned, unreadable, StartTime unfit, DBRu without room, foreign, continuing nothing, seventeenth, too long,
-- overlapping, after the fourth, or a state that sends nothing": the number of each name.
-- Assumes nothing.
use Rattle.std.specs.Prelude.{ℕ}
use Rattle.entries.specs.declared.Verdict.{Verdict}
use Rattle.entries.specs.declared.Verdict.TheVariants.{Planned, Unreadable, StartTimeUnfit, DbruWithoutRoom, Foreign, ContinuingNothing, Seventeenth, TooLong, Overlapping, AfterTheLast, Silent}

abbrev pub name_number : Verdict → ℕ
name_number Planned = 0
name_number Unreadable = 1
name_number StartTimeUnfit = 2
name_number DbruWithoutRoom = 3
name_number Foreign = 4
name_number ContinuingNothing = 5
name_number Seventeenth = 6
name_number TooLong = 7
name_number Overlapping = 8
name_number AfterTheLast = 9
name_number Silent = 10
