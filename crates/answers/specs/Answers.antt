-- The paper's table "What comes back": the number of each answer.
-- Assumes nothing.
use Rattle.std.specs.Prelude.{ℕ}
use Rattle.answers.specs.declared.Answer.{Answer}
use Rattle.answers.specs.declared.Answer.TheVariants.{Done, StateOutOfRange, FrameLengthUnfit, BufferTooShort, HlendUnreadable, HeaderTooLong, DelineationLost, PortOutOfRange, PortHeldOrNotHeld, SlotsTaken, KeyRefused, NotWritten}

abbrev pub answer_number : Answer → ℕ
answer_number Done = 0
answer_number StateOutOfRange = 1
answer_number FrameLengthUnfit = 2
answer_number BufferTooShort = 3
answer_number HlendUnreadable = 4
answer_number HeaderTooLong = 5
answer_number DelineationLost = 6
answer_number PortOutOfRange = 7
answer_number PortHeldOrNotHeld = 8
answer_number SlotsTaken = 9
answer_number KeyRefused = 10
answer_number NotWritten = 11
