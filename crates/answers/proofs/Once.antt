-- A number is one answer's: no two answers have the same.
-- Assumes nothing.
use Prim.Native.Nat.{ℕ}
use mathlib.Core.Path.{◌≡◌, ◌∙◌, refl, sym, ap}
use mathlib.Core.Bool.{cond}
use lib.Dec.{eqb}
use Rattle.answers.specs.declared.Answer.{Answer}
use Rattle.answers.specs.declared.Answer.TheVariants.{Done, StateOutOfRange, FrameLengthUnfit, BufferTooShort, HlendUnreadable, HeaderTooLong, DelineationLost, PortOutOfRange, PortHeldOrNotHeld, SlotsTaken, KeyRefused, NotWritten}
use Rattle.answers.specs.Answers.{answer_number}

-- the answer of a number
abbrev answer_by_lem : ℕ → Answer
answer_by_lem n =
    cond (eqb n 0) Done (cond (eqb n 1) StateOutOfRange (cond (eqb n 2) FrameLengthUnfit (cond (eqb n 3) BufferTooShort (cond (eqb n 4) HlendUnreadable (cond (eqb n 5) HeaderTooLong (cond (eqb n 6) DelineationLost (cond (eqb n 7) PortOutOfRange (cond (eqb n 8) PortHeldOrNotHeld (cond (eqb n 9) SlotsTaken (cond (eqb n 10) KeyRefused NotWritten))))))))))

by_number : (a : Answer) → answer_by_lem (answer_number a) ≡ a
by_number Done = refl
by_number StateOutOfRange = refl
by_number FrameLengthUnfit = refl
by_number BufferTooShort = refl
by_number HlendUnreadable = refl
by_number HeaderTooLong = refl
by_number DelineationLost = refl
by_number PortOutOfRange = refl
by_number PortHeldOrNotHeld = refl
by_number SlotsTaken = refl
by_number KeyRefused = refl
by_number NotWritten = refl

pub number_once : (a b : Answer) → answer_number a ≡ answer_number b → a ≡ b
number_once a b e = sym (by_number a) ∙ ap answer_by_lem e ∙ by_number b
