-- The words in which what became of a structure, and what a refusal means, are told.
-- Assumes nothing.
use Rattle.std.specs.Prelude.{ℕ, Bool, cond, List, [], ◌∷◌, ◌++◌, get_or}
use Rattle.text.specs.Texts.{ascii}
use Rattle.text.specs.Decimals.{decimal}
use Rattle.answers.specs.declared.Answer.{Answer}
use Rattle.answers.specs.declared.Answer.TheVariants.{Done, StateOutOfRange, FrameLengthUnfit, BufferTooShort, HlendUnreadable, HeaderTooLong, DelineationLost, PortOutOfRange, PortHeldOrNotHeld, SlotsTaken, KeyRefused, NotWritten}

-- the names in the request's words and order: each stands at its number
abbrev pub names : List (List ℕ)
names =
    ascii "planned"
    ∷ ascii "unreadable"
    ∷ ascii "StartTime unfit"
    ∷ ascii "DBRu without room"
    ∷ ascii "foreign"
    ∷ ascii "continuing nothing"
    ∷ ascii "seventeenth"
    ∷ ascii "too long"
    ∷ ascii "overlapping"
    ∷ ascii "after the fourth"
    ∷ ascii "a state that sends nothing"
    ∷ []

unfoldable pub name_of : ℕ → List ℕ
name_of n = get_or names n []

-- what a refusal means, in the words of the paper's table; only 1 to 5 refuse a frame
abbrev pub meaning : Answer → List ℕ
meaning Done = []
meaning StateOutOfRange = ascii "state out of range"
meaning FrameLengthUnfit = ascii "frame length unfit"
meaning BufferTooShort = ascii "a buffer too short"
meaning HlendUnreadable = ascii "HLend unreadable"
meaning HeaderTooLong = ascii "header longer than frame"
meaning DelineationLost = []
meaning PortOutOfRange = []
meaning PortHeldOrNotHeld = []
meaning SlotsTaken = []
meaning KeyRefused = []
meaning NotWritten = []

-- a number behind what it is
unfoldable pub labelled : List ℕ → ℕ → List ℕ
labelled label n = label ++ decimal n

-- a mark's name, where it is set
abbrev pub marked : Bool → List ℕ → List ℕ
marked set name = cond set name []

-- an input that is no state and frame
abbrev pub too_short_lem : List ℕ
too_short_lem = ascii "input too short: no state of 208 bytes\n"

abbrev pub too_long_lem : List ℕ
too_long_lem = ascii "input too long: more than a state of 208 bytes and a frame of 135432\n"

-- a map of no structures
abbrev pub no_structures : List ℕ
no_structures = ascii "no structures\n"
