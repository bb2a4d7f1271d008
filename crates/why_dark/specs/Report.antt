-- "takes the state and one frame and names, for every structure of the map, what became of it": what is printed of an input that
-- holds a state's octets and behind them a frame.
-- Assumes nothing.
use Rattle.std.specs.Prelude.{Result, Ok, Err, ℕ, ◌+◌, ◌*◌, cond, List, [], ◌∷◌, ◌++◌, eqb, ltb, length, take, drop, replicate}
use Rattle.text.specs.Texts.{ascii, space, newline}
use Rattle.text.specs.Decimals.{field}
use Rattle.answers.specs.declared.Answer.{Answer}
use Rattle.answers.specs.declared.Answer.TheVariants.{StateOutOfRange}
use Rattle.answers.specs.Answers.{answer_number}
use Rattle.xgem.specs.Reads.{Found, fields, unreadable, short}
use Rattle.xgtc.specs.declared.allocation.Allocation.{Allocation}
use Rattle.xgtc.specs.Reads.{read_allocation_lem}
use Rattle.station.specs.declared.Station.{Station}
use Rattle.entries.specs.Limits.{structure_octets}
use Rattle.downstream.specs.Limits.{most_frame}
use Rattle.downstream.specs.Partitions.{hlend_octets}
use Rattle.xgem.specs.declared.ReadError.{ReadError}
use Rattle.xgem.specs.declared.ReadError.TheVariants.{Unreadable, Short}
use Rattle.layout.specs.Offsets.{state_bytes}
use Rattle.layout.specs.Layout.{read_of}
use Rattle.engine.specs.Naming.{NamesLeft, most_structures, why_dark_lem}
use Rattle.why_dark.specs.Words.{name_of, meaning, labelled, marked, too_short_lem, too_long_lem, no_structures}

-- ---- a structure

-- the numbers of a structure, of which each has four
unfoldable pub numbers_of_lem : Allocation → List ℕ
numbers_of_lem a =
    labelled (ascii ": Alloc-ID ") a.alloc.0
    ++ labelled (ascii ", StartTime ") a.start
    ++ labelled (ascii ", GrantSize ") a.grant
    ++ labelled (ascii ", profile ") a.profile

-- the marks that are set
unfoldable pub marks_of_lem : Allocation → List ℕ
marks_of_lem a = marked a.dbru (ascii ", DBRu") ++ marked a.ploamu (ascii ", PLOAMu") ++ marked a.fwi (ascii ", FWI")

-- a structure that could be read has its fields told, those of the mended word
abbrev pub fields_of : Found Allocation → List ℕ
fields_of (fields a) = numbers_of_lem a ++ marks_of_lem a
fields_of unreadable = []
fields_of short = []

-- the structure's number, its name, its fields
unfoldable pub line_of : ℕ → ℕ → Found Allocation → List ℕ
line_of number name found = field number space ++ name_of name ++ fields_of found ++ (newline ∷ [])

-- a structure's octets stand behind HLend, by its number
unfoldable pub structure : List ℕ → ℕ → Found Allocation
structure f i = read_allocation_lem (drop (hlend_octets + structure_octets * i) f)

-- ---- a frame

-- the lines of structures by their names, of which the first has the number i
abbrev pub lines_from : List ℕ → ℕ → List ℕ → List ℕ
lines_from f i [] = []
lines_from f i (name ∷ l) = line_of i name (structure f i) ++ lines_from f (i + 1) l

abbrev pub lines : List ℕ → List ℕ → List ℕ
lines f l = cond (eqb (length l) 0) no_structures (lines_from f 0 l)

-- a refusal's number in the paper's table, and what it means
unfoldable pub refusal : Answer → List ℕ
refusal answer = labelled (ascii "refused ") (answer_number answer) ++ ascii ": " ++ meaning answer ++ (newline ∷ [])

abbrev pub report_of : NamesLeft → List ℕ → List ℕ
report_of left f =
    cond (eqb (answer_number left.found.answer) 0)
    (lines f (take left.found.count left.names))
    (refusal left.found.answer)

-- the names go into a list of zeros that has room for all
unfoldable pub frame_report : Station → List ℕ → List ℕ
frame_report s f = report_of (why_dark_lem s f (replicate most_structures 0)) f

-- ---- an input

-- octets that are no state's are refused as a state out of range is
abbrev pub unread_report : ReadError → List ℕ
unread_report Unreadable = refusal StateOutOfRange
unread_report Short = too_short_lem

abbrev pub state_report : Result Station ReadError → List ℕ → List ℕ
state_report (Ok s) f = frame_report s f
state_report (Err e) f = unread_report e

-- all that is printed
unfoldable pub report : List ℕ → List ℕ
report input =
    cond (ltb (state_bytes + most_frame) (length input)) too_long_lem
    (state_report (read_of input) (drop state_bytes input))

-- ---- how long it can be

-- a number of at most four digits and a space, a name of at most 26 octets, four numbers and three marks with what they are, and the
-- end of the line are 114
abbrev pub most_line : ℕ
most_line = 128

abbrev pub most_text : ℕ
most_text = most_structures * most_line
