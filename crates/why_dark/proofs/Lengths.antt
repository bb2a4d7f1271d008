-- How long what is printed can be.
-- Assumes nothing.
use mathlib.Core.Path.{◌≡◌}
use mathlib.Core.Bool.{Bool, true, false, cond}
use mathlib.Core.List.{List, [], ◌∷◌}
use Prim.Native.Nat.{ℕ, zero, suc, ◌+◌, ◌*◌, ◌^◌, ◌≤◌, ◌<◌}
use native.Mathlib.Omega.{arith}
use lib.Dec.{leb, ltb, eqb}
use lib.ListN.{length, take, drop, get_or, replicate, length-append}
use Rattle.text.specs.Texts.{ascii}
use Rattle.text.specs.Decimals.{decimal}
use Rattle.text.proofs.Decimals.{digits_within, length-field}
use Rattle.answers.specs.declared.Answer.{Answer}
use Rattle.answers.specs.declared.Answer.TheVariants.{Done, StateOutOfRange, FrameLengthUnfit, BufferTooShort, HlendUnreadable, HeaderTooLong, DelineationLost, PortOutOfRange, PortHeldOrNotHeld, SlotsTaken, KeyRefused, NotWritten}
use Rattle.answers.specs.Answers.{answer_number}
use Rattle.hec.specs.Reads.{Reading, word, reading}
use Rattle.hec.specs.Reads as hec
use Rattle.octets.specs.Octets.{value}
use Rattle.xgem.specs.Reads.{short, taken}
use Rattle.xgtc.specs.declared.allocation.Allocation.{Allocation}
use Rattle.xgtc.specs.Layouts.{allocation_of}
use Rattle.xgtc.specs.Reads.{read_allocation_lem}
use Rattle.station.specs.declared.Station.{Station}
use Rattle.std.specs.Prelude.{Result, Ok, Err}
use Rattle.xgem.specs.declared.ReadError.{ReadError}
use Rattle.xgem.specs.declared.ReadError.TheVariants.{Unreadable, Short}
use Rattle.layout.specs.Layout.{read_of}
use Rattle.engine.specs.Naming.{NamesLeft, why_dark_lem}
use Rattle.why_dark.proofs.Counted.{count_within}
use Rattle.why_dark.specs.Words.{names, name_of, meaning, labelled, marked, too_long_lem, no_structures}
use Rattle.why_dark.specs.Report.{numbers_of_lem, marks_of_lem, fields_of, line_of, structure, lines_from, lines, refusal, report_of, frame_report, state_report, report}

-- ---- words

abbrev Most : ℕ → List (List ℕ) → Type 0
Most n [] = Unit {0}
Most n (x ∷ l) = (length x ≤ n) × Most n l

most_of : (n : ℕ) (l : List (List ℕ)) → Most n l → (k : ℕ) → length (get_or l k []) ≤ n
most_of n [] h k = omega arith
most_of n (x ∷ l) h zero = h.0
most_of n (x ∷ l) h (suc k) = most_of n l h.1 k

name-within : (k : ℕ) → length (name_of k) ≤ 26
unfolding name_of
name-within k =
    most_of 26 names
    (omega arith, (omega arith, (omega arith, (omega arith, (omega arith, (omega arith, (omega arith, (omega arith, (omega arith, (omega arith, (omega arith, tt)))))))))))
    k

meaning-within : (answer : Answer) → length (meaning answer) ≤ 24
meaning-within Done = omega arith
meaning-within StateOutOfRange = omega arith
meaning-within FrameLengthUnfit = omega arith
meaning-within BufferTooShort = omega arith
meaning-within HlendUnreadable = omega arith
meaning-within HeaderTooLong = omega arith
meaning-within DelineationLost = omega arith
meaning-within PortOutOfRange = omega arith
meaning-within PortHeldOrNotHeld = omega arith
meaning-within SlotsTaken = omega arith
meaning-within KeyRefused = omega arith
meaning-within NotWritten = omega arith

number-within : (answer : Answer) → answer_number answer < 10 ^ 2
number-within Done = omega arith
number-within StateOutOfRange = omega arith
number-within FrameLengthUnfit = omega arith
number-within BufferTooShort = omega arith
number-within HlendUnreadable = omega arith
number-within HeaderTooLong = omega arith
number-within DelineationLost = omega arith
number-within PortOutOfRange = omega arith
number-within PortHeldOrNotHeld = omega arith
number-within SlotsTaken = omega arith
number-within KeyRefused = omega arith
number-within NotWritten = omega arith

length-labelled : (label : List ℕ) (n : ℕ) → length (labelled label n) ≡ length label + length (decimal n)
unfolding labelled
length-labelled label n = length-append label (decimal n)

labelled-within : (label : List ℕ) (n : ℕ) → n < 2 ^ 16 → length (labelled label n) ≤ length label + 5
labelled-within label n h = omega (arith, length-labelled label n, digits_within 4 n (omega arith))

marked-within : (set : Bool) (name : List ℕ) → length (marked set name) ≤ length name
marked-within true name = omega arith
marked-within false name = omega arith

refusal-within : (answer : Answer) → length (refusal answer) ≤ 128
unfolding refusal
refusal-within answer =
    simp length-append
    (omega (arith, length-labelled (ascii "refused ") (answer_number answer), digits_within 1 (answer_number answer) (number-within answer), meaning-within answer))

-- ---- a line

module _ (a : Allocation) where
  numbers-within : a.alloc.0 < 2 ^ 16 → a.start < 2 ^ 16 → a.grant < 2 ^ 16 → a.profile < 2 ^ 16 → length (numbers_of_lem a) ≤ 65
  unfolding numbers_of_lem
  numbers-within i s g p =
      simp length-append
      (omega (
        arith,
        labelled-within (ascii ": Alloc-ID ") a.alloc.0 i,
        labelled-within (ascii ", StartTime ") a.start s,
        labelled-within (ascii ", GrantSize ") a.grant g,
        labelled-within (ascii ", profile ") a.profile p,
      ))

  marks-within : length (marks_of_lem a) ≤ 19
  unfolding marks_of_lem
  marks-within =
      simp length-append
      (omega (
        arith,
        marked-within a.dbru (ascii ", DBRu"),
        marked-within a.ploamu (ascii ", PLOAMu"),
        marked-within a.fwi (ascii ", FWI"),
      ))

fields_within : (s : List ℕ) → length (fields_of (read_allocation_lem s)) ≤ 84
fields_within s = go (leb 8 (length s)) (reading 64 (value (take 8 s)))
  where
    go : (b : Bool) (r : Reading) → length (fields_of (cond b (taken allocation_of r) short)) ≤ 84
    go true (word v) =
        let a : Allocation = allocation_of v in
        simp length-append (omega (arith, numbers-within a (omega arith) (omega arith) (omega arith) (omega arith), marks-within a))
    go true hec.unreadable = omega arith
    go false r = omega arith

line_within : (f : List ℕ) (i name : ℕ) → i < 10 ^ 4 → length (line_of i name (structure f i)) ≤ 128
unfolding line_of structure
line_within f i name h =
    simp length-append
    (omega (arith, length-field i 32, digits_within 3 i h, name-within name, fields_within (drop (4 + 8 * i) f)))

-- ---- a frame

length_take_within : (n : ℕ) (l : List ℕ) → length (take n l) ≤ n
length_take_within zero l = omega arith
length_take_within (suc n) [] = omega arith
length_take_within (suc n) (x ∷ l) = omega (arith, length_take_within n l)

lines_from_within : (f l : List ℕ) (i : ℕ) → i + length l ≤ 2047 → length (lines_from f i l) ≤ length l * 128
lines_from_within f [] i h = omega arith
lines_from_within f (name ∷ l) i h =
    simp length-append (omega (arith, line_within f i name (omega arith), lines_from_within f l (i + 1) (omega arith)))

lines-within : (f l : List ℕ) → length l ≤ 2047 → length (lines f l) ≤ 2047 * 128
lines-within f l h = go (eqb (length l) 0)
  where
    go : (b : Bool) → length (cond b no_structures (lines_from f 0 l)) ≤ 2047 * 128
    go true = omega arith
    go false = omega (arith, lines_from_within f l 0 (omega arith))

report_of_within : (left : NamesLeft) (f : List ℕ) → left.found.count ≤ 2047 → length (report_of left f) ≤ 2047 * 128
report_of_within left f h = go (eqb (answer_number left.found.answer) 0)
  where
    go : (b : Bool) → length (cond b (lines f (take left.found.count left.names)) (refusal left.found.answer)) ≤ 2047 * 128
    go true = lines-within f (take left.found.count left.names) (omega (arith, length_take_within left.found.count left.names))
    go false = omega (arith, refusal-within left.found.answer)

frame-within : (s : Station) (f : List ℕ) → length (frame_report s f) ≤ 2047 * 128
unfolding frame_report
frame-within s f = report_of_within (why_dark_lem s f (replicate 2047 0)) f (count_within s f (replicate 2047 0))

-- ---- an input

state_within : (r : Result Station ReadError) (f : List ℕ) → length (state_report r f) ≤ 2047 * 128
state_within (Ok s) f = frame-within s f
state_within (Err Unreadable) f = omega (arith, refusal-within StateOutOfRange)
state_within (Err Short) f = omega arith

-- the text that is lent has room for all that is printed
pub report-within : (input : List ℕ) → length (report input) ≤ 2047 * 128
unfolding report
report-within input = go (ltb (208 + 135432) (length input))
  where
    go : (b : Bool) → length (cond b too_long_lem (state_report (read_of input) (drop 208 input))) ≤ 2047 * 128
    go true = omega arith
    go false = state_within (read_of input) (drop 208 input)
