-- "The program `trace` reads records of 1,024 bytes without a header: kind (0 lost, 1 frame), three zero bytes, 1,020 bytes
-- of frame."
-- Assumes nothing.
use Rattle.std.specs.Prelude.{ℕ, zero, suc, ◌+◌, ◌-◌, ◌*◌, ◌/◌, cond, ◌&&◌, List, [], ◌∷◌, length, take, drop, ◌==◌, slice_index}
use Rattle.trace.specs.declared.records.Kind.{Kind}
use Rattle.trace.specs.declared.records.Kind.TheVariants.{Lost, Frame, Bad}

abbrev pub record_bytes : ℕ
record_bytes = 1024

-- kind and three zero bytes
abbrev pub head_bytes : ℕ
head_bytes = 4

abbrev pub frame_bytes : ℕ
frame_bytes = record_bytes - head_bytes

-- "kind (0 lost, 1 frame)"; "Another kind" is bad
abbrev pub kind_by : ℕ → Kind
kind_by k = cond (k == 0) Lost (cond (k == 1) Frame Bad)

-- "Another kind, a nonzero byte of the three or a record of 1 to 1,023 bytes" is bad
unfoldable pub kind_of : List ℕ → Kind
kind_of x =
    cond (length x == record_bytes && (slice_index x 1 == 0 && (slice_index x 2 == 0 && slice_index x 3 == 0)))
    (kind_by (slice_index x 0))
    Bad

abbrev pub frame_of : List ℕ → List ℕ
frame_of x = drop head_bytes x

-- so many records, one after another
abbrev pub records : ℕ → List ℕ → List (List ℕ)
records zero input = []
records (suc k) input = take record_bytes input ∷ records k (drop record_bytes input)

-- how many whole records there are, and what is left behind them
abbrev pub wholes : List ℕ → ℕ
wholes input = length input / record_bytes

abbrev pub whole_records : List ℕ → List (List ℕ)
whole_records input = records (wholes input) input

abbrev pub left : List ℕ → List ℕ
left input = drop (wholes input * record_bytes) input

-- the input's records; the last may be short
unfoldable pub records_of_lem : List ℕ → List (List ℕ)
records_of_lem input = records ((length input + (record_bytes - 1)) / record_bytes) input
