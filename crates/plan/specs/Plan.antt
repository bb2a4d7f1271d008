-- The plan of series: their records one after another, and what is counted of them.
-- Assumes nothing.
use Rattle.std.specs.Prelude.{ℕ, ◌+◌, List, [], ◌∷◌, ◌++◌, length, drop}
use Rattle.xgtc.specs.declared.allocation.Allocation.{Allocation}
use Rattle.series.specs.Series.{Series}
use Rattle.plan.specs.Records.{mark, head_flags_lem, more_flags_lem, plan_record}

-- ---- the numbers of series

abbrev pub more_numbers : Allocation → List Allocation → List ℕ
more_numbers h [] = []
more_numbers h (a ∷ l) = plan_record a (more_flags_lem h a) h.start ++ more_numbers h l

unfoldable pub series_numbers : Series → List ℕ
series_numbers s = plan_record s.head (head_flags_lem s.head) s.head.start ++ more_numbers s.head s.more

abbrev pub numbers : List Series → List ℕ
numbers [] = []
numbers (s ∷ l) = series_numbers s ++ numbers l

-- ---- what is counted

abbrev pub entries_in : Series → ℕ
entries_in s = length s.more + 1

abbrev pub records : List Series → ℕ
records [] = 0
records (s ∷ l) = entries_in s + records l

-- the bursts that send a message: those whose head has PLOAMu
abbrev pub messages : List Series → ℕ
messages [] = 0
messages (s ∷ l) = mark s.head.ploamu 1 + messages l

-- "Past what is written, plan .. keep their old content"
abbrev pub written : List Series → List ℕ → List ℕ
written l plan = numbers l ++ drop (length (numbers l)) plan
