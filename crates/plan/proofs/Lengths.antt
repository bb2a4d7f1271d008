-- How many numbers the records of series take.
-- Assumes nothing.
use Prim.Native.Nat.{◌*◌}
use mathlib.Core.Path.{◌≡◌, refl}
use mathlib.Core.List.{List, [], ◌∷◌}
use native.Mathlib.Omega.{arith}
use lib.ListN.{length, length-append}
use Rattle.xgtc.specs.declared.allocation.Allocation.{Allocation}
use Rattle.series.specs.Series.{Series}
use Rattle.plan.specs.Plan.{more_numbers, series_numbers, numbers, entries_in, records}

pub length_more : (h : Allocation) (l : List Allocation) → length (more_numbers h l) ≡ 4 * length l
length_more h [] = refl
length_more h (a ∷ l) =
    let ih = length_more h l in
    omega arith

pub length-series : (s : Series) → length (series_numbers s) ≡ 4 * entries_in s
unfolding series_numbers
length-series s =
    let n = length_more s.head s.more in
    omega arith

-- the count of records is true
pub length-numbers : (l : List Series) → length (numbers l) ≡ 4 * records l
length-numbers [] = refl
length-numbers (s ∷ l) =
    let ih = length-numbers l in
    omega (arith, length-append (series_numbers s) (numbers l), length-series s)
