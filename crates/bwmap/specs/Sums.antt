-- The paper's sums 8 to 11, over octets that are read back from the map.
-- Assumes nothing.
use Rattle.std.specs.Prelude.{ℕ, ◌≡◌, Bool, true, false, List, [], ◌∷◌, ◌++◌, replicate}
use Rattle.octets.specs.Octets.{octets}
use Rattle.xgtc.specs.Layouts.{allocation_word}
use Rattle.xgtc.specs.declared.allocation.Allocation.{Allocation}
use Rattle.station.specs.declared.Activation.TheVariants.{Operation}
use Rattle.entries.specs.Limits.{structure_octets, continuing}
use Rattle.entries.specs.declared.Own.{Own}
use Rattle.series.specs.Series.{planned_of, last_end, carried_over_lem}
use Rattle.plan.specs.Plan.{numbers}

-- the octets of a map
abbrev pub map_of : List Allocation → List ℕ
map_of [] = []
map_of (a ∷ l) = octets structure_octets (allocation_word a) ++ map_of l

-- "In O5, ONU-ID 5, added 1024"
abbrev pub five : Own
five =
    record {
      activation = Operation;
      onu = record { 0 = 5 };
      allocs = record { ids = record { 0 = 1024 } ∷ replicate 15 (record { 0 = 0 }); count = 1 };
    }

abbrev pub grant : ℕ → Bool → Bool → ℕ → ℕ → Allocation
grant alloc ploamu dbru start words =
    record { alloc = record { 0 = alloc }; dbru = dbru; ploamu = ploamu; start = start; grant = words; fwi = false; profile = 0 }

-- the plan of a map with so many words carried over, and what is carried on
abbrev pub plan : ℕ → List Allocation → List ℕ
plan carried l = numbers (planned_of five (map_of l) carried)

abbrev pub carries : List Allocation → ℕ
carries l = carried_over_lem (last_end 0 (planned_of five (map_of l) 0))

-- "(5, PLOAMu, 100, 10), (1024, DBRu, 65535, 20)"
abbrev pub eight : List Allocation
eight = grant 5 true false 100 10 ∷ grant 1024 false true continuing 20 ∷ []

-- "give 5 3 100 10 and 1024 4 100 20"
abbrev pub Sum8 : Type 0
Sum8 = plan 0 eight ≡ 5 ∷ 3 ∷ 100 ∷ 10 ∷ 1024 ∷ 4 ∷ 100 ∷ 20 ∷ []

-- "Then 1024 at 143 is passed over, at 144 planned"
pub record Sum9 : Type 0 where
  pub passed : plan 0 (eight ++ (grant 1024 false false 143 20 ∷ [])) ≡ plan 0 eight
  pub planned : plan 0 (eight ++ (grant 1024 false false 144 20 ∷ [])) ≡ plan 0 eight ++ (1024 ∷ 1 ∷ 144 ∷ 20 ∷ [])

-- "A 30-word burst at 9,700: next frame, 9 is passed over, 10 planned"
pub record Sum10 : Type 0 where
  pub passed : plan (carries (grant 5 false false 9700 28 ∷ [])) (grant 5 false false 9 1 ∷ []) ≡ []
  pub planned : plan (carries (grant 5 false false 9700 28 ∷ [])) (grant 5 false false 10 1 ∷ []) ≡ 5 ∷ 1 ∷ 10 ∷ 1 ∷ []

-- "GrantSize 9,718 alone fits, 9,719 doesn't"
pub record Sum11 : Type 0 where
  pub fits : plan 0 (grant 5 false false 0 9718 ∷ []) ≡ 5 ∷ 1 ∷ 0 ∷ 9718 ∷ []
  pub exceeds : plan 0 (grant 5 false false 0 9719 ∷ []) ≡ []
