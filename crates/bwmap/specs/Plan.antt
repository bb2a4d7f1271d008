-- The plan of a map: what the walk answers, and what the lent plan then holds.
-- Assumes nothing.
use Rattle.std.specs.Prelude.{None, Option, Some, ℕ, ◌≡◌, cond, List, leb, length}
use Rattle.entries.specs.declared.Own.{Own}
use Rattle.plan.specs.Limits.{plan_numbers}
use Rattle.plan.specs.Plan.{records, messages, written}
use Rattle.series.specs.Series.{Series, planned_of, last_end, carried_over_lem}
use Rattle.bwmap.specs.declared.Plan.{Plan}

pub record PlanLeft : Type 0 where
  pub answer : Option Plan
  pub plan : List ℕ

abbrev pub counted : ℕ → List Series → Plan
counted carried l =
    record {
      records = records l;
      bursts = length l;
      messages = messages l;
      end = last_end carried l;
      carried = carried_over_lem (last_end carried l);
    }

-- a plan of fewer than 256 numbers is refused and left as it is
abbrev pub plan_of : Own → List ℕ → ℕ → List ℕ → PlanLeft
plan_of own m carried plan =
    cond (leb plan_numbers (length plan))
    (record { answer = Some (counted carried (planned_of own m carried)); plan = written (planned_of own m carried) plan })
    (record { answer = None; plan = plan })

-- the whole contract of the walk
abbrev pub MapLeaves : Own → List ℕ → ℕ → List ℕ → Option Plan → List ℕ → Type 0
MapLeaves own m carried plan answer left = record { answer = answer; plan = left } ≡ plan_of own m carried plan
