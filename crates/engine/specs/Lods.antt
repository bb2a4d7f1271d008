-- A frame time that is lost: "the synchroniser reports LODS".
-- Assumes nothing.
use Rattle.std.specs.Prelude.{◌≡◌, not, cond}
use Rattle.station.specs.declared.Station.{Station}
use Rattle.answers.specs.declared.Answer.TheVariants.{Done, StateOutOfRange}
use Rattle.validity.specs.Ranges.{in_range}
use Rattle.timing.specs.Timing.{lost_time_lem}
use Rattle.station.specs.declared.Outcome.{Outcome}

-- 1: "state out of range: nothing changed"
unfoldable pub lost_left : Station → Outcome
lost_left s =
    cond (not (in_range s))
    (record { answer = StateOutOfRange; station = s })
    (record { answer = Done; station = lost_time_lem s })

abbrev pub LostLeaves : Station → Outcome → Type 0
LostLeaves s r = r ≡ lost_left s
