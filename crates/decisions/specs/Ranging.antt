-- "Ranging_Time, directed: absolute in O4 goes to O5 and in O5 sets the delay; relative in O5 adds or subtracts, and a
-- result outside 0 to 2^32-1 changes nothing and owes 'parameter error'. Otherwise OK is owed. Broadcast: relative in O5
-- only, owing nothing, out of range ignored."
-- Assumes nothing.
use Rattle.std.specs.Prelude.{None, Option, Some, ℕ, ◌+◌, ◌-◌, Bool, true, false, ◌&&◌, not, cond, eqb, leb}
use Rattle.ploam.specs.declared.Adjustment.{Adjustment}
use Rattle.ploam.specs.declared.Adjustment.TheVariants.{Absolute, Add, Subtract}
use Rattle.ploam.specs.declared.Completion.TheVariants.{Ok, ParameterError}
use Rattle.station.specs.States.{o4, o5}
use Rattle.effects.specs.declared.Change.TheVariants.{Keep, Range, Delay}
use Rattle.effects.specs.declared.Effect.{Effect}
use Rattle.effects.specs.Effects.{ignored, does, answers}

abbrev pub most_delay : ℕ
most_delay = 4294967295

abbrev pub absolute : Adjustment → Bool
absolute Absolute = true
absolute Add = false
absolute Subtract = false

abbrev pub moved : Adjustment → ℕ → ℕ → Option ℕ
moved Absolute delay amount = Some amount
moved Add delay amount = cond (leb (delay + amount) most_delay) (Some (delay + amount)) None
moved Subtract delay amount = cond (leb amount delay) (Some (delay - amount)) None

abbrev pub answered : Option ℕ → ℕ → Effect
answered (Some delay) seq = answers (Delay delay) Ok seq
answered None seq = answers Keep ParameterError seq

abbrev pub unanswered : Option ℕ → Effect
unanswered (Some delay) = does (Delay delay)
unanswered None = ignored

-- the states are given by their numbers
unfoldable pub ranging_time_lem : ℕ → Bool → ℕ → ℕ → Adjustment → ℕ → Effect
ranging_time_lem state broadcast delay seq way amount =
    cond broadcast
    (cond (eqb state o5 && not (absolute way)) (unanswered (moved way delay amount)) ignored)
    (cond (eqb state o5) (answered (moved way delay amount) seq)
    (cond (eqb state o4 && absolute way) (answers (Range amount) Ok seq) ignored))
