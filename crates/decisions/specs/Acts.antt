-- A message acts: "Considered in this order: address is ours or 1023; MIC right; state; an answer is needed and 8 are
-- owed (then ignored whole)."
-- Assumes nothing.
use Rattle.std.specs.Prelude.{◌≡◌, Bool, cond}
use Rattle.ploam.specs.declared.Message.{Message}
use Rattle.station.specs.declared.Station.{Station}
use Rattle.effects.specs.declared.Effect.{Effect}
use Rattle.decisions.specs.Decisions.{is_ours, effect_of, fitting, decision}
use Rattle.effects.specs.Changes.{applied}

unfoldable pub act : Station → Bool → Message → Station
act s genuine m =
    cond (is_ours s m)
    (cond genuine (applied s (fitting s.link.owed (effect_of s m))) s)
    s

abbrev pub Decides : Station → Message → Effect → Type 0
Decides s m r = r ≡ decision s m
