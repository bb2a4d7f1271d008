-- The paper's sum 12 holds.
-- Assumes nothing.
use Prim.Native.Nat.{ℕ}
use mathlib.Core.Path.{◌≡◌, refl}
use mathlib.Core.Bool.{false}
use Rattle.ploam.specs.declared.Adjustment.TheVariants.{Subtract}
use Rattle.ploam.specs.declared.Content.TheVariants.{RangingTime}
use Rattle.ploam.specs.Reading.{content_as, content_of}
use Rattle.station.specs.declared.Activation.TheVariants.{Operation}
use Rattle.station.specs.declared.Station.{Station}
use Rattle.link.specs.Link.{with_owed_lem, owe}
use Rattle.station.specs.Station.{with_link_lem}
use Rattle.decisions.specs.Ranging.{ranging_time_lem}
use Rattle.decisions.specs.Decisions.{by_content_lem}
use Rattle.decisions.specs.Sums.{minus_one, parameter_error, Sum12}
use Rattle.effects.specs.Changes.{applied}

pub reads : content_of minus_one ≡ RangingTime Subtract 1
unfolding content_as
reads = refl

pub does-nothing
    : (s : Station) (seq : ℕ) → s.activation ≡ Operation → s.link.delay ≡ 0
    → applied s (by_content_lem s false seq (RangingTime Subtract 1))
    ≡ with_link_lem s (with_owed_lem s.link (owe s.link.owed (parameter_error seq)))
unfolding ranging_time_lem applied
does-nothing s seq h k = rw (h, k)

pub sum_12 : Sum12
sum_12 = record { read = reads; done = does-nothing }
