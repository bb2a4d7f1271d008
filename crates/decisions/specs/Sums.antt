-- The paper's sum 12: "Relative -1 at delay 0: unchanged, parameter error".
-- Assumes nothing.
use Rattle.std.specs.Prelude.{ℕ, ◌≡◌, false, List, ◌∷◌, replicate}
use Rattle.ploam.specs.declared.Adjustment.TheVariants.{Subtract}
use Rattle.ploam.specs.declared.Content.TheVariants.{RangingTime}
use Rattle.ploam.specs.Reading.{content_of}
use Rattle.station.specs.declared.Activation.TheVariants.{Operation}
use Rattle.station.specs.declared.Station.{Station}
use Rattle.link.specs.declared.Owed.{Owed}
use Rattle.link.specs.declared.Response.TheVariants.{Acknowledgement}
use Rattle.ploam.specs.declared.Completion.TheVariants.{ParameterError}
use Rattle.link.specs.Link.{with_owed_lem, owe}
use Rattle.station.specs.Station.{with_link_lem}
use Rattle.effects.specs.Changes.{applied}
use Rattle.decisions.specs.Decisions.{by_content_lem}

-- Ranging_Time to ONU-ID 5 with SeqNo 7: relative, subtract, 1
abbrev pub minus_one : List ℕ
minus_one = 0 ∷ 5 ∷ 0x04 ∷ 7 ∷ 2 ∷ 0 ∷ 0 ∷ 0 ∷ 1 ∷ replicate 39 0

abbrev pub parameter_error : ℕ → Owed
parameter_error seq = record { response = Acknowledgement ParameterError; seq_no = seq }

pub record Sum12 : Type 1 where
  pub read : content_of minus_one ≡ RangingTime Subtract 1
  pub done
      : (s : Station) (seq : ℕ) → s.activation ≡ Operation → s.link.delay ≡ 0
      → applied s (by_content_lem s false seq (RangingTime Subtract 1))
      ≡ with_link_lem s (with_owed_lem s.link (owe s.link.owed (parameter_error seq)))
