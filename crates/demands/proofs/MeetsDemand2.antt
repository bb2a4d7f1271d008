-- Demand 2 is met.
-- Assumes nothing.
use Prim.Native.Nat.{ℕ}
use mathlib.Core.Path.{◌≡◌, ◌∙◌, refl, ap}
use mathlib.Core.Bool.{Bool, true, false, cond}
use mathlib.Core.List.{List}
use Rattle.std.specs.Prelude.{None, Option, Some}
use Rattle.xgem.proofs.RoundTrips.{xgem_written_read, frame_written_read}
use Rattle.xgtc.proofs.RoundTrips.{hlend_written_read, allocation_written_read}
use Rattle.ploam.specs.Reading.{received}
use Rattle.integrity.specs.Integrity.{installed_key_lem, genuine}
use Rattle.ploam.specs.declared.Message.{Message}
use Rattle.integrity.proofs.Signed.{signed_right}
use Rattle.ploamu.proofs.RoundTrip.{round_trip}
use Rattle.station.specs.declared.Station.{Station}
use Rattle.decisions.specs.Decisions.{is_ours, effect_of, fitting}
use Rattle.effects.specs.Changes.{applied}
use Rattle.decisions.specs.Acts.{act}
use Rattle.messages.specs.Receiving.{acting, receive}
use Rattle.demands.specs.Engine.{lingbarrow}
use Rattle.demands.specs.Demand2.{Demand2}
use Rattle.demands.proofs.HeaderFact.{header_fact}

ignored : (s : Station) (r : Option Message) → acting s false r ≡ s
unfolding act
ignored s None = refl
ignored s (Some m) = go (is_ours s m)
  where
    go : (b : Bool) → cond b s s ≡ s
    go true = refl
    go false = refl

unheeded : (s : Station) (m : List ℕ) → genuine (installed_key_lem s.link.key.held s.link.key.octets) m ≡ false → receive s m ≡ s
unfolding receive
unheeded s m e = ap (λ (b : Bool). acting s b (received m)) e ∙ ignored s (received m)

pub meets_demand_2 : Demand2 lingbarrow
meets_demand_2 =
    record {
      headers = header_fact;
      hlend = hlend_written_read;
      allocation = allocation_written_read;
      xgem = xgem_written_read;
      frame = frame_written_read;
      message = λ installed message id target n l h.
          let a = round_trip installed message id target n l h in
          record { address = a.address; type = a.type; seq_no_lem = a.seq_no_lem; content = a.content; said = a.said; right = a.right };
      signed = signed_right;
      integrity = unheeded;
    }
