-- An engine: what its public calls return and leave, for every input. The demands are stated over any engine, so that they
-- can be seen to shut out wrong ones.
-- Assumes nothing.
use Rattle.std.specs.Prelude.{ℕ, List}
use Rattle.ids.specs.declared.PortId.{PortId}
use Rattle.xgtc.specs.declared.hlend.Hlend.{Hlend}
use Rattle.xgtc.specs.declared.allocation.Allocation.{Allocation}
use Rattle.xgem.specs.declared.frame.XgemHeader.{XgemHeader}
use Rattle.xgem.specs.Writes as writing
use Rattle.xgtc.specs.Writes as xgtc-writing
use Rattle.station.specs.declared.Station.{Station}
use Rattle.station.specs.Station as station
use Rattle.station.specs.declared.Outcome.{Outcome}
use Rattle.host.specs.Host.{after_add, after_remove, after_key}
use Rattle.frame.specs.Given.{Arrival, Lent}
use Rattle.frame.specs.Frame.{FrameLeft, frame_left}
use Rattle.engine.specs.Lods.{lost_left}
use Rattle.engine.specs.declared.stretching.StretchPlace.{StretchPlace}
use Rattle.engine.specs.Stretch.{PlacesLeft, stretch_place_lem, stretch_places_lem}
use Rattle.engine.specs.Naming.{NamesLeft, why_dark_lem}

-- what is written into a lent target
pub record Writers : Type 0 where
  pub hlend : Hlend → List ℕ → writing.WriteLeft
  pub allocation : Allocation → List ℕ → writing.WriteLeft
  pub xgem : XgemHeader → List ℕ → writing.WriteLeft
  pub xgem_frame : XgemHeader → List ℕ → List ℕ → writing.WriteLeft

pub record Engine : Type 0 where
  pub power_on_lem : List ℕ → List ℕ → Station
  pub frame : Station → Arrival → Lent → FrameLeft
  pub lost : Station → Outcome
  pub add_port_lem : Station → PortId → Outcome
  pub remove_port_lem : Station → PortId → Outcome
  pub give_key_lem : Station → List ℕ → Outcome
  pub stretch_place_lem : Station → List ℕ → ℕ → StretchPlace
  pub stretch_places_lem : Station → List ℕ → List ℕ → PlacesLeft
  pub why_dark_lem : Station → List ℕ → List ℕ → NamesLeft
  pub writers : Writers

-- this one: each definition is the right side of the public call's contract
abbrev pub lingbarrow : Engine
lingbarrow =
    record {
      power_on_lem = station.power_on_lem;
      frame = frame_left;
      lost = lost_left;
      add_port_lem = after_add;
      remove_port_lem = after_remove;
      give_key_lem = after_key;
      stretch_place_lem = stretch_place_lem;
      stretch_places_lem = stretch_places_lem;
      why_dark_lem = why_dark_lem;
      writers = record {
        hlend = xgtc-writing.write_hlend_lem;
        allocation = xgtc-writing.write_allocation_lem;
        xgem = writing.write_xgem_lem;
        xgem_frame = writing.write_xgem_frame_lem;
      };
    }
