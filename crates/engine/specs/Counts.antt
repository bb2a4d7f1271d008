-- "invented counts of .. bytes (each equals what was written)"; "Past what is written, .. deliveries and slots keep their old content":
-- what a frame that is handled leaves of deliveries and port memory.
-- Assumes nothing.
use Rattle.std.specs.Prelude.{ℕ, ◌≡◌, cond, List, [], length, take, drop}
use Rattle.ids.specs.declared.PortId.{PortId}
use Rattle.xgtc.specs.declared.hlend.Hlend.{Hlend}
use Rattle.station.specs.declared.Station.{Station}
use Rattle.station.specs.States.{is_operating_lem}
use Rattle.payload.specs.Frames.{Xgem, parse}
use Rattle.payload.specs.Memory.{Receiver, receiver_of}
use Rattle.payload.specs.Deliveries.{deliveries_of}
use Rattle.payload.specs.Appends.{appends_of, laid, InSlots}
use Rattle.downstream.specs.Partitions.{header_end_lem, payload_of}
use Rattle.frame.specs.Given.{Lent}

-- "Payload, in O5 only": the XGEM frames that are met
abbrev pub xgem_frames : Station → Hlend → List ℕ → List Xgem
xgem_frames s h f = cond (is_operating_lem s.activation) (parse (header_end_lem h) (payload_of h f)).frames []

-- what a walk over them begins with
abbrev pub receiving : Station → Lent → Receiver
receiving s lent = receiver_of s.ports 0 lent.memory lent.deliveries

-- after a walk over frames so many bytes are the deliveries of their SDUs, one behind the other; what is appended to slots lies behind
-- its port's partial and within the slot; all else is as it was
pub record Received (own : PortId) (begun : Receiver) (frames : List Xgem) (bytes : ℕ) (deliveries memory : List ℕ) : Type 0 where
  pub count : bytes ≡ length (deliveries_of own begun frames)
  pub delivered : take bytes deliveries ≡ deliveries_of own begun frames
  pub kept : drop bytes deliveries ≡ drop bytes begun.deliveries
  pub slots : memory ≡ laid begun.memory (appends_of own begun frames)
  pub within : InSlots (appends_of own begun frames)
