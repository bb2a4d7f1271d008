-- What takes nothing back by itself.
-- Assumes nothing.
use mathlib.Core.List.{List}
use Rattle.station.specs.declared.Station.{Station}
use Rattle.ledger.specs.Events.{Event}
use Rattle.ledger.specs.Times.{to1_ends, to2_ends}
use Rattle.ledger.specs.Promises.{TakesNothing}
use Rattle.ledger.proofs.Times.{and-false}

pub takes-nothing : (first : Station) (h : List Event) → TakesNothing first h
unfolding to1_ends to2_ends
takes-nothing first h =
    record {
      lost_in_o5 = λ e. rw e;
      unread_in_o5 = λ e. rw e;
      frame_elsewhere = rw (and-false (to1_ends first h));
    }
