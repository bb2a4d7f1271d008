-- "one call for all stretches of a frame, into a lent list of places, whose entries are those of the single call"
-- Assumes nothing.
use Rattle.std.specs.Prelude.{ℕ, ◌+◌, ◌*◌, ◌≤◌, ◌<◌, ◌≡◌, List, get_or, drop}
use Rattle.station.specs.declared.Station.{Station}
use Rattle.engine.specs.Stretch.{empty, stretch_place_lem, PlacesLeft}

pub record EachStretch (s : Station) (f places : List ℕ) (left : PlacesLeft) : Type 0 where
  -- below the count, entry k of the list is what the call for delivery k gives, and the answers agree
  pub entries : (k : ℕ) → k < left.found.count
      → stretch_place_lem s f k ≡ record { answer = left.found.answer; at = get_or left.places (2 * k) 0; bytes = get_or left.places (2 * k + 1) 0 }
  -- from the count on there is no delivery: the call for one gives the empty stretch, with the same answer
  pub none : (k : ℕ) → left.found.count ≤ k → stretch_place_lem s f k ≡ empty left.found.answer
  -- past the entries the list is as it was
  pub rest : drop (2 * left.found.count) left.places ≡ drop (2 * left.found.count) places
