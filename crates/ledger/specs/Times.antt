-- TO1 and TO2, counted over the history: the counting times of the present stay in O4 and in O6.
-- Assumes nothing.
use Rattle.std.specs.Prelude.{ℕ, ◌+◌, Bool, true, false, ◌&&◌, cond, List, [], ◌∷◌, eqb}
use Rattle.station.specs.declared.Station.{Station}
use Rattle.station.specs.Limits.{to1, to2}
use Rattle.station.specs.States.{o4}
use Rattle.ledger.specs.Events.{Event, considered, ended, unread, lost, replied, walked, carried_over_lem, port_added, port_removed, key_given, station_of}
use Rattle.ledger.specs.Messages.{in_state}

abbrev pub o6 : ℕ
o6 = 6

-- a frame time that counts in O4: one answered 0 that arrived in it, or answered 4 or 5
abbrev pub counts_to1 : Event → Bool
counts_to1 (considered m) = false
counts_to1 (ended arrivedRanging) = arrivedRanging
counts_to1 unread = true
counts_to1 lost = false
counts_to1 replied = false
counts_to1 (walked ports) = false
counts_to1 (carried_over_lem words) = false
counts_to1 (port_added port) = false
counts_to1 (port_removed port) = false
counts_to1 (key_given octets) = false

-- and in O6: a lost one, or one answered 4 or 5
abbrev pub counts_to2 : Event → Bool
counts_to2 (considered m) = false
counts_to2 (ended arrivedRanging) = false
counts_to2 unread = true
counts_to2 lost = true
counts_to2 replied = false
counts_to2 (walked ports) = false
counts_to2 (carried_over_lem words) = false
counts_to2 (port_added port) = false
counts_to2 (port_removed port) = false
counts_to2 (key_given octets) = false

-- how many have counted since the state was entered: back to the event that found another state
abbrev pub counted : ℕ → (Event → Bool) → Station → List Event → ℕ
counted state counts first [] = 0
counted state counts first (e ∷ earlier) =
    cond (in_state state (station_of first earlier)) (counted state counts first earlier + cond (counts e) 1 0) 0

-- the next to count is the 80,000th in O4, the 800th in O6
unfoldable pub to1_ends : Station → List Event → Bool
to1_ends first earlier = in_state o4 (station_of first earlier) && eqb (counted o4 counts_to1 first earlier + 1) to1

unfoldable pub to2_ends : Station → List Event → Bool
to2_ends first earlier = in_state o6 (station_of first earlier) && eqb (counted o6 counts_to2 first earlier + 1) to2
