-- The ledger of demand 3: "numbers that messages accepted in earlier frames gave us and nothing before that frame took
-- back". It is defined over the run's history; what stands in it at a frame is what the history before that frame wrote.
-- Assumes nothing.
use Rattle.std.specs.Prelude.{ℕ, ◌≡◌, Bool, false, ◌&&◌, ◌||◌, cond, List, [], ◌∷◌, ◌++◌, eqb}
use Rattle.ids.specs.Ids.{same_alloc}
use Rattle.station.specs.declared.Station.{Station}
use Rattle.ids.specs.Places.{some}
use Rattle.station.specs.States.{holds_identity_lem, o4}
use Rattle.link.specs.Link.{held_allocs}
use Rattle.ledger.specs.Events.{Event, considered, ended, unread, lost, replied, walked, carried_over_lem, port_added, port_removed, key_given, station_of}
use Rattle.ledger.specs.Entries.{Entry, gave, took_all_back, neither, takes_back}
use Rattle.ledger.specs.Messages.{in_state, by_message}
use Rattle.ledger.specs.Times.{to1_ends, to2_ends}

-- what an event wrote, after the history before it. A lost time takes back all where it finds O4; a lost time in O5, a
-- frame in O6, a reply, the payload, the plan and the host take nothing back
abbrev pub entry_of : Station → List Event → Event → Entry
entry_of first earlier (considered m) = by_message (station_of first earlier) m
entry_of first earlier (ended arrivedRanging) = cond (to1_ends first earlier && arrivedRanging) took_all_back neither
entry_of first earlier unread = cond (to1_ends first earlier || to2_ends first earlier) took_all_back neither
entry_of first earlier lost = cond (in_state o4 (station_of first earlier) || to2_ends first earlier) took_all_back neither
entry_of first earlier replied = neither
entry_of first earlier (walked ports) = neither
entry_of first earlier (carried_over_lem words) = neither
entry_of first earlier (port_added port) = neither
entry_of first earlier (port_removed port) = neither
entry_of first earlier (key_given octets) = neither

abbrev pub ledger : Station → List Event → List Entry
ledger first [] = []
ledger first (e ∷ earlier) = entry_of first earlier e ∷ ledger first earlier

-- n is in the ledger if a message gave it and nothing since took it back
pub record InLedger (entries : List Entry) (n : ℕ) : Type 0 where
  pub since : List Entry
  pub before : List Entry
  pub given : entries ≡ since ++ (gave n ∷ before)
  pub kept : some (takes_back n) since ≡ false

-- what the ledger is exactly: the ONU-ID and the Alloc-IDs held
unfoldable pub holds : Station → ℕ → Bool
holds s n =
    (holds_identity_lem s.activation && eqb n s.link.onu.0)
    || some (same_alloc (record { 0 = n })) (held_allocs s.link.allocs)
