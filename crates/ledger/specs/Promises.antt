-- What is promised of the ledger, over any run from power-on.
-- Assumes nothing.
use Rattle.std.specs.Prelude.{ℕ, ◌%◌, ◌+◌, ◌≡◌, ◌↔◌, true, false, List, [], ◌∷◌, ◌++◌, length}
use Rattle.ids.specs.declared.AllocId.{AllocId}
use Rattle.ids.specs.Ids.{assignable_alloc, same_alloc}
use Rattle.ploam.specs.Layout.{number16}
use Rattle.station.specs.declared.Activation.TheVariants.{Ranging, Operation, Intermittent}
use Rattle.station.specs.declared.Station.{Station}
use Rattle.station.specs.Limits.{to1, to2}
use Rattle.station.specs.States.{o4}
use Rattle.link.specs.Link.{held_allocs, alloc_place}
use Rattle.validity.specs.Ranges.{proper}
use Rattle.ids.specs.Places.{is_held}
use Rattle.ledger.specs.Events.{Event, considered, ended, unread, lost, station_of}
use Rattle.ledger.specs.Entries.{Entry, gave, neither, takes_back}
use Rattle.ledger.specs.Messages.{by_message}
use Rattle.ledger.specs.Times.{o6, counts_to1, counts_to2, counted}
use Rattle.ledger.specs.Ledger.{entry_of, ledger, InLedger, holds}

-- a ledger is exactly the ONU-ID and the Alloc-IDs that a station holds
abbrev pub Holds : List Entry → Station → Type 0
Holds entries s = (n : ℕ) → InLedger entries n ↔ (holds s n ≡ true)

abbrev pub Exact : Station → List Event → Type 0
Exact first h = Holds (ledger first h) (station_of first h)

-- none of the events since took n back
abbrev pub Untaken : Station → ℕ → List Event → List Event → Type 0
Untaken first n [] earlier = Unit {0}
Untaken first n (e ∷ since) earlier = (takes_back n (entry_of first (since ++ earlier) e) ≡ false) × Untaken first n since earlier

-- what is in the ledger was given by a message, with the number in the low 14 bits of its octets 5-6
pub record GivenBy (first : Station) (h : List Event) (n : ℕ) : Type 0 where
  pub since : List Event
  pub message : List ℕ
  pub earlier : List Event
  pub history : h ≡ since ++ (considered message ∷ earlier)
  pub given : by_message (station_of first earlier) message ≡ gave n
  pub number : n ≡ number16 message 5 % 16384
  pub kept : Untaken first n since (considered message ∷ earlier)

-- what is left of the timers, and what has been counted over the history, make up TO1 and TO2
pub record Timed (first : Station) (h : List Event) : Type 0 where
  pub ranging : (left : ℕ) → (station_of first h).activation ≡ Ranging left → left + counted o4 counts_to1 first h ≡ to1
  pub intermittent
      : (left : ℕ) → (station_of first h).activation ≡ Intermittent left → left + counted o6 counts_to2 first h ≡ to2

-- "A lost time in O5, a frame in O6 and answers 4, 5, 6 by themselves take nothing back"
pub record TakesNothing (first : Station) (h : List Event) : Type 0 where
  pub lost_in_o5 : (station_of first h).activation ≡ Operation → entry_of first h lost ≡ neither
  pub unread_in_o5 : (station_of first h).activation ≡ Operation → entry_of first h unread ≡ neither
  -- at the end of a frame that did not arrive in O4, as none answered 6 does
  pub frame_elsewhere : entry_of first h (ended false) ≡ neither

-- so that "fewer than 16 held" and "held already" say as much of the ledger: the Alloc-IDs held are distinct, as many as the
-- station counts, and are the Alloc-IDs in the ledger
pub record AllocsListed (first : Station) (h : List Event) : Type 0 where
  pub distinct : proper assignable_alloc same_alloc (held_allocs (station_of first h).link.allocs) ≡ true
  pub many : length (held_allocs (station_of first h).link.allocs) ≡ (station_of first h).link.allocs.count
  pub listed
      : (id : AllocId) → assignable_alloc id ≡ true
      → InLedger (ledger first h) id.0 ↔ (is_held (alloc_place (station_of first h).link.allocs id) ≡ true)
