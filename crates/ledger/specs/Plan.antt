-- Whose an entry of the map is, in the words of the ledger: "on the discovery number 1023 while we hold no identity and
-- otherwise on numbers that messages accepted in earlier frames gave us and nothing before that frame took back".
-- Assumes nothing.
use Rattle.std.specs.Prelude.{ℕ, ◌≤◌, ◌≡◌, ◌↔◌, Bool, true, false, ◌||◌, List}
use Rattle.xgtc.specs.declared.allocation.Allocation.{Allocation}
use Rattle.xgem.specs.Reads.{Found, fields}
use Rattle.station.specs.declared.Activation.TheVariants.{SerialNumber, Ranging, Operation}
use Rattle.station.specs.declared.Station.{Station}
use Rattle.station.specs.States.{holds_identity_lem}
use Rattle.entries.specs.declared.Own.{Own}
use Rattle.entries.specs.Limits.{last_start}
use Rattle.entries.specs.Standings.{start_unfit_lem, no_room_lem, continues, ours, Mine}
use Rattle.station.specs.States.{silent}
use Rattle.ledger.specs.Events.{Event, station_of}
use Rattle.ledger.specs.Entries.{Entry}
use Rattle.ledger.specs.Ledger.{ledger, InLedger}

-- what the plan looks at in a station
abbrev pub own_of : Station → Own
own_of s = record { activation = s.activation; onu = s.link.onu; allocs = s.link.allocs }

abbrev pub own_at : Station → List Event → Own
own_at first h = own_of (station_of first h)

abbrev pub Listed : Station → List Event → Allocation → Type 0
Listed first h a = InLedger (ledger first h) a.alloc.0

-- "a head to 1023 with PLOAMu and GrantSize 0"
pub record Discovery (a : Allocation) : Type 0 where
  pub head : a.start ≤ last_start
  pub number : a.alloc.0 ≡ 1023
  pub message : a.ploamu ≡ true
  pub size : a.grant ≡ 0

-- which entries are ours, by what the plan looks at in a station, in the words of a ledger
pub record Ours (entries : List Entry) (own : Own) : Type 0 where
  pub in-o23 : own.activation ≡ SerialNumber → (a : Allocation) → (ours own a ≡ true) ↔ Discovery a
  -- "the head with PLOAMu"
  pub in-o4
      : (left : ℕ) → own.activation ≡ Ranging left → (a : Allocation)
      → (ours own a ≡ true) ↔ (InLedger entries a.alloc.0 × ((continues a || a.ploamu) ≡ true))
  pub in-o5 : own.activation ≡ Operation → (a : Allocation) → (ours own a ≡ true) ↔ InLedger entries a.alloc.0
  pub elsewhere : silent own.activation ≡ true → (a : Allocation) → ours own a ≡ false

-- in a frame that arrives after the history h
abbrev pub OursAfter : Station → List Event → Type 0
OursAfter first h = Ours (ledger first h) (own_at first h)

-- what an entry that stands as ours says of its number
pub record NumberOf (first : Station) (h : List Event) : Type 0 where
  pub identified
      : (e : Found Allocation) (a : Allocation) (more : Bool) → Mine (own_at first h) e a more
      → holds_identity_lem (own_at first h).activation ≡ true → Listed first h a
  pub unidentified
      : (e : Found Allocation) (a : Allocation) (more : Bool) → Mine (own_at first h) e a more
      → holds_identity_lem (own_at first h).activation ≡ false → Discovery a
  -- and every entry on the ledger's numbers that is read and usable stands so
  pub operating
      : (own_at first h).activation ≡ Operation → (a : Allocation) → start_unfit_lem a ≡ false → no_room_lem a ≡ false → Listed first h a
      → Mine (own_at first h) (fields a) a (continues a)
  pub ranged
      : (left : ℕ) → (own_at first h).activation ≡ Ranging left → (a : Allocation) → start_unfit_lem a ≡ false → no_room_lem a ≡ false
      → Listed first h a → (continues a || a.ploamu) ≡ true → Mine (own_at first h) (fields a) a (continues a)
