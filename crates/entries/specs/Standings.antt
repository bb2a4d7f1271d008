-- The paper's "Map walk", first half: what an entry of the map is by itself, whatever stands around it.
-- Assumes nothing.
use Rattle.std.specs.Prelude.{◌≡◌, Bool, true, false, cond, ◌&&◌, ◌||◌, eqb, ltb, leb}
use Rattle.ids.specs.declared.AllocId.{AllocId}
use Rattle.ids.specs.declared.OnuId.{OnuId}
use Rattle.ids.specs.Ids.{same_alloc, default_alloc_lem, broadcast_alloc}
use Rattle.xgtc.specs.declared.allocation.Allocation.{Allocation}
use Rattle.xgem.specs.Reads.{Found, fields, unreadable, short}
use Rattle.station.specs.declared.Activation.{Activation}
use Rattle.station.specs.declared.Activation.TheVariants.{Initial, SerialNumber, Ranging, Operation, Intermittent, EmergencyStop}
use Rattle.station.specs.States.{silent}
use Rattle.link.specs.declared.Allocs.{Allocs}
use Rattle.ids.specs.Places.{some}
use Rattle.link.specs.Link.{held_allocs}
use Rattle.entries.specs.Limits.{last_start, continuing}
use Rattle.entries.specs.declared.Own.{Own}
use Rattle.entries.specs.declared.Verdict.{Verdict}
use Rattle.entries.specs.declared.Verdict.TheVariants.{Planned, Unreadable, StartTimeUnfit, DbruWithoutRoom, Foreign, ContinuingNothing, Seventeenth, TooLong, Overlapping, AfterTheLast, Silent}
use Rattle.entries.specs.declared.Standing.{Standing}
use Rattle.entries.specs.declared.Standing.TheVariants.{Apart, Head, More}

abbrev pub is_planned_lem : Verdict → Bool
is_planned_lem Planned = true
is_planned_lem Unreadable = false
is_planned_lem StartTimeUnfit = false
is_planned_lem DbruWithoutRoom = false
is_planned_lem Foreign = false
is_planned_lem ContinuingNothing = false
is_planned_lem Seventeenth = false
is_planned_lem TooLong = false
is_planned_lem Overlapping = false
is_planned_lem AfterTheLast = false
is_planned_lem Silent = false

-- "if StartTime is 9,720 to 65,534"
unfoldable pub start_unfit_lem : Allocation → Bool
start_unfit_lem a = ltb last_start a.start && ltb a.start continuing

-- "or if DBRu is set with GrantSize 0"
unfoldable pub no_room_lem : Allocation → Bool
no_room_lem a = a.dbru && eqb a.grant 0

-- "65,535 continues the burst"; of what is usable, all else is a head
unfoldable pub continues : Allocation → Bool
continues a = eqb a.start continuing

-- "the ONU-ID and the added Alloc-IDs"
unfoldable pub held : OnuId → Allocs → AllocId → Bool
held onu allocs id = same_alloc id (default_alloc_lem onu) || some (same_alloc id) (held_allocs allocs)

-- "only a head to 1023 with PLOAMu and GrantSize 0"
unfoldable pub discovery : Allocation → Bool
discovery a = leb a.start last_start && (same_alloc a.alloc broadcast_alloc && (a.ploamu && eqb a.grant 0))

-- "the ONU-ID, the head with PLOAMu"
unfoldable pub ranging : OnuId → Allocation → Bool
ranging onu a = same_alloc a.alloc (default_alloc_lem onu) && (continues a || a.ploamu)

-- "Ours means: in O2-3 ..; in O4 ..; in O5 ... In O1, O6 and O7 nothing is ours."
abbrev pub ours_in : Activation → OnuId → Allocs → Allocation → Bool
ours_in Initial onu allocs a = false
ours_in SerialNumber onu allocs a = discovery a
ours_in (Ranging left) onu allocs a = ranging onu a
ours_in Operation onu allocs a = held onu allocs a.alloc
ours_in (Intermittent left) onu allocs a = false
ours_in EmergencyStop onu allocs a = false

abbrev pub ours : Own → Allocation → Bool
ours own a = ours_in own.activation own.onu own.allocs a

-- an entry that could be read: not of ours, for the first reason that applies, or a head of ours, or one that continues
unfoldable pub sorted : Own → Allocation → Standing
sorted own a =
    cond (start_unfit_lem a) (Apart StartTimeUnfit)
    (cond (no_room_lem a) (Apart DbruWithoutRoom)
    (cond (ours own a) (cond (continues a) (More a) (Head a)) (Apart Foreign)))

-- "A structure is unusable if unreadable"
abbrev pub read_as_standing : Own → Found Allocation → Standing
read_as_standing own (fields a) = sorted own a
read_as_standing own unreadable = Apart Unreadable
read_as_standing own short = Apart Unreadable

-- an entry of the map as it stands by itself; in a state that sends nothing, none is looked at
unfoldable pub standing : Own → Found Allocation → Standing
standing own e = cond (silent own.activation) (Apart Silent) (read_as_standing own e)

-- the entry e is a: read, usable and ours, in a state that may send; one that continues, or a head
pub record Mine (own : Own) (e : Found Allocation) (a : Allocation) (more : Bool) : Type 0 where
  pub read : e ≡ fields a
  pub sends : silent own.activation ≡ false
  pub fit : start_unfit_lem a ≡ false
  pub room : no_room_lem a ≡ false
  pub owned : ours own a ≡ true
  pub kind : continues a ≡ more
