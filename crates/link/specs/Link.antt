-- What the head end gives a station, what the station owes it, and nothing of either.
-- Assumes nothing.
use Rattle.std.specs.Prelude.{None, Option, Some, ℕ, ◌+◌, ◌-◌, List, true, false, cond, get_or, take, set, replicate, leb, eqb}
use Rattle.ids.specs.declared.OnuId.{OnuId}
use Rattle.ids.specs.declared.AllocId.{AllocId}
use Rattle.ids.specs.Ids.{same_alloc, broadcast_onu}
use Rattle.link.specs.declared.Response.TheVariants.{Registration}
use Rattle.link.specs.declared.Owed.{Owed}
use Rattle.link.specs.declared.Key.{Key}
use Rattle.link.specs.declared.Allocs.{Allocs}
use Rattle.link.specs.declared.Queue.{Queue}
use Rattle.link.specs.declared.Link.{Link}
use Rattle.link.specs.Limits.{added_allocs, most_owed, key_octets}
use Rattle.ids.specs.Places.{place_from}
use Rattle.link.specs.Lists.{close_up}

-- ---- nothing held: what is no longer looked at is overwritten, so that equal histories give equal states

abbrev pub no_alloc : AllocId
no_alloc = record { 0 = 0 }

abbrev pub blank : Owed
blank = record { response = Registration; seq_no = 0 }

abbrev pub no_key : Key
no_key = record { held = false; octets = replicate key_octets 0 }

abbrev pub no_allocs : Allocs
no_allocs = record { ids = replicate added_allocs no_alloc; count = 0 }

abbrev pub none_owed : Queue
none_owed = record { answers = replicate most_owed blank; count = 0 }

abbrev pub nothing : Link
nothing = record { onu = broadcast_onu; allocs = no_allocs; delay = 0; key = no_key; owed = none_owed }

-- ---- the added Alloc-IDs

abbrev pub held_allocs : Allocs → List AllocId
held_allocs a = take a.count a.ids

abbrev pub alloc_place : Allocs → AllocId → Option ℕ
alloc_place a id = place_from (same_alloc id) 0 (held_allocs a)

abbrev pub add_alloc : Allocs → AllocId → Allocs
add_alloc a id = cond (leb added_allocs a.count) a (record { ids = set a.ids a.count id; count = a.count + 1 })

-- "removes and keeps the others' order"
abbrev pub remove_at : Allocs → Option ℕ → Allocs
remove_at a (Some i) = record { ids = close_up no_alloc i a.ids; count = a.count - 1 }
remove_at a None = a

abbrev pub remove_alloc : Allocs → AllocId → Allocs
remove_alloc a id = remove_at a (alloc_place a id)

-- ---- the answers owed

abbrev pub owed_answers : Queue → List Owed
owed_answers q = take q.count q.answers

abbrev pub owe : Queue → Owed → Queue
owe q answer = cond (leb most_owed q.count) q (record { answers = set q.answers q.count answer; count = q.count + 1 })

abbrev pub oldest : Queue → Owed
oldest q = get_or q.answers 0 blank

-- "the oldest owed answer, which is then no longer owed"
abbrev pub paid : Queue → Queue
paid q = cond (eqb q.count 0) q (record { answers = close_up blank 0 q.answers; count = q.count - 1 })

-- ---- the key

abbrev pub installed : List ℕ → Key
installed octets = record { held = true; octets = octets }

-- ---- a link that differs in one thing

abbrev pub with_onu_lem : Link → OnuId → Link
with_onu_lem l onu = record { onu = onu; allocs = l.allocs; delay = l.delay; key = l.key; owed = l.owed }

abbrev pub with_allocs_lem : Link → Allocs → Link
with_allocs_lem l allocs = record { onu = l.onu; allocs = allocs; delay = l.delay; key = l.key; owed = l.owed }

abbrev pub with_delay_lem : Link → ℕ → Link
with_delay_lem l delay = record { onu = l.onu; allocs = l.allocs; delay = delay; key = l.key; owed = l.owed }

abbrev pub with_key_lem : Link → Key → Link
with_key_lem l key = record { onu = l.onu; allocs = l.allocs; delay = l.delay; key = key; owed = l.owed }

abbrev pub with_owed_lem : Link → Queue → Link
with_owed_lem l owed = record { onu = l.onu; allocs = l.allocs; delay = l.delay; key = l.key; owed = owed }
