-- What the turns of the walk's loops come to. Nothing public speaks of these.
-- Assumes nothing.
use Rattle.std.specs.Prelude.{None, Option, Some, true, false, ℕ, zero, suc, ◌+◌, ◌-◌, ◌*◌, ◌≤◌, ◌<◌, ◌≡◌, List, [], ◌∷◌, length}
use Rattle.bwmap.specs.declared.search.Ended.{Ended}
use Rattle.std.proofs.lemmas.List.Edits.{sets}
use Rattle.xgem.specs.Reads.{Found, fields, unreadable, short}
use Rattle.xgtc.specs.declared.allocation.Allocation.{Allocation}
use Rattle.entries.specs.declared.Own.{Own}
use Rattle.entries.specs.declared.Standing.{Standing}
use Rattle.entries.specs.declared.Standing.TheVariants.{Head}
use Rattle.entries.specs.Standings.{standing, is_planned_lem}
use Rattle.series.specs.Limits.{bursts_a_frame, entries_a_burst}
use Rattle.plan.specs.Limits.{numbers_a_record}
use Rattle.series.specs.declared.Around.{Around}
use Rattle.series.specs.Series.{Series, entry_at, entry_count, standings_from, run, series_of, grants, words_of, outset, judged, planned, last_end}
use Rattle.plan.specs.Plan.{numbers, records, messages}
use Rattle.series.specs.Opens.{closed}
use Rattle.series.specs.declared.Open.{Open}
use Rattle.bwmap.specs.declared.Walk.{Walk}

-- the entries from the i-th on
abbrev pub rest : Own → List ℕ → ℕ → List Standing
rest own m i = standings_from own m i (entry_count m - i)

-- how many entries continue a head, and the sum of their GrantSizes
pub record Run : Type 0 where
  pub count : ℕ
  pub grants : ℕ

abbrev pub tally : ℕ → ℕ → List Allocation → Run
tally k g l = record { count = k + length l; grants = g + grants l }

-- ---- a series as it is read

-- the head of s stands at `at`, `from` or later, and what continues it is read up to the i-th entry
pub record Running (own : Own) (m : List ℕ) (from i : ℕ) (s : Open) : Type 0 where
  pub at : ℕ
  pub head : Allocation
  pub more : ℕ
  pub grants : ℕ
  pub after : from ≤ at
  pub lies : at < entry_count m
  pub stands : standing own (entry_at m at) ≡ Head head
  pub here : i ≡ at + 1 + more
  pub few : more ≤ 15
  pub is : s ≡ record { entries = more + 1; start = head.start; words = words_of head grants }
  pub so_far : tally more grants (run (15 - more) (rest own m i)) ≡ tally 0 0 (run 15 (rest own m (at + 1)))

-- between `from` and the i-th entry, or the head of the series that is open, none is planned
pub data Stage (own : Own) (m : List ℕ) (around : Around) (from i : ℕ) (s : Open) : Type 0 where
  between : s ≡ closed → planned around (series_of (rest own m i)) ≡ planned around (series_of (rest own m from)) → Stage own m around from i s
  within : (r : Running own m from i s) → planned around (series_of (rest own m r.at)) ≡ planned around (series_of (rest own m from)) → Stage own m around from i s

-- the series that ends before the i-th entry is the next one planned
pub record Reached (own : Own) (m : List ℕ) (around : Around) (from i : ℕ) (s : Open) : Type 0 where
  pub low : s.start < 65536
  pub ends : i ≤ entry_count m
  pub running : Running own m from i s
  pub stops : run (15 - running.more) (rest own m i) ≡ []
  pub fit : is_planned_lem (judged around s.start s.words) ≡ true
  pub next : planned around (series_of (rest own m running.at)) ≡ planned around (series_of (rest own m from))

abbrev pub NextPlanned : Own → List ℕ → Around → ℕ → Option Ended → Type 0
NextPlanned own m around from (Some e) = Reached own m around from e.until e.series
NextPlanned own m around from None = planned around (series_of (rest own m from)) ≡ []

-- ---- the entries of a series as they are written

abbrev pub no_allocation_lem : Allocation
no_allocation_lem = record { alloc = record { 0 = 0 }; dbru = false; ploamu = false; start = 0; grant = 0; fwi = false; profile = 0 }

abbrev pub fields_of : Found Allocation → Allocation
fields_of (fields a) = a
fields_of unreadable = no_allocation_lem
fields_of short = no_allocation_lem

unfoldable pub allocation_at_lem : List ℕ → ℕ → Allocation
allocation_at_lem m i = fields_of (entry_at m i)

-- those of k entries from the i-th on
abbrev pub allocations_from : List ℕ → ℕ → ℕ → List Allocation
allocations_from m i zero = []
allocations_from m i (suc k) = allocation_at_lem m i ∷ allocations_from m (suc i) k

-- ---- what is still to come

-- the numbers of a plan and what is counted, with the series l still to be written
pub record Finished : Type 0 where
  pub plan : List ℕ
  pub records : ℕ
  pub bursts : ℕ
  pub messages : ℕ
  pub end : ℕ

abbrev pub finished : List ℕ → Walk → List Series → Finished
finished p w l =
    record {
      plan = sets p (numbers_a_record * w.records) (numbers l);
      records = w.records + records l;
      bursts = w.around.bursts + length l;
      messages = w.messages + messages l;
      end = last_end w.around.end l;
    }

abbrev pub to_come : Own → List ℕ → List ℕ → Walk → Finished
to_come own m p w = finished p w (planned w.around (series_of (rest own m w.at)))

-- where a walk begins: the words carried over stand for the last burst
abbrev pub starting : ℕ → Walk
starting carried = record { at = 0; records = 0; messages = 0; around = outset carried }

-- the numbers of a walk stay small
pub record Small (w : Walk) : Type 0 where
  pub few : w.around.bursts ≤ bursts_a_frame
  pub room : w.records ≤ entries_a_burst * w.around.bursts
  pub sent : w.messages ≤ w.around.bursts
  pub low : w.around.end ≤ 65535
