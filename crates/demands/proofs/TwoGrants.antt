-- In O2-3 a frame with two discovery grants, at words 0 and 100: what this engine does with it, and that demand 3 has any engine
-- send two bursts.
-- Assumes nothing.
use Prim.Native.Nat.{ℕ}
use native.Mathlib.Omega.{arith}
use mathlib.Core.Path.{◌≡◌, ◌∙◌, refl, ap, ap₂, subst}
use mathlib.Core.Bool.{true, false}
use mathlib.Core.List.{List, [], ◌∷◌, ◌++◌}
use lib.Dec.{lit<}
use lib.Count.{ones_in}
use Rattle.hec.specs.Reads.{word}
use Rattle.hec.proofs.Compute.{computed32, computed64}
use Rattle.bch.specs.Code.{remainder_from}
use Rattle.flips.proofs.FlipRule.{flips}
use Rattle.xgtc.specs.declared.allocation.Allocation.{Allocation}
use Rattle.xgtc.specs.declared.hlend.Hlend.{Hlend}
use Rattle.xgtc.specs.Layouts.{hlend_of, allocation_of}
use Rattle.xgem.specs.Reads.{Found, fields, taken}
use Rattle.xgtc.specs.Reads.{read_hlend_lem}
use Rattle.station.specs.declared.Station.{Station}
use Rattle.answers.specs.Answers.{answer_number}
use Rattle.entries.specs.declared.Verdict.TheVariants.{Planned, ContinuingNothing}
use Rattle.entries.specs.Names.{name_number}
use Rattle.entries.specs.Standings.{standing, sorted, start_unfit_lem, no_room_lem, continues, discovery}
use Rattle.series.specs.Series.{Series, entry_at, standings, series_of, outset, planned, judged, words_of}
use Rattle.bwmap.specs.Promises.{Account}
use Rattle.bwmap.specs.Verdicts.{roles, verdicts_of}
use Rattle.bwmap.specs.Names.{name_numbers, names_of}
use Rattle.plan.specs.Laser.{Sending, bursts_of}
use Rattle.downstream.specs.Lengths.{length_fits_lem}
use Rattle.frame.specs.Given.{Arrival, Lent, enough}
use Rattle.downstream.specs.Partitions.{map_of}
use Rattle.frame.specs.Frame.{FrameLeft, own_of, planned_in, handled, frame_left}
use Rattle.engine.specs.Lods.{lost_left}
use Rattle.engine.specs.Answers.{lost_in, Handled, Row}
use Rattle.engine.proofs.Table.{only}
use Rattle.demands.specs.Runs.{frame}
use Rattle.demands.specs.Demand3.{sendings, placed, Demand3}
use Rattle.demands.specs.Wrong.{with_frame}
use Rattle.demands.proofs.RefutingRuns.{fresh, memory, buffers, lent, arrives, begun, Leads, on, asked, next-planned, none_planned, bare, searching, searching_in_range, bare_leads}

-- ---- the frame as it is read

unfoldable pub two : List ℕ
two = 0 ∷ 64 ∷ 13 ∷ 43 ∷ 15 ∷ 253 ∷ 0 ∷ 0 ∷ 0 ∷ 0 ∷ 8 ∷ 20 ∷ 15 ∷ 253 ∷ 0 ∷ 100 ∷ 0 ∷ 0 ∷ 22 ∷ 205 ∷ []

unfoldable pub two_entries : Hlend
two_entries = record { bwmap = 2; ploam = 0 }

unfoldable pub grant_at : ℕ → Allocation
grant_at start = record { alloc = record { 0 = 1023 }; dbru = false; ploamu = true; start = start; grant = 0; fwi = false; profile = 0 }

unfoldable pub series_from : ℕ → Series
series_from start = record { head = grant_at start; more = [] }

pub reads_two : read_hlend_lem two ≡ fields two_entries
unfolding two two_entries remainder_from ones_in flips
reads_two = ap (taken hlend_of) (computed32 0x00400D2B (lit< tt) (word 0x00400D2B) refl)

first_entry : entry_at (map_of two_entries two) 0 ≡ fields (grant_at 0)
unfolding two two_entries grant_at entry_at remainder_from ones_in flips
first_entry = ap (taken allocation_of) (computed64 0x0FFD000000000814 (lit< tt) (word 0x0FFD000000000814) refl)

second-entry : entry_at (map_of two_entries two) 1 ≡ fields (grant_at 100)
unfolding two two_entries grant_at entry_at remainder_from ones_in flips
second-entry = ap (taken allocation_of) (computed64 0x0FFD0064000016CD (lit< tt) (word 0x0FFD0064000016CD) refl)

two-series : series_of (standings (own_of searching) (map_of two_entries two)) ≡ series_from 0 ∷ series_from 100 ∷ []
unfolding series_from grant_at two two_entries standing sorted start_unfit_lem no_room_lem continues discovery
two-series = ap₂ (λ (a b : Found Allocation). series_of (standing (own_of searching) a ∷ standing (own_of searching) b ∷ [])) first_entry second-entry

-- ---- this engine

handled-two : Handled searching (arrives two) lent false (handled searching two_entries (arrives two) lent)
unfolding lost_in length_fits_lem enough two memory buffers two_entries
handled-two =
    record {
      passed = record { state = searching_in_range; frame = refl; buffers = refl };
      hlend = two_entries;
      reads = reads_two;
      fits = omega arith;
      delineation = refl;
      leaves = refl;
    }

pub left-two : handled searching two_entries (arrives two) lent ≡ frame_left searching (arrives two) lent
left-two = (only searching (arrives two) lent 0 (handled searching two_entries (arrives two) lent) (Row.done handled-two)).0

pub answer_two : answer_number (handled searching two_entries (arrives two) lent).outcome.answer ≡ 0
answer_two = (only searching (arrives two) lent 0 (handled searching two_entries (arrives two) lent) (Row.done handled-two)).1

pub two-planned : planned_in searching two_entries (arrives two) ≡ series_from 0 ∷ series_from 100 ∷ []
unfolding planned_in series_from grant_at judged words_of
two-planned = ap (planned (outset 0)) two-series

-- it calls both planned
pub two-named : names_of (own_of searching) (map_of two_entries two) 0 ≡ name_number Planned ∷ name_number Planned ∷ []
unfolding grant_at two two_entries standing sorted start_unfit_lem no_room_lem continues discovery judged words_of
two-named =
    ap₂ (λ (a b : Found Allocation). name_numbers (verdicts_of (outset 0) ContinuingNothing (roles 0 (standing (own_of searching) a ∷ standing (own_of searching) b ∷ []))))
    first_entry second-entry

-- ---- any engine

both-planned : (p : List Series) → Account (outset 0) (series_from 0 ∷ series_from 100 ∷ []) p → p ≡ series_from 0 ∷ series_from 100 ∷ []
unfolding series_from grant_at words_of
both-planned p a =
    let x = next-planned (omega arith) (omega arith) (omega arith) a in
    let y = next-planned (omega arith) (omega arith) (omega arith) x.account in
    x.is ∙ ap (λ (l : List Series). series_from 0 ∷ l) (y.is ∙ ap (λ (l : List Series). series_from 100 ∷ l) (none_planned y.account))

-- one that goes from power-on to O2-3 as it should, sending nothing on the way, and answers this frame with 0
pub sends_both : (call : Station → Arrival → Lent → FrameLeft) → Demand3 (with_frame call) → Leads (call fresh (arrives bare) lent) searching
    → sendings (call fresh (arrives bare) lent) ≡ [] → answer_number (call searching (arrives two) lent).outcome.answer ≡ 0
    → sendings (call searching (arrives two) lent) ≡ bursts_of (series_from 0 ∷ series_from 100 ∷ [])
sends_both call d first dark answer =
    let o = asked call lost_left d (frame (arrives bare) buffers ∷ []) searching searching
    (on call lost_left _ fresh fresh begun bare searching searching bare_leads first) (ap (λ (l : List Sending). placed 0 l ++ []) dark) two two_entries reads_two answer in
    o.are ∙ ap bursts_of (both-planned o.planned (subst (λ (l : List Series). Account (outset 0) l o.planned) two-series o.account))
