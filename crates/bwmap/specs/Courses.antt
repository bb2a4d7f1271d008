-- What the turns of the walk that names come to. Nothing public speaks of these.
-- Assumes nothing.
use Rattle.std.specs.Prelude.{ℕ, zero, suc, ◌+◌, ◌-◌, ◌≤◌, cond, List, [], ◌++◌, replicate}
use Rattle.std.proofs.lemmas.List.Edits.{sets}
use Rattle.xgtc.specs.declared.allocation.Allocation.{Allocation}
use Rattle.entries.specs.declared.Own.{Own}
use Rattle.entries.specs.declared.Verdict.{Verdict}
use Rattle.entries.specs.declared.Verdict.TheVariants.{ContinuingNothing, Seventeenth}
use Rattle.entries.specs.declared.Standing.{Standing}
use Rattle.entries.specs.Standings.{is_planned_lem}
use Rattle.entries.specs.Names.{name_number}
use Rattle.series.specs.Limits.{more_a_burst}
use Rattle.series.specs.declared.Around.{Around}
use Rattle.series.specs.declared.Open.{Open}
use Rattle.series.specs.Series.{run, grants, judged}
use Rattle.series.specs.Opens.{Modest}
use Rattle.bwmap.specs.Turns.{rest}
use Rattle.bwmap.specs.Verdicts.{roles, verdicts_of}
use Rattle.bwmap.specs.Names.{name_numbers}
use Rattle.bwmap.specs.declared.names.Course.{Course}

-- ---- the series that is open

-- what is left of the series that is open with k so far
abbrev pub left : ℕ → List Standing → List Allocation
left zero l = []
left (suc k) l = run (more_a_burst - k) l

-- what is around the next series, behind one of k entries that ends at the word e: where none is open, nothing moves
abbrev pub past : ℕ → Around → Verdict → ℕ → Around
past zero around v e = around
past (suc k) around v e = cond (is_planned_lem v) (record { end = e; bursts = around.bursts + 1 }) around

-- the verdict on an entry of ours that continues and goes no series on, with k in the one that is open
abbrev pub excess : ℕ → Verdict
excess zero = ContinuingNothing
excess (suc k) = Seventeenth

-- ---- a series that ends before the i-th entry

abbrev pub behind : Around → Open → Around
behind around s = past s.entries around (judged around s.start s.words) (s.start + s.words)

abbrev pub ended : List ℕ → ℕ → Around → Open → List ℕ
ended p i around s = sets p (i - s.entries) (replicate s.entries (name_number (judged around s.start s.words)))

-- ---- what is still to come

-- the verdicts on the k entries of the series that is open, which has the verdict v and ends at the word e, and on the entries l after them
abbrev pub told : Around → ℕ → Verdict → ℕ → List Standing → List Verdict
told around k v e l = replicate k v ++ verdicts_of (past k around v e) v (roles k l)

-- where so many words of it are read: those that go it on count
abbrev pub to_tell : Around → ℕ → ℕ → ℕ → List Standing → List Verdict
to_tell around k start words l = told around k (judged around start (words + grants (left k l))) (start + (words + grants (left k l))) l

-- the lent list once every entry is named, before the i-th is looked at
abbrev pub named_from : Own → List ℕ → List ℕ → ℕ → Course → List ℕ
named_from own m p i w = sets p (i - w.series.entries) (name_numbers (to_tell w.around w.series.entries w.series.start w.series.words (rest own m i)))

-- the numbers of a walk stay small, and the series that is open lies before the i-th entry
pub record Steady (w : Course) (i : ℕ) : Type 0 where
  pub small : Modest w.series
  pub lies : w.series.entries ≤ i
