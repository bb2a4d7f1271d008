-- What each name of a structure says, by itself: over the map as mended and what is ours, whatever a walk does. "The reason given must be
-- the true one: each name is given exactly when its fact holds and nothing earlier in this list applies, except that the silent state
-- comes before all."
-- Assumes nothing.
use Rattle.std.specs.Prelude.{ℕ, ◌+◌, ◌-◌, ◌*◌, ◌≤◌, ◌<◌, ◌≡◌, ◌⊎◌, Bool, true, false, List, [], ◌∷◌, length, take}
use Rattle.xgtc.specs.declared.allocation.Allocation.{Allocation}
use Rattle.xgem.specs.Reads.{fields, unreadable}
use Rattle.entries.specs.Limits.{structure_octets}
use Rattle.entries.specs.declared.Own.{Own}
use Rattle.entries.specs.declared.Verdict.{Verdict}
use Rattle.entries.specs.declared.Verdict.TheVariants.{Planned, Unreadable, StartTimeUnfit, DbruWithoutRoom, Foreign, ContinuingNothing, Seventeenth, TooLong, Overlapping, AfterTheLast, Silent}
use Rattle.entries.specs.Standings.{start_unfit_lem, no_room_lem, continues, ours, Mine}
use Rattle.station.specs.States.{silent}
use Rattle.series.specs.Limits.{words_a_burst, bursts_a_frame, entries_a_burst}
use Rattle.series.specs.Series.{Series, entry_at, burst_words, planned_of, last_end}
use Rattle.bwmap.specs.Promises.{Follow}

-- ---- "A series is a head of ours and the entries straight after it that continue and are ours", sixteen at most

-- the i-th entry is of ours, and continues or is a head
pub record OursAt (own : Own) (m : List ℕ) (i : ℕ) (more : Bool) : Type 0 where
  pub is : Allocation
  pub mine : Mine own (entry_at m i) is more

-- the i-th entry is of the series whose head is the h-th
pub record Belongs (own : Own) (m : List ℕ) (h i : ℕ) : Type 0 where
  pub behind : h ≤ i
  pub few : i < h + entries_a_burst
  pub head : OursAt own m h false
  pub more : (j : ℕ) → h < j → j ≤ i → OursAt own m j true

-- s is the whole series whose head is the h-th entry: what stands behind is of it no more
pub record SeriesAt (own : Own) (m : List ℕ) (h : ℕ) (s : Series) : Type 0 where
  pub head : Mine own (entry_at m h) s.head false
  pub more : Follow own m (h + 1) s.more
  pub few : length s.more + 1 ≤ entries_a_burst
  pub whole : Belongs own m h (h + length s.more + 1) → ⊥

-- ---- what a structure is by itself

-- it could be read, and this holds of it
pub record Reads (m : List ℕ) (i : ℕ) (P : Allocation → Type 0) : Type 0 where
  pub fields_are : Allocation
  pub reads : entry_at m i ≡ fields fields_are
  pub holds : P fields_are

-- it continues, and the entry before it is of no series: there is nothing to continue
abbrev pub NothingBefore : Own → List ℕ → ℕ → Type 0
NothingBefore own m i = (h : ℕ) → h < i → Belongs own m h (i - 1) → ⊥

-- the sixteen straight before it are a series
pub record AfterSixteen (own : Own) (m : List ℕ) (i : ℕ) : Type 0 where
  pub head : ℕ
  pub place : i ≡ head + entries_a_burst
  pub sixteen : Belongs own m head (i - 1)

-- ---- what befalls a series, and so each of its entries

-- what is planned of the map before the h-th entry
abbrev pub planned_before : Own → List ℕ → ℕ → ℕ → List Series
planned_before own m carried h = planned_of own (take (structure_octets * h) m) carried

-- "over 9,720 words"
abbrev pub Long : Series → Type 0
Long s = words_a_burst < burst_words s

-- "starts before the word where the last planned burst ends"; the words carried over stand for the last burst of the frame before
abbrev pub Overlaps : ℕ → List Series → Series → Type 0
Overlaps carried before s = s.head.start < last_end carried before

-- "four are planned already"
abbrev pub Late : List Series → Type 0
Late before = bursts_a_frame ≤ length before

-- the i-th entry is of a whole series, and of it and of what is planned before its head this holds
pub record OfSeries (own : Own) (m : List ℕ) (carried i : ℕ) (P : List Series → Series → Type 0) : Type 0 where
  pub head : ℕ
  pub series : Series
  pub at : SeriesAt own m head series
  pub of : Belongs own m head i
  pub holds : P (planned_before own m carried head) series

-- ---- the fact behind each name of the i-th structure

abbrev pub Fact : Own → List ℕ → ℕ → ℕ → Verdict → Type 0
Fact own m carried i Silent = silent own.activation ≡ true
Fact own m carried i Planned = OfSeries own m carried i (λ before s. (Long s → ⊥) × (Overlaps carried before s → ⊥) × (Late before → ⊥))
Fact own m carried i Unreadable = entry_at m i ≡ unreadable
Fact own m carried i StartTimeUnfit = Reads m i (λ a. start_unfit_lem a ≡ true)
Fact own m carried i DbruWithoutRoom = Reads m i (λ a. no_room_lem a ≡ true)
Fact own m carried i Foreign = Reads m i (λ a. ours own a ≡ false)
Fact own m carried i ContinuingNothing = Reads m i (λ a. continues a ≡ true) × NothingBefore own m i
Fact own m carried i Seventeenth = Reads m i (λ a. continues a ≡ true) × AfterSixteen own m i
Fact own m carried i TooLong = OfSeries own m carried i (λ before s. Long s)
Fact own m carried i Overlapping = OfSeries own m carried i (λ before s. Overlaps carried before s)
Fact own m carried i AfterTheLast = OfSeries own m carried i (λ before s. Late before)

-- the names in the order of the request
abbrev pub in_order_lem : List Verdict
in_order_lem =
    Silent ∷ Planned ∷ Unreadable ∷ StartTimeUnfit ∷ DbruWithoutRoom ∷ Foreign ∷ ContinuingNothing ∷ Seventeenth ∷ TooLong ∷ Overlapping
    ∷ AfterTheLast ∷ []

-- v is the first of the list whose fact holds
abbrev pub First : (Verdict → Type 0) → List Verdict → Verdict → Type 0
First F [] v = ⊥
First F (w ∷ l) v = ((v ≡ w) × F w) ⊎ ((F w → ⊥) × First F l v)
