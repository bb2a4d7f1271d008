-- The promises of one map's plan: each planned series is one series of ours of that map, and each series of ours is
-- planned once, in map order, or passed over for its first reason.
-- Assumes nothing.
use Prim.Native.Nat.{ℕ, zero, suc, ◌+◌, ◌*◌, ◌^◌, ◌≤◌, ◌<◌, zero-le}
use mathlib.Core.Path.{◌≡◌, refl}
use mathlib.Core.List.{List, [], ◌∷◌}
use mathlib.Core.Bool.{Bool, true, false, cond}
use native.Mathlib.Omega.{arith}
use native.Mathlib.Numerals.{add-one}
use lib.Dec.{leb, ltb}
use lib.ListN.{length, drop, take}
use borrow.Author.Tests.{ltb-true, ltb-false, leb-true, leb-false}
use Rattle.hec.specs.Reads.{Reading, word, unreadable as unreadable-word, reading}
use Rattle.octets.specs.Octets.{value}
use Rattle.xgtc.specs.Layouts.{allocation_of}
use Rattle.xgtc.specs.declared.allocation.Allocation.{Allocation}
use Rattle.xgem.specs.Reads.{fields, short, taken}
use Rattle.xgtc.specs.Reads.{read_allocation_lem}
use Rattle.station.specs.Limits.{upstream_words}
use Rattle.entries.specs.Limits.{structure_octets, last_start}
use Rattle.entries.specs.declared.Own.{Own}
use Rattle.entries.specs.declared.Verdict.{Verdict}
use Rattle.entries.specs.declared.Verdict.TheVariants.{Planned, Unreadable, StartTimeUnfit, DbruWithoutRoom, Foreign, ContinuingNothing, Seventeenth, TooLong, Overlapping, AfterTheLast, Silent}
use Rattle.entries.specs.declared.Standing.{Standing}
use Rattle.entries.specs.declared.Standing.TheVariants.{Apart, Head, More}
use Rattle.entries.specs.Standings.{standing, is_planned_lem, Mine}
use Rattle.entries.proofs.Facts.{ours_is, stands_as, head_start}
use Rattle.series.specs.Limits.{words_a_burst, bursts_a_frame, entries_a_burst}
use Rattle.series.specs.declared.Around.{Around}
use Rattle.series.specs.Series.{Series, entry_at, entry_count, standings_from, standings, run, series_of, burst_words, end_of, outset, beyond, judged, verdict_of, planned, last_end, carried_over_lem, planned_of}
use Rattle.plan.specs.Plan.{entries_in, records}
use Rattle.bwmap.specs.Promises.{Follow, SeriesIn, Every, Because, Account}
use Rattle.bwmap.specs.Promises.Account.{done, plans, too_long, overlapping, after_the_last}
use Rattle.series.proofs.Runs.{run_length}
use Rattle.series.proofs.Judged.{planned_facts}

-- ---- fields of a word that was read

module _ (h : Allocation) where
  word-start : (r : Reading) → taken allocation_of r ≡ fields h → h.start < 2 ^ 16
  word-start (word w) e =
      let s : allocation_of w ≡ h = cc in
      rw (← s) (omega arith)
  word-start unreadable-word e =
      let z : ◌≡◌ {A = ℕ} 0 1 = cc in
      omega arith

  read_start : (s : List ℕ) → read_allocation_lem s ≡ fields h → h.start < 2 ^ 16
  read_start s e = go (leb 8 (length s)) e
    where
      go : (b : Bool) → cond b (taken allocation_of (reading 64 (value (take 8 s)))) short ≡ fields h → h.start < 2 ^ 16
      go true e = word-start (reading 64 (value (take 8 s))) e
      go false e =
          let z : ◌≡◌ {A = ℕ} 0 1 = cc in
          omega arith

entry-start : (m : List ℕ) (i : ℕ) (h : Allocation) → entry_at m i ≡ fields h → h.start < 2 ^ 16
unfolding entry_at
entry-start m i h e = read_start h (drop (structure_octets * i) m) e

-- ---- whose a series is

module _ (own : Own) (m : List ℕ) where
  mine : (i : ℕ) (a : Allocation) (more : Bool) → standing own (entry_at m i) ≡ stands_as more a → Mine own (entry_at m i) a more
  mine i a more e = ours_is own (entry_at m i) a more e

  pub follow : (k i j : ℕ) → i + j ≤ entry_count m → Follow own m i (run k (standings_from own m i j))
  follow zero i j h = tt
  follow (suc k) i zero h = tt
  follow (suc k) i (suc j) h = go (standing own (entry_at m i)) refl (follow k (suc i) j (omega arith))
    where
      go : (x : Standing) → standing own (entry_at m i) ≡ x → Follow own m (suc i) (run k (standings_from own m (suc i) j))
          → Follow own m i (run (suc k) (x ∷ standings_from own m (suc i) j))
      go (Apart v) e f = tt
      go (Head a) e f = tt
      go (More a) e f = (omega arith, mine i a true e, rw (add-one i) f)

  series-in : (i j : ℕ) → i + j ≤ entry_count m → Every (SeriesIn own m) (series_of (standings_from own m i j))
  series-in i zero h = tt
  series-in i (suc j) h = go (standing own (entry_at m i)) refl (series-in (suc i) j (omega arith))
    where
      go : (x : Standing) → standing own (entry_at m i) ≡ x → Every (SeriesIn own m) (series_of (standings_from own m (suc i) j))
          → Every (SeriesIn own m) (series_of (x ∷ standings_from own m (suc i) j))
      go (Apart v) e r = r
      go (More a) e r = r
      go (Head a) e r =
          let head : Mine own (entry_at m i) a false = mine i a false e in
          let few = (run_length 15 (standings_from own m (suc i) j)).1 in (
            record {
              at = i;
              lies = omega arith;
              head = head;
              more = rw (add-one i) (follow 15 (suc i) j (omega arith));
              few = omega arith;
              start = head_start a (entry-start m i a head.read) head.fit head.kind;
            },
            r,
          )

-- what holds of every series holds of those that are planned
every-planned : (P : Series → Type 0) (around : Around) (l : List Series) → Every P l → Every P (planned around l)
every-planned P around [] h = tt
every-planned P around (s ∷ l) h = go (is_planned_lem (verdict_of around s)) (every-planned P (beyond around s) l h.1) (every-planned P around l h.1)
  where
    go : (b : Bool) → Every P (planned (beyond around s) l) → Every P (planned around l) → Every P (cond b (s ∷ planned (beyond around s) l) (planned around l))
    go true x y = (h.0, x)
    go false x y = y

module _ (own : Own) (m : List ℕ) where
  -- each series is one of ours
  pub series-ours : Every (SeriesIn own m) (series_of (standings own m))
  series-ours = series-in own m 0 (entry_count m) (omega arith)

  -- each planned series is one of ours
  pub planned-ours : (carried : ℕ) → Every (SeriesIn own m) (planned_of own m carried)
  planned-ours carried = every-planned (SeriesIn own m) (outset carried) (series_of (standings own m)) series-ours

-- ---- why

because_of
    : (around : Around) (s : Series) (a b d : Bool) → ltb words_a_burst (burst_words s) ≡ a → ltb s.head.start around.end ≡ b → leb bursts_a_frame around.bursts ≡ d
    → Because around s (cond a TooLong (cond b Overlapping (cond d AfterTheLast Planned)))
because_of around s true b d p q r = ltb-true words_a_burst (burst_words s) p
because_of around s false true d p q r = (ltb-false words_a_burst (burst_words s) p, ltb-true s.head.start around.end q)
because_of around s false false true p q r = (ltb-false words_a_burst (burst_words s) p, ltb-false s.head.start around.end q, leb-true bursts_a_frame around.bursts r)
because_of around s false false false p q r = (ltb-false words_a_burst (burst_words s) p, ltb-false s.head.start around.end q, leb-false bursts_a_frame around.bursts r)

-- the verdict on a series is its first reason
pub first-reason : (around : Around) (s : Series) → Because around s (verdict_of around s)
unfolding judged
first-reason around s = because_of around s (ltb words_a_burst (burst_words s)) (ltb s.head.start around.end) (leb bursts_a_frame around.bursts) refl refl refl

account-one
    : (around : Around) (s : Series) (l : List Series) (v : Verdict) → Because around s v → Account (beyond around s) l (planned (beyond around s) l) → Account around l (planned around l)
    → Account around (s ∷ l) (cond (is_planned_lem v) (s ∷ planned (beyond around s) l) (planned around l))
account-one around s l Planned h x y = plans h x
account-one around s l TooLong h x y = too_long h y
account-one around s l Overlapping h x y = overlapping h y
account-one around s l AfterTheLast h x y = after_the_last h y
account-one around s l Unreadable h x y = absurd h
account-one around s l StartTimeUnfit h x y = absurd h
account-one around s l DbruWithoutRoom h x y = absurd h
account-one around s l Foreign h x y = absurd h
account-one around s l ContinuingNothing h x y = absurd h
account-one around s l Seventeenth h x y = absurd h
account-one around s l Silent h x y = absurd h

pub account : (around : Around) (l : List Series) → Account around l (planned around l)
account around [] = done
account around (s ∷ l) = account-one around s l (verdict_of around s) (first-reason around s) (account (beyond around s) l) (account around l)

-- every series of ours in a map is planned once, in map order, or passed over for its first reason
pub every_series_accounted : (own : Own) (m : List ℕ) (carried : ℕ) → Account (outset carried) (series_of (standings own m)) (planned_of own m carried)
every_series_accounted own m carried = account (outset carried) (series_of (standings own m))

-- ---- numbers

planned-few : (around : Around) (l : List Series) → around.bursts ≤ bursts_a_frame → around.bursts + length (planned around l) ≤ bursts_a_frame
planned-few around [] h = omega arith
planned-few around (s ∷ l) h = go (is_planned_lem (verdict_of around s)) refl (planned-few (beyond around s) l) (planned-few around l h)
  where
    go : (b : Bool) → is_planned_lem (verdict_of around s) ≡ b → (around.bursts + 1 ≤ bursts_a_frame → around.bursts + 1 + length (planned (beyond around s) l) ≤ bursts_a_frame) → around.bursts + length (planned around l) ≤ bursts_a_frame
        → around.bursts + length (cond b (s ∷ planned (beyond around s) l) (planned around l)) ≤ bursts_a_frame
    go true t x y =
        let f = planned_facts around s.head.start (burst_words s) t in
        let z = x (omega arith) in
        omega arith
    go false t x y = y

records-few : (P : Series → Type 0) → ((s : Series) → P s → entries_in s ≤ entries_a_burst) → (l : List Series) → Every P l → records l ≤ entries_a_burst * length l
records-few P f [] h = zero-le
records-few P f (s ∷ l) h =
    let a = f s h.0 in
    let ih = records-few P f l h.1 in
    omega arith

module _ (own : Own) (m : List ℕ) (carried : ℕ) where
  -- "4 bursts a frame"
  pub bursts-most : length (planned_of own m carried) ≤ bursts_a_frame
  bursts-most =
      let a = planned-few (outset carried) (series_of (standings own m)) zero-le in
      omega arith

  -- "at most 64 records of four"
  pub records-most : records (planned_of own m carried) ≤ 64
  records-most =
      let a = records-few (SeriesIn own m) (λ s x. x.few) (planned_of own m carried) (planned-ours own m carried) in
      omega (arith, bursts-most)

-- ---- the words carried over

end_low : (P : Series → Type 0) → ((s : Series) → P s → s.head.start ≤ last_start) → (around : Around) (l : List Series) → Every P l → around.end < 2 * upstream_words → last_end around.end (planned around l) < 2 * upstream_words
end_low P f around [] h le = le
end_low P f around (s ∷ l) h le = go (is_planned_lem (verdict_of around s)) refl (end_low P f (beyond around s) l h.1) (end_low P f around l h.1 le)
  where
    go : (b : Bool) → is_planned_lem (verdict_of around s) ≡ b → (end_of s < 2 * upstream_words → last_end (end_of s) (planned (beyond around s) l) < 2 * upstream_words)
        → last_end around.end (planned around l) < 2 * upstream_words → last_end around.end (cond b (s ∷ planned (beyond around s) l) (planned around l)) < 2 * upstream_words
    go true t x y =
        let k = planned_facts around s.head.start (burst_words s) t in
        let z = f s h.0 in
        x (omega arith)
    go false t x y = y

-- "carried words at most 9,719"
pub carried_most : (own : Own) (m : List ℕ) (carried : ℕ) → carried < upstream_words → carried_over_lem (last_end carried (planned_of own m carried)) < upstream_words
carried_most own m carried h =
    let e = end_low (SeriesIn own m) (λ s x. x.start) (outset carried) (series_of (standings own m)) (series-ours own m) (omega arith) in
    omega arith
