-- The part of a map before an entry: what stands in it, and what is planned of it.
-- Assumes nothing.
use Prim.Native.Nat.{ℕ, zero, suc, ◌+◌, ◌*◌, ◌≤◌, ◌<◌}
use mathlib.Core.Path.{◌≡◌, ◌∙◌, refl, sym, ap, ap₂}
use mathlib.Core.Bool.{Bool, true, false, cond}
use mathlib.Core.List.{List, [], ◌∷◌, ◌++◌}
use native.Mathlib.Omega.{arith}
use lib.ListN.{length, take, drop, length-drop, length-append, take-append-drop}
use lib.Seq.{length-take-le, take-append-le, drop-append-le}
use borrow.Author.Tests.{le-leb}
use Rattle.xgtc.specs.Reads.{read_allocation_lem}
use Rattle.entries.specs.Limits.{structure_octets}
use Rattle.entries.specs.declared.Own.{Own}
use Rattle.entries.specs.declared.Standing.{Standing}
use Rattle.entries.specs.Standings.{standing, is_planned_lem}
use Rattle.series.specs.declared.Around.{Around}
use Rattle.series.specs.Series.{Series, entry_at, entry_count, standings_from, standings, series_of, outset, beyond, verdict_of, planned, last_end}
use Rattle.reasons.specs.Facts.{planned_before}

-- ---- the structures of the part are those of the map

read_front : (s t : List ℕ) → 8 ≤ length s → read_allocation_lem (s ++ t) ≡ read_allocation_lem s
read_front s t h = rw (take-append-le 8 s t h, le-leb 8 (length (s ++ t)) (omega (arith, length-append s t)), le-leb 8 (length s) h)

module _ (m : List ℕ) (d : ℕ) (whole : d ≤ entry_count m) where
  front_length : length (take (structure_octets * d) m) ≡ structure_octets * d
  front_length = length-take-le (structure_octets * d) m (omega arith)

  entry_front : (i : ℕ) → i < d → entry_at (take (structure_octets * d) m) i ≡ entry_at m i
  unfolding entry_at
  entry_front i h =
      sym
      (ap (λ (l : List ℕ). read_allocation_lem (drop (structure_octets * i) l)) (sym (take-append-drop (structure_octets * d) m))
      ∙ ap read_allocation_lem (drop-append-le (structure_octets * i) (take (structure_octets * d) m) (drop (structure_octets * d) m) (omega (arith, front_length)))
      ∙ read_front (drop (structure_octets * i) (take (structure_octets * d) m)) (drop (structure_octets * d) m)
      (omega (arith, front_length, length-drop (structure_octets * i) (take (structure_octets * d) m))))

  stands_front : (own : Own) (k i : ℕ) → i + k ≤ d → standings_from own (take (structure_octets * d) m) i k ≡ standings_from own m i k
  stands_front own zero i h = refl
  stands_front own (suc k) i h = ap₂ (λ (x : Standing) (l : List Standing). x ∷ l) (ap (standing own) (entry_front i (omega arith))) (stands_front own k (suc i) (omega arith))

  pub standings_front : (own : Own) → standings own (take (structure_octets * d) m) ≡ standings_from own m 0 d
  standings_front own =
      let e : entry_count (take (structure_octets * d) m) ≡ d = omega (arith, front_length) in
      ap (standings_from own (take (structure_octets * d) m) 0) e ∙ stands_front own d 0 (omega arith)

-- ---- what is around a series once those before it have been judged

abbrev pub after : Around → List Series → Around
after around l = record { end = last_end around.end (planned around l); bursts = around.bursts + length (planned around l) }

pub after_none : (around : Around) → after around [] ≡ around
after_none around =
    let e : around.bursts + 0 ≡ around.bursts = omega arith in
    ap (λ (n : ℕ). record { end = around.end; bursts = n }) e

pub after_one : (around : Around) (s : Series) (l : List Series) → after around (s ∷ l) ≡ after (cond (is_planned_lem (verdict_of around s)) (beyond around s) around) l
after_one around s l = go (is_planned_lem (verdict_of around s))
  where
    go : (b : Bool)
        → ◌≡◌ {A = Around}
        (record { end = last_end around.end (cond b (s ∷ planned (beyond around s) l) (planned around l)); bursts = around.bursts + length (cond b (s ∷ planned (beyond around s) l) (planned around l)) })
        (after (cond b (beyond around s) around) l)
    go true =
        let e : around.bursts + suc (length (planned (beyond around s) l)) ≡ around.bursts + 1 + length (planned (beyond around s) l) = omega arith in
        ap (λ (n : ℕ). record { end = last_end (beyond around s).end (planned (beyond around s) l); bursts = n }) e
    go false = refl

-- around the h-th entry: the end and the number of what is planned before it
abbrev pub around_at : Own → List ℕ → ℕ → ℕ → Around
around_at own m carried h = record { end = last_end carried (planned_before own m carried h); bursts = length (planned_before own m carried h) }

pub after_front : (own : Own) (m : List ℕ) (carried d : ℕ) → d ≤ entry_count m → after (outset carried) (series_of (standings_from own m 0 d)) ≡ around_at own m carried d
after_front own m carried d h =
    let e : 0 + length (planned_before own m carried d) ≡ length (planned_before own m carried d) = omega arith in
    ap (λ (l : List Standing). after (outset carried) (series_of l)) (sym (standings_front m d h own)) ∙ ap (λ (n : ℕ). record { end = last_end carried (planned_before own m carried d); bursts = n }) e
