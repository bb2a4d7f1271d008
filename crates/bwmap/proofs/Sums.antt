-- The paper's sums 8 to 11: a map that is written is read again, and the rest is computed.
-- Assumes nothing.
use Prim.Native.Nat.{ℕ, suc, ◌+◌, ◌*◌, ◌≤◌}
use mathlib.Core.Path.{◌≡◌, ◌∙◌, refl, sym, ap, ap₂}
use mathlib.Core.Bool.{Bool, true, false, cond}
use mathlib.Core.List.{List, [], ◌∷◌, ◌++◌}
use native.Mathlib.Omega.{arith}
use lib.ListN.{length, take, drop, length-append}
use lib.Seq.{take_at, drop_at, drop-drop}
use borrow.Author.Tests.{le-leb}
use Rattle.hec.specs.Reads.{word, reading}
use Rattle.hec.proofs.Nearest.{is_reading}
use Rattle.hec.proofs.Words.{undamaged}
use Rattle.octets.specs.Octets.{value, octets}
use Rattle.xgtc.specs.Layouts.{allocation_of, allocation_fits, allocation_word}
use Rattle.xgem.specs.Reads.{fields, short, taken}
use Rattle.xgtc.specs.Reads.{read_allocation_lem}
use Rattle.xgtc.specs.declared.allocation.Allocation.{Allocation}
use Rattle.xgem.proofs.Numbers.{octets-length, value-octets}
use Rattle.xgtc.proofs.Layouts.{allocation_true, allocation_back}
use Rattle.entries.specs.declared.Own.{Own}
use Rattle.entries.specs.declared.Standing.{Standing}
use Rattle.entries.specs.Standings.{standing, sorted, start_unfit_lem, no_room_lem, continues, held}
use Rattle.series.specs.Series.{Series, entry_at, entry_count, standings_from, series_of, outset, planned, planned_of, judged, words_of, last_end, carried_over_lem}
use Rattle.plan.specs.Records.{head_flags_lem, more_flags_lem, burst_flags_lem}
use Rattle.plan.specs.Plan.{numbers, series_numbers}
use Rattle.bwmap.specs.Sums.{map_of, five, grant, plan, carries, eight, Sum8, Sum9, Sum10, Sum11}

module _ (a : Allocation) (fits : allocation_fits a ≡ true) where
  written-word : reading 64 (allocation_word a) ≡ word (allocation_word a)
  written-word =
      let t = (allocation_true a fits).true in
      sym (is_reading 64 (allocation_word a) (omega arith) t.fits (word (allocation_word a)) (t, undamaged (allocation_word a)))

  read_written : (rest : List ℕ) → read_allocation_lem (octets 8 (allocation_word a) ++ rest) ≡ fields a
  read_written rest =
      let n = octets-length 8 (allocation_word a) in
      let front : take 8 (octets 8 (allocation_word a) ++ rest) ≡ octets 8 (allocation_word a) = take_at (octets 8 (allocation_word a)) rest 8 n in
      let whole : value (octets 8 (allocation_word a)) ≡ allocation_word a = value-octets 8 (allocation_word a) (allocation_true a fits).true.fits in
      let room : 8 ≤ length (octets 8 (allocation_word a) ++ rest) = omega (arith, length-append (octets 8 (allocation_word a)) rest) in
      ap (λ (b : Bool). cond b (taken allocation_of (reading 64 (value (take 8 (octets 8 (allocation_word a) ++ rest))))) short) (le-leb 8 (length (octets 8 (allocation_word a) ++ rest)) room)
      ∙ ap (λ (w : ℕ). taken allocation_of (reading 64 w)) (ap value front ∙ whole) ∙ ap (taken allocation_of) written-word ∙ ap fields (allocation_back a fits)

abbrev AllFit : List Allocation → Type 0
AllFit [] = Unit {0}
AllFit (a ∷ l) = (allocation_fits a ≡ true) × AllFit l

-- the standings of entries that were written
abbrev standings_of : Own → List Allocation → List Standing
standings_of own [] = []
standings_of own (a ∷ l) = standing own (fields a) ∷ standings_of own l

length-map : (l : List Allocation) → length (map_of l) ≡ 8 * length l
length-map [] = refl
length-map (a ∷ l) = omega (arith, length-append (octets 8 (allocation_word a)) (map_of l), octets-length 8 (allocation_word a), length-map l)

standings-from : (own : Own) (m : List ℕ) (i : ℕ) (l : List Allocation) → AllFit l → drop (8 * i) m ≡ map_of l → standings_from own m i (length l) ≡ standings_of own l
unfolding entry_at
standings-from own m i [] f e = refl
standings-from own m i (a ∷ l) f e =
    let next : 8 * suc i ≡ 8 * i + 8 = omega arith in
    ap₂ ◌∷◌ (ap (standing own) (ap read_allocation_lem e ∙ read_written a f.0 (map_of l)))
    (standings-from own m (suc i) l f.1
    (ap (λ (n : ℕ). drop n m) next ∙ sym (drop-drop 8 (8 * i) m) ∙ ap (drop 8) e ∙ drop_at (octets 8 (allocation_word a)) (map_of l) 8 (octets-length 8 (allocation_word a))))

planned-written : (own : Own) (l : List Allocation) (carried : ℕ) → AllFit l → planned_of own (map_of l) carried ≡ planned (outset carried) (series_of (standings_of own l))
planned-written own l carried f =
    let n : entry_count (map_of l) ≡ length l = omega (arith, length-map l) in
    ap (λ (k : ℕ). planned (outset carried) (series_of (standings_from own (map_of l) 0 k))) n
    ∙ ap (λ (s : List Standing). planned (outset carried) (series_of s)) (standings-from own (map_of l) 0 l f refl)

-- the plan and the carried words, computed from the fields
abbrev plan_by : ℕ → List Allocation → List ℕ
plan_by carried l = numbers (planned (outset carried) (series_of (standings_of five l)))

plan_is : (carried : ℕ) (l : List Allocation) → AllFit l → plan carried l ≡ plan_by carried l
plan_is carried l f = ap numbers (planned-written five l carried f)

pub sum_8 : Sum8
unfolding standing sorted start_unfit_lem no_room_lem continues held judged words_of series_numbers head_flags_lem more_flags_lem burst_flags_lem
sum_8 = plan_is 0 eight (refl, (refl, tt)) ∙ refl

pub sum_9 : Sum9
unfolding standing sorted start_unfit_lem no_room_lem continues held judged words_of series_numbers head_flags_lem more_flags_lem burst_flags_lem
sum_9 =
    record {
      passed = plan_is 0 (eight ++ (grant 1024 false false 143 20 ∷ [])) (refl, (refl, (refl, tt))) ∙ sym (plan_is 0 eight (refl, (refl, tt)));
      planned =
          plan_is 0 (eight ++ (grant 1024 false false 144 20 ∷ [])) (refl, (refl, (refl, tt)))
          ∙ sym (ap (λ (l : List ℕ). l ++ (1024 ∷ 1 ∷ 144 ∷ 20 ∷ [])) (plan_is 0 eight (refl, (refl, tt))));
    }

ten : carries (grant 5 false false 9700 28 ∷ []) ≡ 10
unfolding standing sorted start_unfit_lem no_room_lem continues held judged words_of
ten = ap (λ (l : List Series). carried_over_lem (last_end 0 l)) (planned-written five (grant 5 false false 9700 28 ∷ []) 0 (refl, tt)) ∙ refl

pub sum_10 : Sum10
unfolding standing sorted start_unfit_lem no_room_lem continues held judged words_of series_numbers head_flags_lem more_flags_lem burst_flags_lem
sum_10 =
    record {
      passed = ap (λ (c : ℕ). plan c (grant 5 false false 9 1 ∷ [])) ten ∙ plan_is 10 (grant 5 false false 9 1 ∷ []) (refl, tt) ∙ refl;
      planned = ap (λ (c : ℕ). plan c (grant 5 false false 10 1 ∷ [])) ten ∙ plan_is 10 (grant 5 false false 10 1 ∷ []) (refl, tt) ∙ refl;
    }

pub sum_11 : Sum11
unfolding standing sorted start_unfit_lem no_room_lem continues held judged words_of series_numbers head_flags_lem more_flags_lem burst_flags_lem
sum_11 =
    record {
      fits = plan_is 0 (grant 5 false false 0 9718 ∷ []) (refl, tt) ∙ refl;
      exceeds = plan_is 0 (grant 5 false false 0 9719 ∷ []) (refl, tt) ∙ refl;
    }
