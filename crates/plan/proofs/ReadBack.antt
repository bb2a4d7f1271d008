-- Read back as the laser reads it, a plan is its series, in order.
-- Assumes nothing.
use Prim.Native.Nat.{ℕ, ◌+◌, ◌*◌, ◌/◌, ◌%◌, ◌<◌}
use mathlib.Core.Path.{◌≡◌, ◌∙◌, refl, ap, ap₂}
use mathlib.Core.Bool.{Bool, true, false}
use mathlib.Core.List.{List, [], ◌∷◌, ◌++◌}
use native.Mathlib.Omega.{arith}
use lib.Dec.{eqb}
use lib.ListN.{length, take, drop}
use lib.Seq.{take_at, drop_at}
use Rattle.xgtc.specs.declared.allocation.Allocation.{Allocation}
use Rattle.series.specs.Series.{Series}
use Rattle.plan.specs.Records.{mark, burst_flags_lem, head_flags_lem, more_flags_lem}
use Rattle.plan.specs.Plan.{more_numbers, series_numbers, numbers, records, written}
use Rattle.plan.specs.Laser.{Grant, Record, records_of_lem, flagged, opens, granted, joining, sending, sendings, laser, grant_of, grants_of, bursts_of}
use Rattle.plan.proofs.Lengths.{length-numbers}

-- ---- a flag is read as it was set

weight : (b : Bool) (w : ℕ) → mark b w ≡ w * mark b 1
weight true w = omega arith
weight false w = omega arith

small : (b : Bool) → mark b 1 < 2
small true = omega arith
small false = omega arith

as_set : (b : Bool) (k : ℕ) → k ≡ mark b 1 → eqb k 1 ≡ b
as_set true k h = rw h
as_set false k h = rw h

-- the third and fourth binary digit of a number
digits : (f x y z n : ℕ) → f ≡ 1 + 2 * x + 4 * y + 8 * z + 16 * n → x < 2 → y < 2 → z < 2 → (f / 4 % 2 ≡ y) × (f / 8 % 2 ≡ z)
digits f x y z n e hx hy hz =
    let p : f / 4 ≡ y + 2 * z + 4 * n = omega arith in
    let q : f / 8 ≡ z + 2 * n = omega arith in
    let r : (y + 2 * z + 4 * n) % 2 ≡ y = omega arith in
    let s : (z + 2 * n) % 2 ≡ z = omega arith in
    (rw p r, rw q s)

-- ---- records

abbrev head_record : Allocation → Record
head_record h = record { alloc = h.alloc.0; flags = head_flags_lem h; start = h.start; words = h.grant }

abbrev more_record : Allocation → Allocation → Record
more_record h a = record { alloc = a.alloc.0; flags = more_flags_lem h a; start = h.start; words = a.grant }

module _ (h : Allocation) where
  head_opens : opens (head_record h) ≡ true
  unfolding opens head_flags_lem burst_flags_lem
  head_opens =
      as_set true ((1 + mark h.ploamu 2 + mark h.dbru 4 + (mark h.fwi 8 + h.profile * 16)) / 1 % 2)
      (omega (arith, weight h.ploamu 2, weight h.dbru 4, weight h.fwi 8))

  head_granted : granted (head_record h) ≡ grant_of h
  unfolding granted head_flags_lem burst_flags_lem
  head_granted =
      ap (λ (b : Bool). record { alloc = h.alloc.0; dbru = b; words = h.grant })
      (as_set h.dbru ((1 + mark h.ploamu 2 + mark h.dbru 4 + (mark h.fwi 8 + h.profile * 16)) / 4 % 2)
      (digits (1 + mark h.ploamu 2 + mark h.dbru 4 + (mark h.fwi 8 + h.profile * 16)) (mark h.ploamu 1) (mark h.dbru 1) (mark h.fwi 1) h.profile
      (omega (arith, weight h.ploamu 2, weight h.dbru 4, weight h.fwi 8)) (small h.ploamu) (small h.dbru) (small h.fwi)).0)

  head_ploamu : flagged 2 (head_record h) ≡ h.ploamu
  unfolding head_flags_lem burst_flags_lem
  head_ploamu =
      as_set h.ploamu ((1 + mark h.ploamu 2 + mark h.dbru 4 + (mark h.fwi 8 + h.profile * 16)) / 2 % 2)
      (omega (arith, weight h.ploamu 2, weight h.dbru 4, weight h.fwi 8, small h.ploamu, small h.dbru, small h.fwi))

  head_fwi : flagged 8 (head_record h) ≡ h.fwi
  unfolding head_flags_lem burst_flags_lem
  head_fwi =
      as_set h.fwi ((1 + mark h.ploamu 2 + mark h.dbru 4 + (mark h.fwi 8 + h.profile * 16)) / 8 % 2)
      (digits (1 + mark h.ploamu 2 + mark h.dbru 4 + (mark h.fwi 8 + h.profile * 16)) (mark h.ploamu 1) (mark h.dbru 1) (mark h.fwi 1) h.profile
      (omega (arith, weight h.ploamu 2, weight h.dbru 4, weight h.fwi 8)) (small h.ploamu) (small h.dbru) (small h.fwi)).1

  head_profile : head_flags_lem h / 16 ≡ h.profile
  unfolding head_flags_lem burst_flags_lem
  head_profile = omega (arith, weight h.ploamu 2, weight h.dbru 4, weight h.fwi 8, small h.ploamu, small h.dbru, small h.fwi)

  head_sends : (l : List Record) (g : List Grant) → joining l ≡ g
      → sending (head_record h) l ≡ record { start = h.start; ploamu = h.ploamu; fwi = h.fwi; profile = h.profile; grants = grant_of h ∷ g }
  unfolding sending
  head_sends l g e =
      λ i. record { start = h.start; ploamu = head_ploamu i; fwi = head_fwi i; profile = head_profile i; grants = ap₂ ◌∷◌ head_granted e i }

  module _ (a : Allocation) where
    more-joins : opens (more_record h a) ≡ false
    unfolding opens more_flags_lem burst_flags_lem
    more-joins =
        as_set false ((mark a.dbru 4 + (mark h.fwi 8 + h.profile * 16)) / 1 % 2)
        (omega (arith, weight a.dbru 4, weight h.fwi 8))

    more-granted : granted (more_record h a) ≡ grant_of a
    unfolding granted more_flags_lem burst_flags_lem
    more-granted =
        ap (λ (b : Bool). record { alloc = a.alloc.0; dbru = b; words = a.grant })
        (as_set a.dbru ((mark a.dbru 4 + (mark h.fwi 8 + h.profile * 16)) / 4 % 2)
        (omega (arith, weight a.dbru 4, weight h.fwi 8, small a.dbru, small h.fwi)))

-- ---- the records of a series, and what stands behind them

joining_more : (h : Allocation) (l : List Allocation) (ns : List ℕ) → joining (records_of_lem ns) ≡ [] → joining (records_of_lem (more_numbers h l ++ ns)) ≡ grants_of l
joining_more h [] ns e = e
joining_more h (a ∷ l) ns e = rw (more-joins h a, more-granted h a) (ap (λ (g : List Grant). grant_of a ∷ g) (joining_more h l ns e))

sendings_more : (h : Allocation) (l : List Allocation) (ns : List ℕ) → sendings (records_of_lem (more_numbers h l ++ ns)) ≡ sendings (records_of_lem ns)
sendings_more h [] ns = refl
sendings_more h (a ∷ l) ns = rw (more-joins h a) (sendings_more h l ns)

next-opens : (l : List Series) → joining (records_of_lem (numbers l)) ≡ []
unfolding series_numbers
next-opens [] = refl
next-opens (s ∷ l) = rw (head_opens s.head)

read_back : (l : List Series) → sendings (records_of_lem (numbers l)) ≡ bursts_of l
unfolding series_numbers
read_back [] = refl
read_back (s ∷ l) =
    rw (head_opens s.head)
    (ap₂ ◌∷◌
    (head_sends s.head (records_of_lem (more_numbers s.head s.more ++ numbers l)) (grants_of s.more) (joining_more s.head s.more (numbers l) (next-opens l)))
    (sendings_more s.head s.more (numbers l) ∙ read_back l))

-- the records counted of a plan are those of its series, number by number
pub records-written : (l : List Series) (plan : List ℕ) → take (4 * records l) (written l plan) ≡ numbers l
records-written l plan = take_at (numbers l) (drop (length (numbers l)) plan) (4 * records l) (length-numbers l)

-- what the laser sends by the records counted of a plan, whatever stood in it, is each series, in order
pub laser-obeys : (l : List Series) (plan : List ℕ) → laser (records l) (written l plan) ≡ bursts_of l
laser-obeys l plan = ap (λ (ns : List ℕ). sendings (records_of_lem ns)) (records-written l plan) ∙ read_back l

-- past the records the plan keeps its content
pub plan-kept : (l : List Series) (plan : List ℕ) → drop (4 * records l) (written l plan) ≡ drop (4 * records l) plan
plan-kept l plan =
    drop_at (numbers l) (drop (length (numbers l)) plan) (4 * records l) (length-numbers l) ∙ ap (λ (n : ℕ). drop n plan) (length-numbers l)
