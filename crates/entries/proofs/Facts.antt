-- What the standing of an entry says of it.
-- Assumes nothing.
use Prim.Native.Nat.{ℕ, ◌^◌, ◌≤◌, ◌<◌}
use mathlib.Core.Path.{◌≡◌, refl}
use mathlib.Core.Bool.{Bool, true, false, cond, ◌&&◌, false≢true}
use native.Mathlib.Omega.{arith}
use lib.Dec.{ltb}
use borrow.Author.Tests.{ltb-false, eqb-false}
use Rattle.xgtc.specs.declared.allocation.Allocation.{Allocation}
use Rattle.xgem.specs.Reads.{Found, fields, unreadable, short}
use Rattle.entries.specs.Limits.{last_start, continuing}
use Rattle.entries.specs.declared.Own.{Own}
use Rattle.entries.specs.declared.Verdict.{Verdict}
use Rattle.entries.specs.declared.Verdict.TheVariants.{Unreadable, StartTimeUnfit, DbruWithoutRoom, Foreign, Silent}
use Rattle.entries.specs.declared.Standing.{Standing}
use Rattle.entries.specs.declared.Standing.TheVariants.{Apart, Head, More}
use Rattle.entries.specs.Standings.{is_planned_lem, start_unfit_lem, no_room_lem, continues, ours, sorted, standing, read_as_standing, Mine}
use Rattle.station.specs.States.{silent}

-- the standing of an entry of ours, as a head or as one that continues
abbrev pub stands_as : Bool → Allocation → Standing
stands_as true a = More a
stands_as false a = Head a

record Sorted (own : Own) (a b : Allocation) (more : Bool) : Type 0 where
  same : a ≡ b
  fit : start_unfit_lem a ≡ false
  room : no_room_lem a ≡ false
  owned : ours own a ≡ true
  kind : continues a ≡ more

clash : {A : Type 0} → ◌≡◌ {A = ℕ} 0 1 → A
clash z =
    let f : ⊥ = omega arith in
    absurd f

pick : (own : Own) (a b : Allocation) (more s n o k : Bool) → start_unfit_lem a ≡ s → no_room_lem a ≡ n → ours own a ≡ o → continues a ≡ k
    → cond s (Apart StartTimeUnfit) (cond n (Apart DbruWithoutRoom) (cond o (cond k (More a) (Head a)) (Apart Foreign))) ≡ stands_as more b
    → Sorted own a b more
pick own a b true true n o k p q r t e = clash (cc)
pick own a b false true n o k p q r t e = clash (cc)
pick own a b true false true o k p q r t e = clash (cc)
pick own a b false false true o k p q r t e = clash (cc)
pick own a b true false false false k p q r t e = clash (cc)
pick own a b false false false false k p q r t e = clash (cc)
pick own a b false false false true true p q r t e = clash (cc)
pick own a b true false false true false p q r t e = clash (cc)
pick own a b true false false true true p q r t e = record { same = cc; fit = p; room = q; owned = r; kind = t }
pick own a b false false false true false p q r t e = record { same = cc; fit = p; room = q; owned = r; kind = t }

sorted_is : (own : Own) (a b : Allocation) (more : Bool) → sorted own a ≡ stands_as more b → Sorted own a b more
unfolding sorted
sorted_is own a b more e = pick own a b more (start_unfit_lem a) (no_room_lem a) (ours own a) (continues a) refl refl refl refl e

apart_is_not : (v : Verdict) (b : Allocation) (more : Bool) → Apart v ≡ stands_as more b → ◌≡◌ {A = ℕ} 0 1
apart_is_not v b true e = cc
apart_is_not v b false e = cc

read_is : (own : Own) (e : Found Allocation) (b : Allocation) (more : Bool) → silent own.activation ≡ false → read_as_standing own e ≡ stands_as more b → Mine own e b more
read_is own (fields a) b more z q =
    let s = sorted_is own a b more q in
    rw (← s.same) (record { read = refl; sends = z; fit = s.fit; room = s.room; owned = s.owned; kind = s.kind })
read_is own unreadable b more z q = clash (apart_is_not Unreadable b more q)
read_is own short b more z q = clash (apart_is_not Unreadable b more q)

pub ours_is : (own : Own) (e : Found Allocation) (b : Allocation) (more : Bool) → standing own e ≡ stands_as more b → Mine own e b more
unfolding standing
ours_is own e b more q = go (silent own.activation) refl q
  where
    go : (z : Bool) → silent own.activation ≡ z → cond z (Apart Silent) (read_as_standing own e) ≡ stands_as more b → Mine own e b more
    go true p q = clash (apart_is_not Silent b more q)
    go false p q = read_is own e b more p q

-- in a state that sends nothing, nothing stands as ours
pub silent-apart : (own : Own) (e : Found Allocation) → silent own.activation ≡ true → standing own e ≡ Apart Silent
unfolding standing
silent-apart own e h = rw h

both_false : (a b : Bool) → (a && b) ≡ false → a ≡ true → b ≡ false
both_false true b e h = e
both_false false b e h = absurd (false≢true h)

-- "A head has StartTime at most 9,719"
pub head_start : (a : Allocation) → a.start < 2 ^ 16 → start_unfit_lem a ≡ false → continues a ≡ false → a.start ≤ last_start
unfolding start_unfit_lem continues
head_start a wide fit kind = go (ltb last_start a.start) refl
  where
    go : (b : Bool) → ltb last_start a.start ≡ b → a.start ≤ last_start
    go false p = ltb-false last_start a.start p
    go true p =
        let f : ⊥ = eqb-false a.start continuing kind (omega (arith, ltb-false a.start continuing (both_false (ltb last_start a.start) (ltb a.start continuing) fit p))) in
        absurd f

-- what stands apart is not planned
unplanned_sorted : (own : Own) (a : Allocation) (v : Verdict) (s n o k : Bool)
    → cond s (Apart StartTimeUnfit) (cond n (Apart DbruWithoutRoom) (cond o (cond k (More a) (Head a)) (Apart Foreign))) ≡ Apart v → is_planned_lem v ≡ false
unplanned_sorted own a v true n o k e =
    let q : StartTimeUnfit ≡ v = cc in
    rw (← q) refl
unplanned_sorted own a v false true o k e =
    let q : DbruWithoutRoom ≡ v = cc in
    rw (← q) refl
unplanned_sorted own a v false false false k e =
    let q : Foreign ≡ v = cc in
    rw (← q) refl
unplanned_sorted own a v false false true true e = clash (cc)
unplanned_sorted own a v false false true false e = clash (cc)

sorted_unplanned : (own : Own) (a : Allocation) (v : Verdict) → sorted own a ≡ Apart v → is_planned_lem v ≡ false
unfolding sorted
sorted_unplanned own a v e = unplanned_sorted own a v (start_unfit_lem a) (no_room_lem a) (ours own a) (continues a) e

read_unplanned : (own : Own) (e : Found Allocation) (v : Verdict) → read_as_standing own e ≡ Apart v → is_planned_lem v ≡ false
read_unplanned own (fields a) v h = sorted_unplanned own a v h
read_unplanned own unreadable v h =
    let q : Unreadable ≡ v = cc in
    rw (← q) refl
read_unplanned own short v h =
    let q : Unreadable ≡ v = cc in
    rw (← q) refl

pub apart_unplanned : (own : Own) (e : Found Allocation) (v : Verdict) → standing own e ≡ Apart v → is_planned_lem v ≡ false
unfolding standing
apart_unplanned own e v h = go (silent own.activation) h
  where
    go : (z : Bool) → cond z (Apart Silent) (read_as_standing own e) ≡ Apart v → is_planned_lem v ≡ false
    go true q =
        let r : Silent ≡ v = cc in
        rw (← r) refl
    go false q = read_unplanned own e v q
