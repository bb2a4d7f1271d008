-- What an entry of a map is by itself: its standing, what was read of it, and whose it is.
-- Assumes nothing.
use Prim.Native.Nat.{ℕ, ◌*◌, ◌≤◌, ◌<◌}
use mathlib.Core.Path.{◌≡◌, ◌∙◌, refl, sym}
use mathlib.Core.Bool.{Bool, true, false, cond}
use mathlib.Core.List.{List}
use native.Mathlib.Omega.{arith}
use lib.Dec.{leb}
use lib.ListN.{length, take, drop, length-drop}
use borrow.Author.Tests.{leb-true, le-leb}
use Rattle.hec.specs.Reads.{Reading, word, unreadable as unreadable-word, reading}
use Rattle.octets.specs.Octets.{value}
use Rattle.xgtc.specs.Layouts.{allocation_of}
use Rattle.xgtc.specs.Reads.{read_allocation_lem}
use Rattle.xgtc.specs.declared.allocation.Allocation.{Allocation}
use Rattle.xgem.specs.Reads.{Found, fields, short, taken}
use Rattle.entries.specs.Limits.{structure_octets}
use Rattle.entries.specs.declared.Own.{Own}
use Rattle.entries.specs.declared.Verdict.{Verdict}
use Rattle.entries.specs.declared.Standing.TheVariants.{Apart}
use Rattle.entries.specs.Standings.{sorted, standing, Mine}
use Rattle.entries.proofs.Facts.{stands_as}
use Rattle.series.specs.Series.{entry_at, entry_count}
use Rattle.reasons.specs.Facts.{OursAt, Belongs}
use Rattle.reasons.proofs.Belonging.{belongs-ours}

-- ---- a structure is short exactly past the last

pub clash : {A : Type 0} → ◌≡◌ {A = ℕ} 0 1 → A
clash z =
    let f : ⊥ = omega arith in
    absurd f

read_long : (s : List ℕ) (a : Allocation) → read_allocation_lem s ≡ fields a → 8 ≤ length s
read_long s a e = go (leb 8 (length s)) refl e
  where
    go : (b : Bool) → leb 8 (length s) ≡ b → cond b (taken allocation_of (reading 64 (value (take 8 s)))) short ≡ fields a → 8 ≤ length s
    go true p e = leb-true 8 (length s) p
    go false p e = clash (cc)

pub entry_lies : (m : List ℕ) (i : ℕ) (a : Allocation) → entry_at m i ≡ fields a → i < entry_count m
unfolding entry_at
entry_lies m i a e = omega (arith, read_long (drop (structure_octets * i) m) a e, length-drop (structure_octets * i) m)

taken_not_short : (r : Reading) → taken allocation_of r ≡ short → ⊥
taken_not_short (word v) e = clash (cc)
taken_not_short unreadable-word e = clash (cc)

pub entry-long : (m : List ℕ) (i : ℕ) → i < entry_count m → entry_at m i ≡ short → ⊥
unfolding entry_at
entry-long m i h e = taken_not_short (reading 64 (value (take 8 (drop (structure_octets * i) m)))) (sym (rw (le-leb 8 (length (drop (structure_octets * i) m)) (omega (arith, length-drop (structure_octets * i) m)))) ∙ e)

-- ---- whose it is

stands-sorted : (own : Own) (a : Allocation) (more : Bool) → Mine own (fields a) a more → sorted own a ≡ stands_as more a
unfolding sorted
stands-sorted own a true h = rw (h.fit, h.room, h.owned, h.kind)
stands-sorted own a false h = rw (h.fit, h.room, h.owned, h.kind)

pub mine-stands : (own : Own) (e : Found Allocation) (a : Allocation) (more : Bool) → Mine own e a more → standing own e ≡ stands_as more a
unfolding standing
mine-stands own e a more h =
    rw (h.sends, h.read) (stands-sorted own a more (record { read = refl; sends = h.sends; fit = h.fit; room = h.room; owned = h.owned; kind = h.kind }))

module _ (own : Own) (m : List ℕ) where
  pub ours_lies : (i : ℕ) (more : Bool) → OursAt own m i more → i < entry_count m
  ours_lies i more x = entry_lies m i x.is x.mine.read

  -- what stands apart is not ours, and of no series
  pub apart_not_ours : (i : ℕ) (v : Verdict) (more : Bool) → standing own (entry_at m i) ≡ Apart v → OursAt own m i more → ⊥
  apart_not_ours i v more e x = go more (sym e ∙ mine-stands own (entry_at m i) x.is more x.mine)
    where
      go : (more : Bool) → Apart v ≡ stands_as more x.is → ⊥
      go true q = clash (cc)
      go false q = clash (cc)

  pub apart-alone : (i : ℕ) (v : Verdict) → standing own (entry_at m i) ≡ Apart v → (h : ℕ) → Belongs own m h i → ⊥
  apart-alone i v e h x =
      let o = belongs-ours own m h i x in
      apart_not_ours i v o.0 e o.1
