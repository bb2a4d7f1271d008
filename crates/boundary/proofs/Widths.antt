-- "A value too wide for its field": 11, "nothing changed". Field by field, whatever the others hold.
-- Assumes nothing.
use Prim.Native.Nat.{ℕ, ◌≤◌, ◌^◌}
use mathlib.Core.Path.{◌≡◌, refl, ap}
use mathlib.Core.Bool.{Bool, true, false, ◌&&◌, cond, and-false}
use mathlib.Core.List.{List}
use lib.Dec.{eqb, ltb}
use lib.ListN.{length}
use borrow.Author.Tests.{le-ltb}
use Rattle.xgem.specs.Layouts.{xgem_fits}
use Rattle.xgem.specs.Writes.{WriteLeft, carrying, write_xgem_frame_lem}
use Rattle.xgem.specs.declared.frame.XgemHeader.{XgemHeader}
use Rattle.answers.specs.declared.Answer.TheVariants.{NotWritten}
use Rattle.xgtc.specs.Layouts.{allocation_fits}
use Rattle.xgtc.specs.Writes.{write_allocation_lem}
use Rattle.xgtc.specs.declared.allocation.Allocation.{Allocation}
use Rattle.boundary.specs.Writers.{Target, written, not_written, hlend_in, allocation_in, xgem_frame_in}

refused_anyway : (marks : Bool) (l : WriteLeft) (t : List ℕ) → l ≡ record { answer = NotWritten; target = t } → cond marks (written l) (not_written t) ≡ not_written t
refused_anyway true l t e = ap written e
refused_anyway false l t e = refl

module _ (bwmap ploam : ℕ) (t : List ℕ) where
  pub bwmap_too_wide : 2 ^ 11 ≤ bwmap → hlend_in bwmap ploam t ≡ not_written t
  unfolding hlend_in
  bwmap_too_wide w = simp (le-ltb bwmap (2 ^ 11) w)

  pub ploam_too_wide : 2 ^ 8 ≤ ploam → hlend_in bwmap ploam t ≡ not_written t
  unfolding hlend_in
  ploam_too_wide w = simp (le-ltb ploam (2 ^ 8) w, and-false)

module _ (alloc dbru ploamu start grant fwi profile : ℕ) (t : List ℕ) where
  abbrev a : Allocation
  a =
      record {
        alloc = record { 0 = alloc };
        dbru = eqb dbru 1;
        ploamu = eqb ploamu 1;
        start = start;
        grant = grant;
        fwi = eqb fwi 1;
        profile = profile;
      }

  abbrev left : Target
  left = allocation_in alloc dbru ploamu start grant fwi profile t

  fields_unfit : allocation_fits a ≡ false → left ≡ not_written t
  unfolding allocation_in
  fields_unfit e = refused_anyway (ltb dbru 2 && (ltb ploamu 2 && ltb fwi 2)) (write_allocation_lem a t) t (rw e)

  pub alloc_too_wide : 2 ^ 14 ≤ alloc → left ≡ not_written t
  alloc_too_wide w = fields_unfit (simp (le-ltb alloc (2 ^ 14) w))

  pub dbru_too_wide : 2 ^ 1 ≤ dbru → left ≡ not_written t
  unfolding allocation_in
  dbru_too_wide w = simp (le-ltb dbru 2 w)

  pub ploamu_too_wide : 2 ^ 1 ≤ ploamu → left ≡ not_written t
  unfolding allocation_in
  ploamu_too_wide w = simp (le-ltb ploamu 2 w, and-false)

  pub start_too_wide : 2 ^ 16 ≤ start → left ≡ not_written t
  start_too_wide w = fields_unfit (simp (le-ltb start (2 ^ 16) w, and-false))

  pub grant_too_wide : 2 ^ 16 ≤ grant → left ≡ not_written t
  grant_too_wide w = fields_unfit (simp (le-ltb grant (2 ^ 16) w, and-false))

  pub fwi_too_wide : 2 ^ 1 ≤ fwi → left ≡ not_written t
  unfolding allocation_in
  fwi_too_wide w = simp (le-ltb fwi 2 w, and-false)

  pub profile_too_wide : 2 ^ 2 ≤ profile → left ≡ not_written t
  profile_too_wide w = fields_unfit (simp (le-ltb profile (2 ^ 2) w, and-false))

module _ (key port options last : ℕ) (sdu t : List ℕ) where
  abbrev x : XgemHeader
  x = record { pli = 0; key = key; port = record { 0 = port }; options = options; last = eqb last 1 }

  abbrev frame-left : Target
  frame-left = xgem_frame_in key port options last sdu t

  frame-unfit : xgem_fits (carrying x sdu) ≡ false → frame-left ≡ not_written t
  unfolding xgem_frame_in
  frame-unfit e = refused_anyway (ltb last 2) (write_xgem_frame_lem x sdu t) t (rw e)

  pub key_too_wide : 2 ^ 2 ≤ key → frame-left ≡ not_written t
  key_too_wide w = frame-unfit (simp (le-ltb key (2 ^ 2) w, and-false))

  pub port_too_wide : 2 ^ 16 ≤ port → frame-left ≡ not_written t
  port_too_wide w = frame-unfit (simp (le-ltb port (2 ^ 16) w, and-false))

  pub options_too_wide : 2 ^ 18 ≤ options → frame-left ≡ not_written t
  options_too_wide w = frame-unfit (simp (le-ltb options (2 ^ 18) w, and-false))

  pub last_too_wide : 2 ^ 1 ≤ last → frame-left ≡ not_written t
  unfolding xgem_frame_in
  last_too_wide w = simp (le-ltb last 2 w)

  pub sdu_too_long : 2 ^ 14 ≤ length sdu → frame-left ≡ not_written t
  sdu_too_long w = frame-unfit (simp (le-ltb (length sdu) (2 ^ 14) w))
