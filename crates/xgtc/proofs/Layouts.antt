-- The two layouts both ways: fields that fit give a word of their width whose fields they are, and a true word is that of
-- its fields.
-- Assumes nothing.
use mathlib.Core.Path.{◌≡◌, refl, sym, ap, ap₂, ◌∙◌}
use mathlib.Core.Bool.{Bool, true, ◌&&◌}
use Prim.Native.Nat.{ℕ, ◌/◌, ◌^◌, ◌≤◌, ◌<◌}
use native.Mathlib.Omega.{arith}
use borrow.Author.Tests.{ltb-true, lt-ltb}
use lib.Dec.{ltb}
use Rattle.bch.specs.Code.{TrueWord}
use Rattle.hec.specs.Writes.{Written, protected}
use Rattle.bch.proofs.Both.{and_right}
use Rattle.hec.proofs.Protected.{protected-written, is_protected}
use Rattle.xgem.specs.Layouts.{field, bit, behind}
use Rattle.xgem.proofs.Layouts.{bit_le, flag-bit, bit-flag, within, next}
use Rattle.xgtc.specs.Layouts.{hlend_of, hlend_fits, hlend_word, allocation_of, allocation_fits, allocation_bits, allocation_word}
use Rattle.xgtc.specs.declared.hlend.Hlend.{Hlend}
use Rattle.xgtc.specs.declared.allocation.Allocation.{Allocation}

module _ (h : Hlend) (fits : hlend_fits h ≡ true) where
  hlend_within : (h.bwmap < 2 ^ 11) × (h.ploam < 2 ^ 8)
  hlend_within = (
    within h.bwmap (2 ^ 11) (ltb h.ploam (2 ^ 8)) fits,
    ltb-true h.ploam (2 ^ 8) (and_right (ltb h.bwmap (2 ^ 11)) (ltb h.ploam (2 ^ 8)) fits),
  )

  pub hlend_lt : behind h.bwmap 8 h.ploam < 2 ^ 19
  hlend_lt = let w = hlend_within in omega arith

  pub hlend_true : Written 32 (behind h.bwmap 8 h.ploam) (hlend_word h)
  hlend_true = protected-written 19 (behind h.bwmap 8 h.ploam) (omega arith) hlend_lt

  pub hlend_back : hlend_of (hlend_word h) ≡ h
  hlend_back =
      let w = hlend_within in
      let e : hlend_word h / 2 ^ 13 ≡ behind h.bwmap 8 h.ploam = hlend_true.holds in
      ap₂ {C = Hlend} (λ (x y : ℕ). record { bwmap = x; ploam = y }) (omega arith) (omega arith)

pub hlend_again : (v : ℕ) → TrueWord 32 v → hlend_word (hlend_of v) ≡ v
hlend_again v t =
    let d : behind (hlend_of v).bwmap 8 (hlend_of v).ploam ≡ v / 2 ^ 13 = omega (arith, t.fits) in
    ap protected d ∙ sym (is_protected 19 (v / 2 ^ 13) v (omega arith) (omega (arith, t.fits)) (record { true = t; holds = refl }))

pub hlend-fits : (v : ℕ) → hlend_fits (hlend_of v) ≡ true
hlend-fits v = ap₂ ◌&&◌ (lt-ltb (hlend_of v).bwmap (2 ^ 11) (omega arith)) (lt-ltb (hlend_of v).ploam (2 ^ 8) (omega arith))

module _ (a : Allocation) (fits : allocation_fits a ≡ true) where
  record AllocationWithin : Type 0 where
    alloc : a.alloc.0 < 2 ^ 14
    start : a.start < 2 ^ 16
    grant : a.grant < 2 ^ 16
    profile : a.profile < 2 ^ 2
    dbru : bit a.dbru ≤ 1
    ploamu : bit a.ploamu ≤ 1
    fwi : bit a.fwi ≤ 1

  allocation_within : AllocationWithin
  allocation_within =
      let profile : Bool = ltb a.profile (2 ^ 2) in
      let grant : Bool = ltb a.grant (2 ^ 16) && profile in
      let start : Bool = ltb a.start (2 ^ 16) && grant in
      let e = and_right (ltb a.alloc.0 (2 ^ 14)) start fits in
      let f = and_right (ltb a.start (2 ^ 16)) grant e in
      record {
        alloc = within a.alloc.0 (2 ^ 14) start fits;
        start = within a.start (2 ^ 16) grant e;
        grant = within a.grant (2 ^ 16) profile f;
        profile = ltb-true a.profile (2 ^ 2) (and_right (ltb a.grant (2 ^ 16)) profile f);
        dbru = bit_le a.dbru;
        ploamu = bit_le a.ploamu;
        fwi = bit_le a.fwi;
      }

  pub allocation_lt : allocation_bits a < 2 ^ 51
  allocation_lt = let w = allocation_within in omega arith

  pub allocation_true : Written 64 (allocation_bits a) (allocation_word a)
  allocation_true = protected-written 51 (allocation_bits a) (omega arith) allocation_lt

  pub allocation_back : allocation_of (allocation_word a) ≡ a
  allocation_back =
      let w = allocation_within in
      let v : ℕ = allocation_word a in
      let e : v / 2 ^ 13 ≡ allocation_bits a = allocation_true.holds in
      let alloc : field 64 0 14 v ≡ a.alloc.0 = omega arith in
      let dbru : field 64 14 1 v ≡ bit a.dbru = omega arith in
      let ploamu : field 64 15 1 v ≡ bit a.ploamu = omega arith in
      let start : field 64 16 16 v ≡ a.start = omega arith in
      let grant : field 64 32 16 v ≡ a.grant = omega arith in
      let fwi : field 64 48 1 v ≡ bit a.fwi = omega arith in
      let profile : field 64 49 2 v ≡ a.profile = omega arith in
      λ i. record {
        alloc = record { 0 = alloc i };
        dbru = flag-bit a.dbru (field 64 14 1 v) dbru i;
        ploamu = flag-bit a.ploamu (field 64 15 1 v) ploamu i;
        start = start i;
        grant = grant i;
        fwi = flag-bit a.fwi (field 64 48 1 v) fwi i;
        profile = profile i;
      }

pub allocation_again : (v : ℕ) → TrueWord 64 v → allocation_word (allocation_of v) ≡ v
allocation_again v t =
    let a : Allocation = allocation_of v in
    let dbru : bit a.dbru ≡ field 64 14 1 v = bit-flag (field 64 14 1 v) (omega arith) in
    let ploamu : bit a.ploamu ≡ field 64 15 1 v = bit-flag (field 64 15 1 v) (omega arith) in
    let fwi : bit a.fwi ≡ field 64 48 1 v = bit-flag (field 64 48 1 v) (omega arith) in
    let alloc : field 64 0 14 v ≡ v / 2 ^ 50 = omega (arith, t.fits) in
    let d : allocation_bits a ≡ v / 2 ^ 13 =
    next v 13 2 (next v 15 1 (next v 16 16 (next v 32 16 (next v 48 1 (next v 49 1 alloc dbru) ploamu) refl) refl) fwi) refl in
    ap protected d ∙ sym (is_protected 51 (v / 2 ^ 13) v (omega arith) (omega (arith, t.fits)) (record { true = t; holds = refl }))

pub allocation-fits : (v : ℕ) → allocation_fits (allocation_of v) ≡ true
allocation-fits v =
    ap₂ ◌&&◌ (lt-ltb (allocation_of v).alloc.0 (2 ^ 14) (omega arith))
    (ap₂ ◌&&◌ (lt-ltb (allocation_of v).start (2 ^ 16) (omega arith))
    (ap₂ ◌&&◌ (lt-ltb (allocation_of v).grant (2 ^ 16) (omega arith)) (lt-ltb (allocation_of v).profile (2 ^ 2) (omega arith))))
