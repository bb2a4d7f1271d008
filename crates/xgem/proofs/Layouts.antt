-- A layout both ways: fields that fit give a word of their width whose fields they are, and a true word is that of its
-- fields.
-- Assumes nothing.
use mathlib.Core.Path.{◌≡◌, refl, sym, ap, ap₂, ◌∙◌}
use mathlib.Core.Bool.{Bool, true, false, ◌&&◌}
use Prim.Native.Nat.{ℕ, zero, suc, ◌+◌, ◌*◌, ◌/◌, ◌%◌, ◌^◌, ◌≤◌, ◌<◌}
use native.Mathlib.Omega.{arith}
use borrow.Author.Tests.{ltb-true, lt-ltb}
use lib.Dec.{eqb, ltb, lit≤}
use lib.Pow.{shr-shr, split}
use Rattle.ids.specs.declared.PortId.{PortId}
use Rattle.bch.specs.Code.{TrueWord}
use Rattle.hec.specs.Writes.{Written, protected}
use Rattle.bch.proofs.Both.{and_left, and_right}
use Rattle.hec.proofs.Protected.{protected-written, is_protected}
use Rattle.xgem.specs.Layouts.{field, flag, bit, xgem_of, xgem_fits, xgem_bits, xgem_word, behind}
use Rattle.xgem.specs.declared.frame.XgemHeader.{XgemHeader}

pub bit_le : (b : Bool) → bit b ≤ 1
bit_le true = lit≤ tt
bit_le false = lit≤ tt

pub flag-bit : (b : Bool) (x : ℕ) → x ≡ bit b → eqb x 1 ≡ b
flag-bit true x e = ap (λ (y : ℕ). eqb y 1) e
flag-bit false x e = ap (λ (y : ℕ). eqb y 1) e

pub bit-flag : (x : ℕ) → x < 2 → bit (eqb x 1) ≡ x
bit-flag zero h = refl
bit-flag (suc zero) h = refl
bit-flag (suc (suc x)) h = absurd (omega arith)

pub within : (a b : ℕ) (rest : Bool) → (ltb a b && rest) ≡ true → a < b
within a b rest e = ltb-true a b (and_left (ltb a b) rest e)

-- what stands before bit k of a word from its end, and the field of so many bits there, are what stands before that field's end
pub next : (v k width : ℕ) {b f : ℕ} → b ≡ v / 2 ^ (k + width) → f ≡ v / 2 ^ k % 2 ^ width → behind b width f ≡ v / 2 ^ k
next v k width {b} {f} p q =
    ap₂ (λ (x y : ℕ). x * 2 ^ width + y) (p ∙ sym (shr-shr v k width)) q ∙ split (v / 2 ^ k) width

module _ (x : XgemHeader) (fits : xgem_fits x ≡ true) where
  record XgemWithin : Type 0 where
    pli : x.pli < 2 ^ 14
    key : x.key < 2 ^ 2
    port : x.port.0 < 2 ^ 16
    options : x.options < 2 ^ 18
    last : bit x.last ≤ 1

  xgem-within : XgemWithin
  xgem-within =
      let options : Bool = ltb x.options (2 ^ 18) in
      let port : Bool = ltb x.port.0 (2 ^ 16) && options in
      let key : Bool = ltb x.key (2 ^ 2) && port in
      let e = and_right (ltb x.pli (2 ^ 14)) key fits in
      let f = and_right (ltb x.key (2 ^ 2)) port e in
      record {
        pli = within x.pli (2 ^ 14) key fits;
        key = within x.key (2 ^ 2) port e;
        port = within x.port.0 (2 ^ 16) options f;
        options = ltb-true x.options (2 ^ 18) (and_right (ltb x.port.0 (2 ^ 16)) options f);
        last = bit_le x.last;
      }

  pub xgem_lt : xgem_bits x < 2 ^ 51
  xgem_lt = let w = xgem-within in omega arith

  pub xgem_true : Written 64 (xgem_bits x) (xgem_word x)
  xgem_true = protected-written 51 (xgem_bits x) (omega arith) xgem_lt

  pub xgem_back : xgem_of (xgem_word x) ≡ x
  xgem_back =
      let w = xgem-within in
      let v : ℕ = xgem_word x in
      let e : v / 2 ^ 13 ≡ xgem_bits x = xgem_true.holds in
      let pli : field 64 0 14 v ≡ x.pli = omega arith in
      let key : field 64 14 2 v ≡ x.key = omega arith in
      let port : field 64 16 16 v ≡ x.port.0 = omega arith in
      let options : field 64 32 18 v ≡ x.options = omega arith in
      let last : field 64 50 1 v ≡ bit x.last = omega arith in
      λ i. record {
        pli = pli i;
        key = key i;
        port = record { 0 = port i };
        options = options i;
        last = flag-bit x.last (field 64 50 1 v) last i;
      }

pub xgem-again : (v : ℕ) → TrueWord 64 v → xgem_word (xgem_of v) ≡ v
xgem-again v t =
    let x : XgemHeader = xgem_of v in
    let last : bit x.last ≡ field 64 50 1 v = bit-flag (field 64 50 1 v) (omega arith) in
    let pli : field 64 0 14 v ≡ v / 2 ^ 50 = omega (arith, t.fits) in
    let d : xgem_bits x ≡ v / 2 ^ 13 = next v 13 1 (next v 14 18 (next v 32 16 (next v 48 2 pli refl) refl) refl) last in
    ap protected d ∙ sym (is_protected 51 (v / 2 ^ 13) v (omega arith) (omega (arith, t.fits)) (record { true = t; holds = refl }))

pub xgem-fits : (v : ℕ) → xgem_fits (xgem_of v) ≡ true
xgem-fits v =
    ap₂ ◌&&◌ (lt-ltb (xgem_of v).pli (2 ^ 14) (omega arith))
    (ap₂ ◌&&◌ (lt-ltb (xgem_of v).key (2 ^ 2) (omega arith))
    (ap₂ ◌&&◌ (lt-ltb (xgem_of v).port.0 (2 ^ 16) (omega arith)) (lt-ltb (xgem_of v).options (2 ^ 18) (omega arith))))
