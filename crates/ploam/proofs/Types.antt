-- The message types that Table 11-2 does not have, and that what is read has the type that stands in octet 3.
-- Assumes nothing.
use mathlib.Core.Path.{◌≡◌, ◌∙◌, refl, sym}
use mathlib.Core.Bool.{Bool, true, false, cond}
use mathlib.Core.List.{List}
use Prim.Native.Nat.{ℕ}
use lib.Dec.{eqb}
use borrow.Author.Tests.{ne_eqb, eqb-true}
use Rattle.ploam.specs.Layout.{type_of}
use Rattle.ploam.specs.Reading.{content_as, content_of, type_code}
use Rattle.ploam.specs.declared.Content.{Content}
use Rattle.ploam.specs.declared.Content.TheVariants.{Unknown}

pub unknown : (k : ℕ) (m : List ℕ) → (k ≡ 0x01 → ⊥) → (k ≡ 0x03 → ⊥) → (k ≡ 0x04 → ⊥) → (k ≡ 0x05 → ⊥) → (k ≡ 0x06 → ⊥)
    → (k ≡ 0x09 → ⊥) → (k ≡ 0x0a → ⊥) → (k ≡ 0x0d → ⊥) → (k ≡ 0x12 → ⊥) → Unknown k ≡ content_as k m
unfolding content_as
unknown k m n1 n3 n4 n5 n6 n9 na nd n12 =
    simp (
      ne_eqb k 0x01 n1,
      ne_eqb k 0x03 n3,
      ne_eqb k 0x04 n4,
      ne_eqb k 0x05 n5,
      ne_eqb k 0x06 n6,
      ne_eqb k 0x09 n9,
      ne_eqb k 0x0a na,
      ne_eqb k 0x0d nd,
      ne_eqb k 0x12 n12,
    )

-- one test of the table: what it picks has the type that it tests for
picked : (k type : ℕ) (x y : Content) → type_code x ≡ type → type_code y ≡ k → type_code (cond (eqb k type) x y) ≡ k
picked k type x y p q = go (eqb k type) (eqb-true k type)
  where
    go : (b : Bool) → (b ≡ true → k ≡ type) → type_code (cond b x y) ≡ k
    go true e = p ∙ sym (e refl)
    go false e = q

-- what is read has the type that stands in octet 3
pub type_read : (m : List ℕ) → type_code (content_of m) ≡ type_of m
unfolding content_as
type_read m =
    let k = type_of m in
    picked k 0x01 _ _ refl
    (picked k 0x03 _ _ refl
    (picked k 0x04 _ _ refl
    (picked k 0x05 _ _ refl
    (picked k 0x06 _ _ refl
    (picked k 0x09 _ _ refl
    (picked k 0x0a _ _ refl
    (picked k 0x0d _ _ refl
    (picked k 0x12 _ _ refl refl))))))))
