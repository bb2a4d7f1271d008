-- The series of a head is one.
-- Assumes nothing.
use Prim.Native.Nat.{ℕ, ◌+◌, ◌≤◌, ◌<◌}
use mathlib.Core.Path.{◌≡◌, refl, ap₂}
use mathlib.Core.Bool.{Bool, true, false}
use mathlib.Core.List.{List, [], ◌∷◌}
use native.Mathlib.Omega.{arith}
use lib.Dec.{ltb, eqb}
use lib.ListN.{length}
use borrow.Author.Tests.{ltb-true, ltb-false, eqb-true, eqb-false}
use Rattle.xgtc.specs.declared.allocation.Allocation.{Allocation}
use Rattle.entries.specs.declared.Own.{Own}
use Rattle.series.specs.Series.{Series, entry_at}
use Rattle.bwmap.specs.Promises.{Follow}
use Rattle.reasons.specs.Facts.{OursAt, Belongs, SeriesAt, OfSeries, planned_before}
use Rattle.reasons.proofs.Belonging.{one-reading, one_head}

module _ (own : Own) (m : List ℕ) where
  follow-ours : (i : ℕ) (l : List Allocation) → Follow own m i l → (j : ℕ) → i ≤ j → j < i + length l → OursAt own m j true
  follow-ours i [] f j from to = absurd (never from to)
    where
      never : i ≤ j → j < i + 0 → ⊥
      never from to = omega arith
  follow-ours i (a ∷ l) f j from to = go (eqb j i) refl (follow-ours (i + 1) l f.2 j)
    where
      go : (b : Bool) → eqb j i ≡ b → (i + 1 ≤ j → j < i + 1 + length l → OursAt own m j true) → OursAt own m j true
      go true p ih = rw (eqb-true j i p) (record { is = a; mine = f.1 })
      go false p ih = ih (omega (arith, eqb-false j i p)) (omega arith)

  series-belongs : (h : ℕ) (s : Series) → SeriesAt own m h s → (j : ℕ) → j ≤ length s.more → Belongs own m h (h + j)
  series-belongs h s x j to =
      let few = x.few in
      record {
        behind = omega arith;
        few = omega arith;
        head = record { is = s.head; mine = x.head };
        more = λ k after until. follow-ours (h + 1) s.more x.more k (omega arith) (omega arith);
      }

  no_longer : (h : ℕ) (s t : Series) → SeriesAt own m h s → SeriesAt own m h t → length t.more ≤ length s.more
  no_longer h s t x y = go (ltb (length s.more) (length t.more)) refl
    where
      go : (b : Bool) → ltb (length s.more) (length t.more) ≡ b → length t.more ≤ length s.more
      go true p =
          let e : h + (length s.more + 1) ≡ h + length s.more + 1 = omega arith in
          absurd (x.whole (rw (← e) (series-belongs h t y (length s.more + 1) (omega (arith, ltb-true (length s.more) (length t.more) p)))))
      go false p = ltb-false (length s.more) (length t.more) p

  one-follow : (i : ℕ) (l k : List Allocation) → Follow own m i l → Follow own m i k → length l ≡ length k → l ≡ k
  one-follow i [] [] f g e = refl
  one-follow i [] (b ∷ k) f g e =
      let z : ⊥ = omega arith in
      absurd z
  one-follow i (a ∷ l) [] f g e =
      let z : ⊥ = omega arith in
      absurd z
  one-follow i (a ∷ l) (b ∷ k) f g e = ap₂ ◌∷◌ (one-reading (entry_at m i) a b f.1.read g.1.read) (one-follow (i + 1) l k f.2 g.2 (omega arith))

  pub one-series : (h : ℕ) (s t : Series) → SeriesAt own m h s → SeriesAt own m h t → s ≡ t
  one-series h s t x y =
      let heads : s.head ≡ t.head = one-reading (entry_at m h) s.head t.head x.head.read y.head.read in
      let long : length s.more ≡ length t.more = omega (arith, no_longer h s t x y, no_longer h t s y x) in
      let mores : s.more ≡ t.more = one-follow (h + 1) s.more t.more x.more y.more long in
      both s t heads mores
    where
      both : (s t : Series) → s.head ≡ t.head → s.more ≡ t.more → s ≡ t
      both s t p q = ap₂ (λ (a : Allocation) (l : List Allocation). record { head = a; more = l }) p q

  -- so what holds of a series that has the i-th entry holds of this one
  pub of_one
      : (carried i h : ℕ) (s : Series) (P : List Series → Series → Type 0) → SeriesAt own m h s → Belongs own m h i → OfSeries own m carried i P
      → P (planned_before own m carried h) s
  of_one carried i h s P x y o = go o.head o.series (one_head own m o.head h i o.of y) o.at o.holds
    where
      go : (g : ℕ) (t : Series) → g ≡ h → SeriesAt own m g t → P (planned_before own m carried g) t → P (planned_before own m carried h) s
      go g t e z p =
          let z' : SeriesAt own m h t = rw (← e) z in
          let p' : P (planned_before own m carried h) t = rw (← e) p in
          rw (one-series h s t x z') p'
