-- Fields read and written one after another.
-- Assumes nothing.
use mathlib.Core.Path.{◌≡◌, refl, sym, ap, ap₂, ◌∙◌}
use mathlib.Core.List.{List, [], ◌∷◌, ◌++◌, append_assoc, append-nil}
use Prim.Native.Nat.{ℕ, zero, suc, ◌+◌, ◌-◌, ◌*◌, ◌≤◌, ◌<◌}
use native.Mathlib.Omega.{arith}
use lib.ListN.{length, get_or, take, drop, length-append}
use Rattle.xgem.specs.Writes.{put}
use borrow.Rule.Slice.PartMut.{put_mid}
use Rattle.xgem.proofs.Frames.{put-behind}
use Rattle.layout.specs.Rows.{each, many}

-- ---- reading one after another

module _ {A : Type 0} (of : List ℕ → A) (w : ℕ) where
  pub many-length : (n : ℕ) (c : List ℕ) → length (many of w n c) ≡ n
  many-length zero c = refl
  many-length (suc n) c = ap suc (many-length n (drop w c))

-- ---- writing one after another

module _ {A : Type 0} (octets_of : A → List ℕ) where
  pub each-length : (w : ℕ) → ((a : A) → length (octets_of a) ≡ w) → (l : List A) → length (each octets_of l) ≡ w * length l
  each-length w f [] = omega arith
  each-length w f (a ∷ l) =
      length-append (octets_of a) (each octets_of l) ∙ omega (arith, f a, each-length w f l)

  pub each_more : (l : List A) (i : ℕ) (d : A) → i < length l → each octets_of (take (suc i) l) ≡ each octets_of (take i l) ++ octets_of (get_or l i d)
  each_more [] i d h = absurd (omega arith)
  each_more (a ∷ l) zero d h = append-nil (octets_of a)
  each_more (a ∷ l) (suc i) d h =
      ap (λ (r : List ℕ). octets_of a ++ r) (each_more l i d (omega arith))
      ∙ sym (append_assoc (octets_of a) (each octets_of (take i l)) (octets_of (get_or l i d)))

-- ---- fields laid down one behind the other

pub joined : (p s : List ℕ) (k m : ℕ) → length p ≡ k → length s ≡ m → length (p ++ s) ≡ k + m
joined p s k m e f = length-append p s ∙ ap₂ ◌+◌ e f

-- a field behind what was laid before it
pub laid
    : (t p s : List ℕ) (k m : ℕ) {u v : List ℕ} → (u ≡ put t p) × (length p ≡ k) → (v ≡ put (take (length u - k) (drop k u)) s) × (length s ≡ m)
    → k + m ≤ length t → (put_mid k (length u - k) u v ≡ put t (p ++ s)) × (length (p ++ s) ≡ k + m)
laid t p s k m {u} q r h = (
  ap (λ (l : List ℕ). put_mid k (length u - k) u l) r.0 ∙ put-behind t p s u k q.1 (omega (arith, r.1)) q.0,
  joined p s k m q.1 r.1,
)
