-- A number is in the ledger exactly if, entry by entry, it was given and not taken back.
-- Assumes nothing.
use Prim.Native.Nat.{ℕ}
use mathlib.Core.Path.{◌≡◌, refl, sym, ap}
use mathlib.Core.Bool.{Bool, true, false, ◌&&◌, ◌||◌, not, false≢true}
use mathlib.Core.List.{List, [], ◌∷◌, ◌++◌}
use lib.Dec.{eqb}
use borrow.Author.Tests.{eqb-true, eq-eqb}
use Rattle.ids.specs.Places.{some}
use Rattle.validity.proofs.Tests.{both, neither as neither-of, nor, not_so}
use Rattle.ledger.specs.Entries.{Entry, gave, took_back, took_all_back, neither, takes_back}
use Rattle.ledger.specs.Ledger.{InLedger}

-- ---- the statement

-- whether n stands after an entry, where f says what stood before it
abbrev pub posted : Entry → (ℕ → Bool) → ℕ → Bool
posted (gave k) f n = eqb n k || f n
posted (took_back k) f n = not (eqb n k) && f n
posted took_all_back f n = false
posted neither f n = f n

abbrev pub stands : List Entry → ℕ → Bool
stands [] n = false
stands (x ∷ l) n = posted x (stands l) n

-- ---- the proof

pub or_right : (a b : Bool) → b ≡ true → (a || b) ≡ true
or_right true b e = refl
or_right false b e = e

since_stands : (since before : List Entry) (n : ℕ) → some (takes_back n) since ≡ false → stands (since ++ (gave n ∷ before)) n ≡ true
since_stands [] before n k = rw (eq-eqb n n refl)
since_stands (gave j ∷ l) before n k = or_right (eqb n j) _ (since_stands l before n k)
since_stands (took_back j ∷ l) before n k =
    let b = neither-of (eqb n j) (some (takes_back n) l) k in
    rw b.0 (since_stands l before n b.1)
since_stands (took_all_back ∷ l) before n k = absurd (false≢true (sym k))
since_stands (neither ∷ l) before n k = since_stands l before n k

pub in-stands : (l : List Entry) (n : ℕ) → InLedger l n → stands l n ≡ true
in-stands l n i = rw i.given (since_stands i.since i.before n i.kept)

later : (x : Entry) (l : List Entry) (n : ℕ) → takes_back n x ≡ false → InLedger l n → InLedger (x ∷ l) n
later x l n t i =
    record {
      since = x ∷ i.since;
      before = i.before;
      given = ap (λ (r : List Entry). x ∷ r) i.given;
      kept = nor (takes_back n x) _ t i.kept;
    }

pub stands-in : (l : List Entry) (n : ℕ) → stands l n ≡ true → InLedger l n
stands-in [] n e = absurd (false≢true e)
stands-in (gave k ∷ l) n e = go (eqb n k) refl e (stands-in l n)
  where
    go : (b : Bool) → eqb n k ≡ b → (b || stands l n) ≡ true → (stands l n ≡ true → InLedger l n) → InLedger (gave k ∷ l) n
    go true t e ih =
        let q : k ≡ n = sym (eqb-true n k t) in
        record { since = []; before = l; given = ap (λ (j : ℕ). gave j ∷ l) q; kept = refl }
    go false t e ih = later (gave k) l n refl (ih e)
stands-in (took_back k ∷ l) n e =
    let b = both (not (eqb n k)) (stands l n) e in
    later (took_back k) l n (not_so (eqb n k) b.0) (stands-in l n b.1)
stands-in (took_all_back ∷ l) n e = absurd (false≢true e)
stands-in (neither ∷ l) n e = later neither l n refl (stands-in l n e)

-- what stands after an entry depends on what stood before it and on nothing else
pub posted-alike : (x : Entry) (f g : ℕ → Bool) (n : ℕ) → f n ≡ g n → posted x f n ≡ posted x g n
posted-alike (gave k) f g n e = rw e
posted-alike (took_back k) f g n e = rw e
posted-alike took_all_back f g n e = refl
posted-alike neither f g n e = e
