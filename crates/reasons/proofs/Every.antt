-- Every structure of a map has a name; in a state that sends nothing it is that one.
-- Assumes nothing.
use Prim.Native.Nat.{ℕ, zero, suc}
use mathlib.Core.Path.{◌≡◌, ◌∙◌, refl, ap}
use mathlib.Core.Bool.{Bool, true, false, cond}
use mathlib.Core.List.{List, [], ◌∷◌}
use lib.Dec.{ltb}
use lib.ListN.{length, replicate}
use Rattle.station.specs.States.{silent}
use Rattle.entries.specs.declared.Own.{Own}
use Rattle.entries.specs.declared.Verdict.{Verdict}
use Rattle.entries.specs.declared.Verdict.TheVariants.{ContinuingNothing, Seventeenth, Silent}
use Rattle.entries.specs.declared.Standing.{Standing}
use Rattle.entries.specs.declared.Standing.TheVariants.{Apart, Head, More}
use Rattle.entries.specs.Standings.{is_planned_lem}
use Rattle.entries.proofs.Facts.{silent-apart}
use Rattle.series.specs.Limits.{entries_a_burst}
use Rattle.series.specs.declared.Around.{Around}
use Rattle.series.specs.Series.{entry_at, entry_count, standings_from, outset, beyond, verdict_of}
use Rattle.bwmap.specs.Verdicts.{Role, roles, verdicts_of, verdicts}
use Rattle.bwmap.specs.Verdicts.Role.{alone, opens, joins}

one_each : (around : Around) (v : Verdict) (l : List Role) → length (verdicts_of around v l) ≡ length l
one_each around v [] = refl
one_each around v (alone x ∷ l) = ap suc (one_each around v l)
one_each around v (joins ∷ l) = ap suc (one_each around v l)
one_each around v (opens s ∷ l) = ap suc (go (is_planned_lem (verdict_of around s)) (one_each (beyond around s) (verdict_of around s) l) (one_each around (verdict_of around s) l))
  where
    go : (b : Bool) → length (verdicts_of (beyond around s) (verdict_of around s) l) ≡ length l → length (verdicts_of around (verdict_of around s) l) ≡ length l
        → length (cond b (verdicts_of (beyond around s) (verdict_of around s) l) (verdicts_of around (verdict_of around s) l)) ≡ length l
    go true x y = x
    go false x y = y

one-role : (k : ℕ) (l : List Standing) → length (roles k l) ≡ length l
one-role k [] = refl
one-role k (Apart v ∷ l) = ap suc (one-role 0 l)
one-role k (Head a ∷ l) = ap suc (one-role 1 l)
one-role zero (More a ∷ l) = ap suc (one-role 0 l)
one-role (suc k) (More a ∷ l) = go (ltb (suc k) entries_a_burst) (one-role (suc (suc k)) l) (one-role 0 l)
  where
    go : (b : Bool) → length (roles (suc (suc k)) l) ≡ length l → length (roles 0 l) ≡ length l → length (cond b (joins ∷ roles (suc (suc k)) l) (alone Seventeenth ∷ roles 0 l)) ≡ suc (length l)
    go true x y = ap suc x
    go false x y = ap suc y

standings-length : (own : Own) (m : List ℕ) (i k : ℕ) → length (standings_from own m i k) ≡ k
standings-length own m i zero = refl
standings-length own m i (suc k) = ap suc (standings-length own m (suc i) k)

pub names-every : (own : Own) (m : List ℕ) (carried : ℕ) → length (verdicts own m carried) ≡ entry_count m
names-every own m carried =
    let l : List Standing = standings_from own m 0 (entry_count m) in
    one_each (outset carried) ContinuingNothing (roles 0 l) ∙ one-role 0 l ∙ standings-length own m 0 (entry_count m)

-- ---- in a state that sends nothing

module _ (own : Own) (m : List ℕ) (h : silent own.activation ≡ true) where
  all_dark : (k i : ℕ) (around : Around) (v : Verdict) → verdicts_of around v (roles 0 (standings_from own m i k)) ≡ replicate k Silent
  all_dark zero i around v = refl
  all_dark (suc k) i around v = rw (silent-apart own (entry_at m i) h) (ap (λ (l : List Verdict). Silent ∷ l) (all_dark k (suc i) around v))

  pub names_dark : (carried : ℕ) → verdicts own m carried ≡ replicate (entry_count m) Silent
  names_dark carried = all_dark (entry_count m) 0 (outset carried) ContinuingNothing
