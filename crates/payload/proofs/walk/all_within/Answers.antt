-- `payload::walk::all_within` meets its contract.
use mathlib.Core.Path.{◌≡◌, refl, ap, ◌∙◌}
use mathlib.Core.Bool.{Bool, ◌&&◌}
use mathlib.Core.List.{List, [], ◌∷◌}
use Prim.Native.Nat.{ℕ}
use borrow.Author.Rules.{rules}
use lib.Dec.{leb}
use Rattle.std.proofs.Common.{tests}
use Rattle.std.specs.List.{list_all}
use Rattle.std.proofs.lemmas.Iterator.{YieldsList-from_slice}
use Rattle.std.proofs.lemmas.Iterator.Search.{all_from_yields_List}
use Rattle.ports.specs.Limits.{slot_bytes}
use Rattle.payload.specs.Walk.{all_within_lem}
use Rattle.payload.proofs.walk.all_within.Goals as goal

-- the test of each, by recursion
each : (l : List ℕ) → list_all (λ (n : ℕ). leb n slot_bytes) l ≡ all_within_lem l
each [] = refl
each (n ∷ l) = ap (λ (b : Bool). leb n slot_bytes && b) (each l)

pub returns : goal.returns
returns c =
    let l = c.args.lengths in
    all_from_yields_List (λ (n : ℕ). leb n slot_bytes) _ _ _ c.all.ensures.ran (YieldsList-from_slice l cc) (λ x b q k. search (rules, tests)) ∙ each l
