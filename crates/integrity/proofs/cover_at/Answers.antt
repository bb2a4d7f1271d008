-- `integrity::cover_at` meets its contract.
use mathlib.Core.Path.{◌∙◌, ap, ap₂}
use mathlib.Core.List.{List, ◌∷◌}
use Prim.Native.Nat.{ℕ, ◌/◌}
use native.Mathlib.Omega.{arith}
use borrow.Author.Tests.{lt-ltb, le-ltb}
use lib.ListN.{length, take}
use lib.Seq.{paste}
use Rattle.integrity.proofs.RowByRow.{whole_message}
use Rattle.integrity.proofs.cover_at.Goals as goal

pub cover-requires : goal.cover-requires
cover-requires c =
    let found = c.in-Some.ensures in
    (omega (arith, ap length found.1 ∙ whole_message c.args.messages.now c.args.place found.0), c.requires)

pub returns-in-Some : goal.returns-in-Some
returns-in-Some c =
    let a = c.args in
    let found = c.in-Some.ensures in
    simp (lt-ltb a.place (length a.messages.now / 48) found.0)
    (c.cover.ensures ∙ ap₂ (λ (code : ℕ) (m : List ℕ). paste a.rows.now a.at (code ∷ take 40 m) 41) c.direction_code.ensures found.1)

pub returns-in_default : goal.returns-in_default
returns-in_default c = simp (le-ltb c.args.place (length c.args.messages.now / 48) c.in_default.ensures)
