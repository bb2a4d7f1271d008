-- `integrity::right_at` meets its contract.
use mathlib.Core.Path.{◌∙◌, ap}
use mathlib.Core.List.{List}
use Prim.Native.Nat.{ℕ}
use native.Mathlib.Omega.{arith}
use borrow.Author.Tests.{lt-leb, le-leb}
use lib.ListN.{length}
use Rattle.ploam.specs.Layout.{message_at, mic_field}
use Rattle.integrity.specs.Integrity.{same}
use Rattle.integrity.proofs.RowByRow.{short_message, whole_message}
use Rattle.integrity.proofs.right_at.Goals as goal

pub has_mic-requires : goal.has_mic-requires
has_mic-requires c =
    let found = c.in-Some.ensures in
    omega (arith, ap length found.1 ∙ whole_message c.args.messages.now c.args.place found.0)

pub returns-in-Some : goal.returns-in-Some
returns-in-Some c =
    let a = c.args in
    let b = a.messages.now in
    let found = c.in-Some.ensures in
    simp (le-leb 48 (length (message_at b a.place)) (omega (arith, whole_message b a.place found.0)))
    (c.has_mic.ensures ∙ ap (λ (m : List ℕ). same (mic_field m) a.mic) found.1)

pub returns-in-None : goal.returns-in-None
returns-in-None c =
    let a = c.args in
    simp (lt-leb 48 (length (message_at a.messages.now a.place)) (short_message a.messages.now a.place c.in-None.ensures))
