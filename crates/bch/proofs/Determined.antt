-- No second table meets the contract of `remainders::table`: any two that do are equal.
-- Assumes nothing.
use mathlib.Core.Path.{◌≡◌, sym, ◌∙◌}
use mathlib.Core.List.{List}
use Prim.Native.Nat.{ℕ}
use native.Mathlib.Omega.{arith}
use lib.ListN.{length}
use lib.Seq.{ext_get_or}
use Rattle.bch.specs.Tables.{Remainders}

pub remainders_once : (a b : List ℕ) → length a ≡ 63 → length b ≡ 63 → Remainders a → Remainders b → a ≡ b
remainders_once a b la lb p q = ext_get_or 0 a b (la ∙ sym lb) (λ i h. p i (omega arith) ∙ sym (q i (omega arith)))
