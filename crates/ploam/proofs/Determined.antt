-- No second outcome meets a contract of this crate.
-- Assumes nothing.
use mathlib.Core.Path.{◌≡◌, ◌∙◌, sym}
use mathlib.Core.List.{List}
use Prim.Native.Nat.{ℕ}
use Rattle.std.specs.Prelude.{Option}
use Rattle.ploam.specs.declared.Message.{Message}
use Rattle.ploam.specs.Reading.{received}

pub read_determined : (m : List ℕ) (a b : Option Message) → a ≡ received m → b ≡ received m → a ≡ b
read_determined m a b p q = p ∙ sym q
