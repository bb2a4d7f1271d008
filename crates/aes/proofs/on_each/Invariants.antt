-- `aes::on_each` meets its contract.
use mathlib.Core.Path.{◌≡◌}
use Prim.Native.Nat.{ℕ, ◌<◌}
use Rattle.aes.specs.Blocks.{each}
use Rattle.aes.specs.declared.Words.{Words}
use Rattle.aes.proofs.on_each.Given as goal

abbrev pub invariant-loop-j : goal.invariant-loop-j
invariant-loop-j g l =
    (f : ℕ → Words → Words) → ((j : ℕ) (x r : Words) → j < l.n → goal.F-post g l.work j x r → r ≡ f j x) → l.blocks ≡ each l.j f l.initial.blocks
