-- `cmac::tags` meets its contract.
use mathlib.Core.Path.{◌≡◌}
use lib.ListN.{replicate}
use Rattle.aes.specs.Blocks.{each}
use Rattle.cmac.specs.Tags.{chained_by, message_of}
use Rattle.cmac.proofs.tags.Given as goal

abbrev pub invariant-loop-i : goal.invariant-loop-i
invariant-loop-i l = l.xs ≡ each l.n (λ j x. chained_by l.key.key (message_of l.ms l.size j) l.i-counter) (replicate 32 0)
