-- `integrity::rights` meets its contract.
use mathlib.Core.Path.{◌≡◌}
use mathlib.Core.List.{List}
use Prim.Native.Nat.{ℕ, ◌%◌}
use lib.ListN.{length, take}
use Rattle.aes.specs.Cipher.{at}
use Rattle.aes.specs.Words.{octets_of}
use Rattle.aes.specs.Blocks.{block_in}
use Rattle.ploam.specs.Layout.{message_at}
use Rattle.integrity.specs.Rights.{mark_of_lem}
use Rattle.integrity.specs.Rows.{has_field}
use Rattle.integrity.proofs.SideBySide.{Found}
use Rattle.integrity.proofs.rights.Given as goal

-- what the tags say of the message at place k
abbrev pub found : List ℕ → List ℕ → List ℕ → ℕ → ℕ
found messages places tags k = mark_of_lem (has_field (take 8 (octets_of (block_in tags (k % 8)))) (message_at messages (at places k)))

abbrev pub invariant-loop-j : goal.invariant-loop-j
invariant-loop-j l = (length l.marks ≡ 8) × (Found (found l.messages l.places l.tags) l.j l.marks)
