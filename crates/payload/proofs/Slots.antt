-- The bytes of unfinished SDUs in the memory. But for the proofs of `lay_partial` and `extend`, no other looks at where a slot
-- stands.
-- Assumes nothing.
use mathlib.Core.Path.{◌≡◌, refl, ap}
use mathlib.Core.List.{List, [], ◌++◌}
use Prim.Native.Nat.{ℕ, ◌+◌, ◌*◌, ◌≤◌, ◌<◌}
use native.Mathlib.Omega.{arith}
use lib.ListN.{length, take, drop, length-drop}
use lib.Seq.{length-take-le}
use Rattle.ports.specs.Limits.{slots, slot_bytes}
use Rattle.payload.specs.Memory.{partial, extended}
use Rattle.payload.specs.Walk.{memory_bytes}
use Rattle.payload.proofs.Put.{length-put, put_onto, put-before, put-after}

-- nothing has come yet
pub nothing-held : (memory : List ℕ) (i : ℕ) → partial memory i 0 ≡ []
unfolding partial
nothing-held memory i = refl

pub length-partial : (memory : List ℕ) (i have : ℕ) → i < slots → have ≤ slot_bytes → memory_bytes ≤ length memory → length (partial memory i have) ≡ have
unfolding partial
length-partial memory i have h k m = length-take-le have (drop (i * slot_bytes) memory) (simp length-drop (omega arith))

-- a fragment that is added: the slot holds what it held and the fragment, and every other slot is as it was
module _ (memory : List ℕ) (i have : ℕ) (body : List ℕ) (h : i < slots) (fits : have + length body ≤ slot_bytes) (m : memory_bytes ≤ length memory) where
  pub length-extended : length (extended memory i have body) ≡ length memory
  unfolding extended
  length-extended = length-put memory (i * slot_bytes + have) body (omega arith)

  pub slot_holds : partial (extended memory i have body) i (have + length body) ≡ partial memory i have ++ body
  unfolding partial extended
  slot_holds = put_onto memory (i * slot_bytes) have body (omega arith)

  pub slot_below : (j n : ℕ) → j < i → n ≤ slot_bytes → partial (extended memory i have body) j n ≡ partial memory j n
  unfolding partial extended
  slot_below j n l k = put-before memory (i * slot_bytes + have) body (j * slot_bytes) n (omega arith) (omega arith)

  pub slot_above : (j n : ℕ) → i < j → n ≤ slot_bytes → partial (extended memory i have body) j n ≡ partial memory j n
  unfolding partial extended
  slot_above j n l k = ap (take n) (put-after memory (i * slot_bytes + have) body (j * slot_bytes) (omega arith) (omega arith))
