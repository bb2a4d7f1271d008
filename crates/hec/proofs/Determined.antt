-- No second outcome meets the contract of a public function: for each, any two that do are equal.
-- Assumes nothing.
use mathlib.Core.Path.{◌≡◌, refl, ap}
use Prim.Native.Nat.{ℕ, ◌^◌, ◌<◌}
use native.Mathlib.Omega.{arith}
use Rattle.std.specs.Prelude.{None, Option, Some}
use Rattle.hec.specs.Reads.{Reads, found_word}
use Rattle.hec.specs.Writes.{Written}
use Rattle.hec.specs.declared.Word.{Word}
use Rattle.hec.proofs.Words.{settled}
use Rattle.hec.proofs.Protected.{written_once}

-- the code's answers say no more than the definition's
pub found_word_once : (a b : Option (Word ℕ)) → found_word a ≡ found_word b → a ≡ b
found_word_once (Some u) (Some v) e = let n : u.0 ≡ v.0 = cc in ap (λ (x : ℕ). Some (record { 0 = x })) n
found_word_once (Some u) None e = cc
found_word_once None (Some v) e = cc
found_word_once None None e = refl

-- read32, read64, read64_by_octets
pub read32_once : (w : ℕ) → w < 2 ^ 32 → (a b : Option (Word ℕ)) → Reads 32 w (found_word a) → Reads 32 w (found_word b) → a ≡ b
read32_once w h a b p q = found_word_once a b (settled 32 w (omega arith) h (found_word a) (found_word b) p q)

pub read64_once : (w : ℕ) → w < 2 ^ 64 → (a b : Option (Word ℕ)) → Reads 64 w (found_word a) → Reads 64 w (found_word b) → a ≡ b
read64_once w h a b p q = found_word_once a b (settled 64 w (omega arith) h (found_word a) (found_word b) p q)

-- write32, write64
pub write32_once : (d : ℕ) (a b : Word ℕ) → Written 32 d a.0 → Written 32 d b.0 → a ≡ b
write32_once d a b p q = ap (λ (x : ℕ). record { 0 = x }) (written_once 32 d a.0 b.0 (omega arith) p q)

pub write64_once : (d : ℕ) (a b : Word ℕ) → Written 64 d a.0 → Written 64 d b.0 → a ≡ b
write64_once d a b p q = ap (λ (x : ℕ). record { 0 = x }) (written_once 64 d a.0 b.0 (omega arith) p q)
