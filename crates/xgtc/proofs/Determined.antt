-- No second outcome meets the contract of a public function that reads: for each, any two that do are equal. (For the
-- writers this is `write_once` of framing; the contracts of `of` are an equation of the result itself.)
-- Assumes nothing.
use mathlib.Core.Path.{◌≡◌}
use Rattle.std.specs.Prelude.{Result}
use Rattle.xgem.specs.declared.ReadError.{ReadError}
use Rattle.xgem.specs.Reads.{Found, found_in}
use Rattle.xgem.proofs.Determined.{read_once}
use Rattle.xgtc.specs.declared.hlend.Hlend.{Hlend}
use Rattle.xgtc.specs.declared.allocation.Allocation.{Allocation}

-- read_hlend
pub read_hlend_once : (x : Found Hlend) (a b : Result Hlend ReadError) → found_in a ≡ x → found_in b ≡ x → a ≡ b
read_hlend_once = read_once

-- read_allocation
pub read_allocation_once : (x : Found Allocation) (a b : Result Allocation ReadError) → found_in a ≡ x → found_in b ≡ x → a ≡ b
read_allocation_once = read_once
