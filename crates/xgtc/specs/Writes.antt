-- What writing HLend or an allocation structure leaves.
-- Assumes nothing.
use Rattle.std.specs.Prelude.{List, ℕ}
use Rattle.octets.specs.Octets.{octets}
use Rattle.xgem.specs.Writes.{WriteLeft, wrote}
use Rattle.xgtc.specs.Layouts.{hlend_fits, hlend_word, allocation_fits, allocation_word}
use Rattle.xgtc.specs.declared.hlend.Hlend.{Hlend}
use Rattle.xgtc.specs.declared.allocation.Allocation.{Allocation}

abbrev pub write_hlend_lem : Hlend → List ℕ → WriteLeft
write_hlend_lem h t = wrote (hlend_fits h) (octets 4 (hlend_word h)) t

abbrev pub write_allocation_lem : Allocation → List ℕ → WriteLeft
write_allocation_lem a t = wrote (allocation_fits a) (octets 8 (allocation_word a)) t
