-- What reading HLend or an allocation structure finds at the start of a list of octets.
-- Assumes nothing.
use Rattle.std.specs.Prelude.{List, ℕ}
use Rattle.hec.specs.Reads.{reading}
use Rattle.xgem.specs.Reads.{Found, read_as}
use Rattle.xgtc.specs.Layouts.{hlend_of, allocation_of}
use Rattle.xgtc.specs.declared.hlend.Hlend.{Hlend}
use Rattle.xgtc.specs.declared.allocation.Allocation.{Allocation}

abbrev pub read_hlend_lem : List ℕ → Found Hlend
read_hlend_lem s = read_as (reading 32) 4 hlend_of s

abbrev pub read_allocation_lem : List ℕ → Found Allocation
read_allocation_lem s = read_as (reading 64) 8 allocation_of s
