-- The layouts of clauses 8.1.1 and 8.1.2. Fields stand most significant first; the last 13 bits of each word protect the
-- others.
-- Assumes nothing.
use Rattle.std.specs.Prelude.{Bool, ◌&&◌, ℕ, ◌^◌, ltb}
use Rattle.ids.specs.declared.AllocId.{AllocId}
use Rattle.hec.specs.Writes.{protected}
use Rattle.xgem.specs.Layouts.{field, flag, behind, bit}
use Rattle.xgtc.specs.declared.hlend.Hlend.{Hlend}
use Rattle.xgtc.specs.declared.allocation.Allocation.{Allocation}

-- HLend, 32 bits: BWmap length 11, PLOAM count 8, HEC 13
abbrev pub hlend_of : ℕ → Hlend
hlend_of word = record { bwmap = field 32 0 11 word; ploam = field 32 11 8 word }

abbrev pub hlend_fits : Hlend → Bool
hlend_fits h = ltb h.bwmap (2 ^ 11) && ltb h.ploam (2 ^ 8)

abbrev pub hlend_word : Hlend → ℕ
hlend_word h = protected (behind h.bwmap 8 h.ploam)

-- allocation structure, 64 bits: Alloc-ID 14, DBRu 1, PLOAMu 1, StartTime 16, GrantSize 16, FWI 1, BurstProfile 2, HEC 13
abbrev pub allocation_of : ℕ → Allocation
allocation_of word =
    record {
      alloc = record { 0 = field 64 0 14 word };
      dbru = flag 64 14 word;
      ploamu = flag 64 15 word;
      start = field 64 16 16 word;
      grant = field 64 32 16 word;
      fwi = flag 64 48 word;
      profile = field 64 49 2 word;
    }

abbrev pub allocation_fits : Allocation → Bool
allocation_fits a = ltb a.alloc.0 (2 ^ 14) && (ltb a.start (2 ^ 16) && (ltb a.grant (2 ^ 16) && ltb a.profile (2 ^ 2)))

abbrev pub allocation_bits : Allocation → ℕ
allocation_bits a =
    behind (behind (behind (behind (behind (behind a.alloc.0 1 (bit a.dbru)) 1 (bit a.ploamu)) 16 a.start) 16 a.grant) 1 (bit a.fwi)) 2 a.profile

abbrev pub allocation_word : Allocation → ℕ
allocation_word a = protected (allocation_bits a)
