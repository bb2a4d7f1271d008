-- The layout of clause 9.1.2. Fields stand most significant first; the last 13 bits of each word protect the others.
-- Assumes nothing.
use Rattle.std.specs.Prelude.{Bool, cond, ◌&&◌, ℕ, ◌+◌, ◌-◌, ◌*◌, ◌/◌, ◌%◌, ◌^◌, eqb, ltb}
use Rattle.ids.specs.declared.PortId.{PortId}
use Rattle.hec.specs.Writes.{protected}
use Rattle.xgem.specs.declared.frame.XgemHeader.{XgemHeader}

-- the field of so many bits that starts at bit `at` of a word of n, counted from the first
abbrev pub field : ℕ → ℕ → ℕ → ℕ → ℕ
field n at width word = word / 2 ^ (n - at - width) % 2 ^ width

-- a field of one bit
abbrev pub flag : ℕ → ℕ → ℕ → Bool
flag n at word = eqb (field n at 1 word) 1

-- so many bits more behind the bits before them
abbrev pub behind : ℕ → ℕ → ℕ → ℕ
behind before width value = before * 2 ^ width + value

abbrev pub bit : Bool → ℕ
bit set = cond set 1 0

-- XGEM header, 64 bits: PLI 14, key index 2, Port-ID 16, options 18, LF 1, HEC 13
abbrev pub xgem_of : ℕ → XgemHeader
xgem_of word =
    record {
      pli = field 64 0 14 word;
      key = field 64 14 2 word;
      port = record { 0 = field 64 16 16 word };
      options = field 64 32 18 word;
      last = flag 64 50 word;
    }

abbrev pub xgem_fits : XgemHeader → Bool
xgem_fits x = ltb x.pli (2 ^ 14) && (ltb x.key (2 ^ 2) && (ltb x.port.0 (2 ^ 16) && ltb x.options (2 ^ 18)))

abbrev pub xgem_bits : XgemHeader → ℕ
xgem_bits x = behind (behind (behind (behind x.pli 2 x.key) 16 x.port.0) 18 x.options) 1 (bit x.last)

abbrev pub xgem_word : XgemHeader → ℕ
xgem_word x = protected (xgem_bits x)

-- 9.1.3: a payload takes 0 bytes for PLI 0, 8 for 1 to 7, and else the PLI rounded up to 4
abbrev pub payload_size_lem : ℕ → ℕ
payload_size_lem pli = cond (eqb pli 0) 0 (cond (ltb pli 8) 8 ((pli + 3) / 4 * 4))
