-- What writing a structure leaves: answer 0 and its octets, or answer 11 and nothing changed.
-- Assumes nothing.
use Rattle.std.specs.Prelude.{Bool, cond, ◌&&◌, List, ◌++◌, ℕ, ◌+◌, ◌-◌, leb, length, drop, replicate}
use Rattle.ids.specs.declared.PortId.{PortId}
use Rattle.octets.specs.Octets.{octets}
use Rattle.xgem.specs.Layouts.{xgem_fits, xgem_word, payload_size_lem}
use Rattle.xgem.specs.declared.frame.XgemHeader.{XgemHeader}
use Rattle.answers.specs.declared.Answer.{Answer}
use Rattle.answers.specs.declared.Answer.TheVariants.{Done, NotWritten}

-- the answer, 0 or 11, and what the target then holds
pub record WriteLeft : Type 0 where
  pub answer : Answer
  pub target : List ℕ

-- octets at the start of a target, the rest unchanged
abbrev pub put : List ℕ → List ℕ → List ℕ
put t s = s ++ drop (length s) t

abbrev pub wrote : Bool → List ℕ → List ℕ → WriteLeft
wrote fits s t = cond (fits && leb (length s) (length t)) (record { answer = Done; target = put t s }) (record { answer = NotWritten; target = t })

abbrev pub write_xgem_lem : XgemHeader → List ℕ → WriteLeft
write_xgem_lem x t = wrote (xgem_fits x) (octets 8 (xgem_word x)) t

-- 9.1.3: padding is 0x55
abbrev pub padding : ℕ → List ℕ
padding pli = replicate (payload_size_lem pli - pli) 0x55

-- an XGEM frame: header, SDU and padding
abbrev pub xgem_frame : XgemHeader → List ℕ → List ℕ
xgem_frame x sdu = octets 8 (xgem_word x) ++ (sdu ++ padding (length sdu))

-- the header of a frame that carries an SDU: its PLI is the SDU's length
abbrev pub carrying : XgemHeader → List ℕ → XgemHeader
carrying x sdu = record { pli = length sdu; key = x.key; port = x.port; options = x.options; last = x.last }

abbrev pub write_xgem_frame_lem : XgemHeader → List ℕ → List ℕ → WriteLeft
write_xgem_frame_lem x sdu t = wrote (xgem_fits (carrying x sdu)) (xgem_frame (carrying x sdu) sdu) t
