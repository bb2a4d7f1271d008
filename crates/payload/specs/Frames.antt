-- A payload as a list of XGEM frames, and whether delineation was lost behind them (clauses 9.1 and 9.2).
-- Assumes nothing.
use Rattle.std.specs.Prelude.{Bool, true, false, cond, List, [], ◌∷◌, ℕ, zero, suc, ◌+◌, leb, length, take, drop}
use Rattle.ids.specs.declared.PortId.{PortId}
use Rattle.xgem.specs.declared.frame.XgemHeader.{XgemHeader}
use Rattle.xgem.specs.Layouts.{payload_size_lem}
use Rattle.xgem.specs.Reads.{Found, fields, unreadable, short, read_xgem_lem}
use Rattle.payload.specs.declared.frames.Next.{Next}
use Rattle.payload.specs.declared.frames.Next.TheVariants.{Done, Lost, Frame}

-- a frame: its port, whether it is the last or only fragment, its key index, where its header stands in the XGTC frame, and
-- its bytes without padding
pub record Xgem : Type 0 where
  pub port : PortId
  pub last : Bool
  pub key : ℕ
  pub place : ℕ
  pub body : List ℕ

-- an XGEM header has eight octets
abbrev pub xgem_header_bytes : ℕ
xgem_header_bytes = 8

-- "0 left: end. 4 left: skipped. Otherwise a header, then [its payload]. An unreadable header, or a payload longer than what
-- is left, is answer 6": a frame has whole words, so fewer bytes than a header has are none or four
abbrev pub ahead : Found XgemHeader → ℕ → Next
ahead short left = Done
ahead unreadable left = Lost
ahead (fields x) left = cond (leb (xgem_header_bytes + payload_size_lem x.pli) left) (Frame x) Lost

abbrev pub next_of : List ℕ → Next
next_of s = ahead (read_xgem_lem s) (length s)

pub record Parsed : Type 0 where
  pub frames : List Xgem
  pub lost : Bool

abbrev pub ended : Bool → Parsed
ended lost = record { frames = []; lost = lost }

abbrev pub with : Xgem → Parsed → Parsed
with x rest = record { frames = x ∷ rest.frames; lost = rest.lost }

-- the frame of a header at the start of s, which stands at a place
abbrev pub frame_of : XgemHeader → ℕ → List ℕ → Xgem
frame_of x place s = record { port = x.port; last = x.last; key = x.key; place = place; body = take x.pli (drop xgem_header_bytes s) }

-- the frames from there on; `rest` parses what stands behind one
unfoldable pub onward : Next → ℕ → List ℕ → (ℕ → List ℕ → Parsed) → Parsed
onward Done place s rest = ended false
onward Lost place s rest = ended true
onward (Frame x) place s rest = with (frame_of x place s) (rest (place + (xgem_header_bytes + payload_size_lem x.pli)) (drop (xgem_header_bytes + payload_size_lem x.pli) s))

-- with a count of frames that is large enough: the length
unfoldable pub parse_in : ℕ → ℕ → List ℕ → Parsed
parse_in zero place s = ended false
parse_in (suc count) place s = onward (next_of s) place s (parse_in count)

-- the payload that stands at a place of the frame
unfoldable pub parse : ℕ → List ℕ → Parsed
unfolding parse_in
parse place s = parse_in (length s) place s
