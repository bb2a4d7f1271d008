-- What becomes of a frame before anything in it is looked at: answers 1 to 5, "Tested in the order of the numbers".
-- Assumes nothing.
use Rattle.std.specs.Prelude.{ℕ, Bool, not, cond, List, leb, length}
use Rattle.xgem.specs.Reads.{Found, fields, unreadable, short}
use Rattle.xgtc.specs.declared.hlend.Hlend.{Hlend}
use Rattle.xgtc.specs.Reads.{read_hlend_lem}
use Rattle.station.specs.declared.Station.{Station}
use Rattle.answers.specs.declared.Answer.TheVariants.{StateOutOfRange, FrameLengthUnfit, BufferTooShort, HlendUnreadable, HeaderTooLong}
use Rattle.validity.specs.Ranges.{in_range}
use Rattle.downstream.specs.declared.Opening.{Opening}
use Rattle.downstream.specs.declared.Opening.TheVariants.{Refused, Unread, Opened}
use Rattle.downstream.specs.Lengths.{length_fits_lem}
use Rattle.downstream.specs.Partitions.{header_end_lem}

-- 4: "HLend unreadable", 5: "header longer than frame". No frame that passed 2 is too short for HLend
abbrev pub by_hlend_lem : Found Hlend → ℕ → Opening
by_hlend_lem unreadable octets = Unread HlendUnreadable
by_hlend_lem short octets = Unread HlendUnreadable
by_hlend_lem (fields h) octets = cond (leb (header_end_lem h) octets) (Opened h) (Unread HeaderTooLong)

-- 2: "frame length unfit", 3: "a buffer too short", for a call whose lent buffers have room or not: of the frame alone
abbrev pub tested : List ℕ → Bool → Opening
tested f room =
    cond (not (length_fits_lem (length f))) (Refused FrameLengthUnfit)
    (cond (not room) (Refused BufferTooShort)
    (by_hlend_lem (read_hlend_lem f) (length f)))

-- 1: "state out of range"
abbrev pub opening_by : Bool → List ℕ → Bool → Opening
opening_by valid f room = cond (not valid) (Refused StateOutOfRange) (tested f room)

unfoldable pub opening : Station → List ℕ → Bool → Opening
opening s f room = opening_by (in_range s) f room
