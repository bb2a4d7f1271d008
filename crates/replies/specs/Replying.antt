-- "A planned PLOAMu burst sends Serial_Number_ONU in O2-3, Registration with SeqNo 0 in O4, and in O5 the oldest owed
-- answer, which is then no longer owed, or Acknowledge 'no message' with SeqNo 0."
-- Assumes nothing.
use Rattle.std.specs.Prelude.{None, Option, Some, ℕ, ◌≡◌, Bool, cond, eqb}
use Rattle.ids.specs.declared.OnuId.{OnuId}
use Rattle.ploam.specs.Reading.{serial_at_lem}
use Rattle.ploamu.specs.declared.UpstreamMessage.{UpstreamMessage}
use Rattle.ploamu.specs.declared.UpstreamMessage.TheVariants as says
use Rattle.station.specs.declared.Activation.{Activation}
use Rattle.station.specs.declared.Activation.TheVariants.{Initial, SerialNumber, Ranging, Operation, Intermittent, EmergencyStop}
use Rattle.station.specs.declared.Station.{Station}
use Rattle.ploam.specs.declared.Completion.TheVariants.{NoMessage}
use Rattle.link.specs.declared.Response.{Response}
use Rattle.link.specs.declared.Response.TheVariants.{Registration, Acknowledgement}
use Rattle.link.specs.declared.Owed.{Owed}
use Rattle.link.specs.declared.Queue.{Queue}
use Rattle.link.specs.Link.{oldest, paid, with_owed_lem}
use Rattle.station.specs.Station.{with_link_lem}

abbrev pub responding : OnuId → Response → ℕ → UpstreamMessage
responding onu Registration seq = says.Registration onu seq
responding onu (Acknowledgement completion) seq = says.Acknowledgement onu seq completion

-- an answer repeats the SeqNo of the message that asked for it
abbrev pub answering : OnuId → Owed → UpstreamMessage
answering onu owed = responding onu owed.response owed.seq_no

abbrev pub no_message : OnuId → UpstreamMessage
no_message onu = says.Acknowledgement onu 0 NoMessage

abbrev pub in_operation_lem : OnuId → Queue → UpstreamMessage
in_operation_lem onu owed = cond (eqb owed.count 0) (no_message onu) (answering onu (oldest owed))

abbrev pub reply_in : Activation → Station → ℕ → Option UpstreamMessage
reply_in Initial s delay = None
reply_in SerialNumber s delay = Some (says.SerialNumberOnu (serial_at_lem s.serial 0) delay)
reply_in (Ranging left) s delay = Some (says.Registration s.link.onu 0)
reply_in Operation s delay = Some (in_operation_lem s.link.onu s.link.owed)
reply_in (Intermittent left) s delay = None
reply_in EmergencyStop s delay = None

unfoldable pub reply_of_lem : Station → ℕ → Option UpstreamMessage
reply_of_lem s delay = reply_in s.activation s delay

abbrev pub after_in : Activation → Station → Station
after_in Initial s = s
after_in SerialNumber s = s
after_in (Ranging left) s = s
after_in Operation s = with_link_lem s (with_owed_lem s.link (paid s.link.owed))
after_in (Intermittent left) s = s
after_in EmergencyStop s = s

unfoldable pub after_reply_lem : Station → Station
after_reply_lem s = after_in s.activation s

abbrev pub Replies : Station → ℕ → Option UpstreamMessage → Type 0
Replies s delay r = r ≡ reply_of_lem s delay

abbrev pub Leaves : Station → Station → Type 0
Leaves s r = r ≡ after_reply_lem s
