-- `frame::frame` meets its contract.
use mathlib.Core.Path.{◌∙◌, sym, ap}
use Rattle.downstream.specs.Opening.{opening}
use Rattle.downstream.proofs.Laws.{opening_is, opened}
use Rattle.frame.specs.Given.{Arrival, Lent, arriving, lending, buffers_fit}
use Rattle.frame.specs.Frame.{frame_left}
use Rattle.frame.proofs.frame.Goals.{Start}
use Rattle.frame.proofs.frame.Goals as goal

abbrev arrived : Start → Arrival
arrived c = arriving c.args.frame.now c.args.random_delay

abbrev buffers : Start → Lent
buffers c = lending c.args.memory.now c.args.plan.now c.args.replies.now c.args.deliveries.now

pub handle-requires : goal.handle-requires
handle-requires c =
    let o = opened c.args.s c.args.frame.now (buffers_fit (arrived (goal.at.handle-requires c).Start) (buffers (goal.at.handle-requires c).Start)) c.in-Opened.h (ap (opening c.args.s c.args.frame.now) (sym c.enough-room.ensures) ∙ sym (c.open.ensures ∙ opening_is c.args.s c.args.frame.now c.in_range-valid.result c.enough-room.result c.in_range-valid.ensures) ∙ c.in-Opened.is) in
    (o.state, o.fits, o.buffers)

pub returns-in-Refused : goal.returns-in-Refused
unfolding frame_left
returns-in-Refused c = rw (sym c.enough-room.ensures, sym (c.open.ensures ∙ opening_is c.args.s c.args.frame.now c.in_range-valid.result c.enough-room.result c.in_range-valid.ensures), c.in-Refused.is, c.without.ensures)

pub returns-in-Unread : goal.returns-in-Unread
unfolding frame_left
returns-in-Unread c = rw (sym c.enough-room.ensures, sym (c.open.ensures ∙ opening_is c.args.s c.args.frame.now c.in_range-valid.result c.enough-room.result c.in_range-valid.ensures), c.in-Unread.is, c.without-in-Unread.ensures, c.unread_time.ensures)

pub returns-in-Opened : goal.returns-in-Opened
unfolding frame_left
returns-in-Opened c = rw (sym c.enough-room.ensures, sym (c.open.ensures ∙ opening_is c.args.s c.args.frame.now c.in_range-valid.result c.enough-room.result c.in_range-valid.ensures), c.in-Opened.is) c.handle.ensures
