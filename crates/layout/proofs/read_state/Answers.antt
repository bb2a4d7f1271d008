-- `layout::read_state` meets its contract.
use mathlib.Core.Path.{sym, ◌∙◌}
use Rattle.layout.proofs.Answers.{read_short, read_held, read_unreadable}
use Rattle.layout.proofs.read_state.Goals as goal

pub returns-then-state-lt-STATE_BYTES : goal.returns-then-state-lt-STATE_BYTES
returns-then-state-lt-STATE_BYTES c = read_short c.args.state.now c.if-state-lt-STATE_BYTES.true

pub returns-then-not-octets_known : goal.returns-then-not-octets_known
returns-then-not-octets_known c = read_unreadable c.args.state.now c.if-state-lt-STATE_BYTES.false (sym c.octets_known.ensures ∙ c.if-not-octets_known.true)

pub returns : goal.returns
returns c = read_held c.args.state.now _ c.if-state-lt-STATE_BYTES.false c.station_in.ensures (sym c.octets_known.ensures ∙ c.if-not-octets_known.false)
