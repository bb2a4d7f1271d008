-- `frame::receive_payload` meets its contract.
use mathlib.Core.Path.{◌≡◌, ◌∙◌, sym}
use lib.ListN.{length}
use Rattle.ports.specs.Limits.{slots}
use Rattle.frame.proofs.Laws.{payload_received}
use borrow.Author.Rules.{rules}
use Rattle.frame.proofs.receive_payload.Goals.{Start}
use Rattle.frame.proofs.receive_payload.Goals as goal

long : (c : Start) → length c.args.s.ports.lengths ≡ slots
long c = search rules

pub returns-then-not-is_operating : goal.returns-then-not-is_operating
returns-then-not-is_operating c = rw (sym c.is_operating.ensures ∙ c.if-not-is_operating.true)

pub returns : goal.returns
returns c =
    let a = c.args in
    payload_received a.s a.place a.payload.now a.memory.now a.deliveries.now c.management_port.result _ (long (goal.at.returns c).Start) c.requires.0 c.requires.1 c.requires.2 (sym c.is_operating.ensures ∙ c.if-not-is_operating.false) c.management_port.ensures c.receive.ensures
