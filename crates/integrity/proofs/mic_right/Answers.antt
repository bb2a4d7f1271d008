-- `integrity::mic_right` meets its contract.
use mathlib.Core.Path.{◌∙◌, ap}
use borrow.Author.Tests.{le-leb, lt-leb}
use lib.ListN.{length}
use Rattle.ploam.specs.Layout.{message_octets, mic_field}
use Rattle.integrity.specs.Integrity.{same, mic_right_by}
use Rattle.integrity.proofs.mic_right.Goals as goal

pub returns-then-m-lt-MESSAGE_OCTETS : goal.returns-then-m-lt-MESSAGE_OCTETS
unfolding mic_right_by
returns-then-m-lt-MESSAGE_OCTETS c = simp (lt-leb message_octets (length c.args.m.now) c.if-m-lt-MESSAGE_OCTETS.true)

pub returns : goal.returns
unfolding mic_right_by
returns c =
    let m = c.args.m.now in
    simp (le-leb message_octets (length m) c.if-m-lt-MESSAGE_OCTETS.false)
    (c.has_mic.ensures ∙ ap (same (mic_field m)) c.mic.ensures)
