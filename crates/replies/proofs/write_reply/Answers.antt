-- `replies::write_reply` meets its contract.
use mathlib.Core.Path.{◌∙◌, sym}
use Rattle.replies.specs.Replies.{wrote}
use Rattle.replies.proofs.Laws.{written_true}
use Rattle.replies.proofs.write_reply.Goals as goal

pub returns-in-None : goal.returns-in-None
unfolding wrote
returns-in-None c = rw (sym c.reply_of.ensures ∙ c.in-None.is)

pub returns-in-Some : goal.returns-in-Some
unfolding wrote
returns-in-Some c =
    let a = c.args in
    rw (sym c.reply_of.ensures ∙ c.in-Some.is)
    (written_true a.usual a.installed a.s.link.key _ a.s.registration a.target.now _ c.requires c.write.ensures)
