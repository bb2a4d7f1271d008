-- `replies::reply_all` meets its contract.
use Prim.Native.Nat.{◌<◌, ◌^◌}
use lib.ListN.{length}
use Rattle.replies.proofs.Laws.{keyed, room_for}
use borrow.Author.Rules.{rules}
use Rattle.replies.proofs.reply_all.Goals.{After-min-k}
use Rattle.replies.proofs.reply_all.Goals as goal

-- a slice's length fits a usize, known where few records stand before
known : (c : After-min-k) → length c.args.replies.now < 2 ^ 64
known c = search rules

pub write_each-requires : goal.write_each-requires
write_each-requires c =
    let a = c.args in
    let r = room_for a.n _ (length a.replies.now) c.min-k.ensures (known (goal.at.write_each-requires c).After-min-k) in
    (keyed _ _ a.s.link.key c.default_key-usual.ensures c.installed_key-installed.ensures, r.0, r.1)
