-- `replies::write_each` meets its contract.
use mathlib.Core.Path.{◌≡◌, ◌∙◌, ap}
use native.Mathlib.Omega.{arith}
use Prim.Native.Nat.{ℕ, ◌+◌, ◌-◌, ◌*◌}
use mathlib.Core.List.{◌++◌}
use lib.ListN.{take, drop}
use borrow.Rule.Slice.PartMut.{put_mid}
use Rattle.replies.specs.Replies.{wrote}
use Rattle.replies.proofs.Laws.{keyed-after, replies-turn, replies_end}
use Rattle.replies.proofs.write_each.Goals as goal

pub loop-i-preserved : goal.loop-i-preserved
loop-i-preserved c =
    let a = c.args in
    let l = c.loop-i in
    let b = l.replies in
    let k : 48 * l.i + 48 - 48 * l.i ≡ 48 = omega arith in
    let p =
    ap (put_mid (48 * l.i) (48 * l.i + 48 - 48 * l.i) b) c.write_reply.ensures
    ∙ ap (λ (k : ℕ). take (48 * l.i) b ++ (wrote l.next a.delay (take k (drop (48 * l.i) b)) ++ drop k (drop (48 * l.i) b))) k in (
      c.replies-1.given.1 ∙ l.invariant.0,
      l.invariant.1,
      l.invariant.2,
      omega (arith, c.loop-i-test.true),
      rw c.after_reply-next.ensures (keyed-after a.usual a.installed l.next l.invariant.4),
      replies-turn l.next a.delay b a.n l.i _ _ c.loop-i-test.true c.after_reply-next.ensures p ∙ l.invariant.5,
    )

pub returns : goal.returns
returns c =
    let a = c.args in
    let l = c.loop-i in
    replies_end l.next a.delay l.replies a.n l.i c.loop-i-test.false ∙ l.invariant.5
