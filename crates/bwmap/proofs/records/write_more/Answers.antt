-- `bwmap::records::write_more` meets its contract.
use mathlib.Core.Path.{◌∙◌}
use Prim.Native.Nat.{◌+◌, ◌*◌}
use native.Mathlib.Omega.{arith}
use Rattle.plan.proofs.Placed.{placed_whole}
use Rattle.bwmap.proofs.Laws.{written_one, written_all, write_step, write_done}
use Rattle.bwmap.proofs.records.write_more.Goals as goal

pub loop-k-preserved : goal.loop-k-preserved
loop-k-preserved c =
    let a = c.args in
    let l = c.loop-k in
    (omega arith, c.write_record.auto.plan ∙ l.invariant.1, write_step a.at l.k a.h _ _ _ l.plan _ _ _ (written_one a.map.now (a.from + l.k) (a.from + (l.k + 1)) l.k a.count c.loop-k-test.true (omega arith)) c.allocation_at-a.ensures c.more_flags.ensures (c.write_record.ensures ∙ placed_whole l.plan (a.at + 4 * l.k) c.allocation_at-a.result c.more_flags.result a.h.start (omega (arith, l.invariant.1, c.requires.1, c.loop-k-test.true))) ∙ l.invariant.2)

pub returns : goal.returns
returns c =
    let a = c.args in
    let l = c.loop-k in
    write_done l.plan _ a.h _ (written_all a.map.now (a.from + l.k) l.k a.count c.loop-k-test.false) ∙ l.invariant.2
