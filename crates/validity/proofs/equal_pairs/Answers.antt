-- `validity::equal_pairs` meets its contract.
use Rattle.std.proofs.Common.{arith, get_or, ◌∙◌}
use Rattle.validity.proofs.Counts.{times_most}
use Rattle.validity.proofs.Laws.{pairs_turn}
use Rattle.validity.proofs.equal_pairs.Goals as goal

pub loop-number-preserved : goal.loop-number-preserved
loop-number-preserved c =
    let l = c.loop-number in
    let n = c.args.numbers in (
      omega (arith, c.times_in-sum.ensures, times_most (get_or n l.number-index 0) n),
      pairs_turn n n l.number-index l.sum _ (omega arith) c.times_in-sum.ensures ∙ l.invariant.1,
    )
