-- `bwmap::records::write_series` meets its contract.
use mathlib.Core.Path.{◌≡◌, ap}
use Prim.Native.Nat.{◌+◌, ◌-◌}
use native.Mathlib.Omega.{arith}
use borrow.Rule.Slice.PartMut.{put_mid}
use Rattle.bwmap.proofs.Laws.{write_head}
use Rattle.bwmap.proofs.records.write_series.Goals as goal

pub returns : goal.returns
returns c =
    let a = c.args in
    let k : a.at + 4 - a.at ≡ 4 = omega arith in
    write_head a.plan.now _ _ a.at (a.at + 4 - a.at) _ a.h _ (omega (arith, c.requires.1)) k c.head_flags.ensures (ap (put_mid a.at (a.at + 4 - a.at) a.plan.now) c.write_record.ensures) c.write_more.ensures
