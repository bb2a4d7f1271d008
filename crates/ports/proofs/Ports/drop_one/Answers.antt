-- `ports::Ports::drop_one` meets its contract.
use native.Mathlib.Omega.{arith}
use mathlib.Core.Path.{◌≡◌}
use lib.ListN.{length}
use lib.Seq.{set_out}
use borrow.Author.Rules.{rules}
use Rattle.ports.proofs.Ports.drop_one.Goals as goal

pub returns-then-slot-ge-SLOTS : goal.returns-then-slot-ge-SLOTS
returns-then-slot-ge-SLOTS c =
    let h : length c.args.self.lengths ≡ 17 = search rules in
    let k : length c.args.self.waiting ≡ 17 = search rules in
    rw (set_out c.args.self.lengths c.args.slot 0 (omega arith), set_out c.args.self.waiting c.args.slot c.args.waits (omega arith))
