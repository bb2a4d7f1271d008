-- `aes::load` meets its contract.
use mathlib.Core.Path.{◌≡◌, ◌∙◌, sym}
use lib.ListN.{length}
use Rattle.aes.proofs.Octets.{sixteen, whole}
use Rattle.aes.proofs.Blocks.{words}
use borrow.Author.Rules.{rules}
use Rattle.aes.proofs.load.Goals as goal

pub returns : goal.returns
returns c =
    let j1 = c.join.ensures in
    let j2 = c.join-2.ensures in
    let j3 = c.join-3.ensures in
    let j4 = c.join-4.ensures in
    let b = c.args.b in
    let l : length b ≡ 16 = search rules in
    record {
      made = words j1.made j2.made j3.made j4.made;
      back = sixteen j1.back j2.back j3.back j4.back ∙ sym (whole 16 b l);
    }
