-- `subbytes::substituted` meets its contract, by the rule of the table.
use Rattle.subbytes.proofs.SboxRule.{sbox_rule}
use Rattle.subbytes.proofs.substituted.Goals as goal

pub returns : goal.returns
returns c = sbox_rule c.args.x
