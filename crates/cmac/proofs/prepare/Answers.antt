-- `cmac::prepare` meets its contract.
use mathlib.Core.Path.{◌∙◌, ap, subst}
use Rattle.aes.specs.Words.{Octets}
use Rattle.aes.proofs.Octets.{octets-octets}
use Rattle.cmac.specs.Tags.{prepared_by}
use Rattle.cmac.proofs.Blocks.{prepared_of}
use Rattle.cmac.proofs.prepare.Goals as goal

pub returns : goal.returns
returns c =
    let load = c.load-key in
    record {
      made =
          prepared_of load.result c.encipher_one.result c.doubled-whole.result c.doubled-padded.result
          c.encipher_one.ensures c.doubled-whole.ensures c.doubled-padded.ensures
          ∙ ap prepared_by load.ensures.made;
      octets = subst Octets load.ensures.back (octets-octets load.result);
    }
