-- `aes::encrypt` meets its contract.
use mathlib.Core.Path.{◌∙◌, ap, ap₂}
use Rattle.aes.specs.Cipher.{aes128}
use Rattle.aes.specs.Words.{octets_of}
use Rattle.aes.proofs.Ciphers.{on_words}
use Rattle.aes.proofs.encrypt.Goals as goal

pub returns : goal.returns
returns c =
    let key = c.load in
    let input = c.load-2 in
    c.store.ensures ∙ ap octets_of c.encipher_one.ensures ∙ on_words key.result input.result
    ∙ ap₂ aes128 key.ensures.back input.ensures.back
