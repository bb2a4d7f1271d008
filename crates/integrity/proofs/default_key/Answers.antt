-- `integrity::default_key` meets its contract: its subkeys are computed.
use mathlib.Core.Path.{refl}
use Rattle.subbytes.specs.Field.{s_box, affine, inverse, square, gmul, products, xtime}
use Rattle.mixcolumns.specs.Columns.{mix_of}
use Rattle.aes.specs.Cipher.{rcon}
use Rattle.aes.specs.OnWords.{column_on, round_on, last_column_on, last_on, turned_word_on, next_key_on, round_key_on, rounds_on, cipher_on}
use Rattle.cmac.specs.Tags.{doubled_words, prepared_by}
use Rattle.integrity.proofs.default_key.Goals as goal

pub returns : goal.returns
unfolding prepared_by cipher_on rounds_on round_key_on next_key_on turned_word_on rcon round_on column_on last_on last_column_on doubled_words mix_of s_box affine inverse square gmul products xtime
returns c = refl
