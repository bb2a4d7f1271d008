-- `aes::encipher_one` meets its contract.
use mathlib.Core.Path.{◌≡◌}
use Rattle.aes.specs.Cipher.{rcon}
use Rattle.aes.specs.OnWords.{round_key_on, rounds_on}
use Rattle.aes.proofs.encipher_one.Given as goal

abbrev pub invariant-loop : goal.invariant-loop
invariant-loop l =
    record {
      key : l.k ≡ round_key_on l.counter l.initial.k;
      constant : l.rc ≡ rcon l.counter;
      worked : l.state ≡ rounds_on l.counter l.initial.k l.initial.state;
    }
