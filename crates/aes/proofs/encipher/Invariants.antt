-- `aes::encipher` meets its contract.
use mathlib.Core.Path.{◌≡◌}
use Rattle.aes.specs.Cipher.{rcon}
use Rattle.aes.specs.OnWords.{round_key_on, rounds_on}
use Rattle.aes.specs.Blocks.{each}
use Rattle.aes.proofs.encipher.Given as goal

abbrev pub invariant-loop : goal.invariant-loop
invariant-loop l =
    record {
      key : l.k ≡ round_key_on l.counter l.initial.k;
      constant : l.rc ≡ rcon l.counter;
      worked : l.blocks ≡ each l.n (λ i x. rounds_on l.counter l.initial.k x) l.initial.blocks;
    }
