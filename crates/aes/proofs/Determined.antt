-- No second outcome meets a contract of this crate.
-- Assumes nothing.
use mathlib.Core.Path.{◌≡◌, ◌∙◌, sym}
use mathlib.Core.List.{List}
use Prim.Native.Nat.{ℕ, min}
use Rattle.aes.specs.Cipher.{aes128}
use Rattle.aes.specs.Words.{Loaded}
use Rattle.aes.specs.OnWords.{cipher_on}
use Rattle.aes.specs.Blocks.{most_blocks, each}
use Rattle.aes.specs.declared.Words.{Words}

pub block_determined : (key input a b : List ℕ) → a ≡ aes128 key input → b ≡ aes128 key input → a ≡ b
block_determined key input a b p q = p ∙ sym q

pub encipher_determined : (key : Words) (count : ℕ) (l a b : List ℕ) → a ≡ each (min count most_blocks) (λ i. cipher_on key) l
    → b ≡ each (min count most_blocks) (λ i. cipher_on key) l → a ≡ b
encipher_determined key count l a b p q = p ∙ sym q

pub load_determined : (l : List ℕ) (a b : Words) → Loaded l a → Loaded l b → a ≡ b
load_determined l a b p q = p.made ∙ sym q.made
