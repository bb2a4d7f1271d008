-- Blocks that stand one behind the other in an array of words.
-- Assumes nothing.
use Rattle.std.specs.Prelude.{ℕ, zero, suc, ◌+◌, ◌*◌, List, [], ◌∷◌, set}
use Rattle.aes.specs.Cipher.{at}
use Rattle.aes.specs.declared.Words.{Words}

-- so many are worked side by side
abbrev pub most_blocks : ℕ
most_blocks = 8

abbrev pub block_in : List ℕ → ℕ → Words
block_in l j = record { a = at l (j * 4); b = at l (j * 4 + 1); c = at l (j * 4 + 2); d = at l (j * 4 + 3) }

abbrev pub with_block : List ℕ → ℕ → Words → List ℕ
with_block l j w = set (set (set (set l (j * 4) w.a) (j * 4 + 1) w.b) (j * 4 + 2) w.c) (j * 4 + 3) w.d

-- n blocks, counted from i, each put through f with its number; what follows them is as it was
abbrev pub each_from : ℕ → ℕ → (ℕ → Words → Words) → List ℕ → List ℕ
each_from i zero f l = l
each_from i (suc n) f [] = []
each_from i (suc n) f (a ∷ []) = a ∷ []
each_from i (suc n) f (a ∷ b ∷ []) = a ∷ b ∷ []
each_from i (suc n) f (a ∷ b ∷ c ∷ []) = a ∷ b ∷ c ∷ []
each_from i (suc n) f (a ∷ b ∷ c ∷ d ∷ l) =
    let w = f i (record { a = a; b = b; c = c; d = d }) in
    w.a ∷ w.b ∷ w.c ∷ w.d ∷ each_from (suc i) n f l

abbrev pub each : ℕ → (ℕ → Words → Words) → List ℕ → List ℕ
each n f l = each_from 0 n f l
