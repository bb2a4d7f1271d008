-- Several messages checked side by side under one key.
-- Assumes nothing.
use Rattle.std.specs.Prelude.{ℕ, Bool, true, false, cond, List, ltb}
use Rattle.aes.specs.Cipher.{at, tabulate}
use Rattle.cmac.specs.declared.Prepared.{Prepared}
use Rattle.ploam.specs.Layout.{message_at}
use Rattle.integrity.specs.Integrity.{mic_right_by}
use Rattle.integrity.specs.declared.Direction.TheVariants.{Downstream}

-- 1 is right, 2 not right; 0 stands where nothing was asked
abbrev pub mark_of_lem : Bool → ℕ
mark_of_lem true = 1
mark_of_lem false = 2

-- of the downstream messages at the first `count` of eight places; none stands past the last whole message, and what is
-- short is not right
unfoldable pub rights_by : Prepared → List ℕ → List ℕ → ℕ → List ℕ
rights_by key b places count =
    tabulate 8 (λ j. cond (ltb j count) (mark_of_lem (mic_right_by key Downstream (message_at b (at places j)))) 0)
