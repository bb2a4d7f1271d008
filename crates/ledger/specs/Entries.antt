-- What an event writes into the ledger.
-- Assumes nothing.
use Rattle.std.specs.Prelude.{ℕ, Bool, true, false, eqb}

pub data Entry : Type 0 where
  gave : ℕ → Entry
  took_back : ℕ → Entry
  took_all_back : Entry
  neither : Entry

-- whether it takes n back
abbrev pub takes_back : ℕ → Entry → Bool
takes_back n (gave k) = false
takes_back n (took_back k) = eqb n k
takes_back n took_all_back = true
takes_back n neither = false
