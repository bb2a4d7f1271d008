-- What writing a protected word gives: the true word with the data bits given.
-- Assumes nothing.
use Rattle.std.specs.Prelude.{◌≡◌, ℕ, ◌+◌, ◌*◌, ◌/◌, ◌%◌, ◌^◌}
use Rattle.std.specs.Int.Count.{ones}
use Rattle.bch.specs.Code.{TrueWord, remainder}

-- the true word of n bits whose bits before the last 13 are d
pub record Written (n d v : ℕ) : Type 0 where
  pub true : TrueWord n v
  pub holds : v / 2 ^ 13 ≡ d

-- a codeword with the last bit, which makes the number of ones even
abbrev pub closed : ℕ → ℕ
closed c = c * 2 + ones c % 2

-- the data bits, their remainder with twelve zeros behind them, and the last bit: the one word that `Written` has for them
abbrev pub protected : ℕ → ℕ
protected d = closed (d * 4096 + remainder (d * 4096))
