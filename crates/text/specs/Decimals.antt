-- Numbers in decimal.
-- Assumes nothing.
use Rattle.std.specs.Prelude.{ℕ, zero, suc, ◌+◌, ◌-◌, ◌*◌, ◌/◌, ◌%◌, cond, List, [], ◌∷◌, ◌++◌, ltb}

abbrev pub zero_digit : ℕ
zero_digit = 48

-- the digits of n, most significant first and without a leading zero, where n has at most so many
unfoldable pub spelled : ℕ → ℕ → List ℕ
spelled zero n = []
spelled (suc most) n = cond (ltb n 10) ((zero_digit + n) ∷ []) (spelled most (n / 10) ++ ((zero_digit + n % 10) ∷ []))

-- n in decimal: it has at most n + 1 digits
unfoldable pub decimal : ℕ → List ℕ
decimal n = spelled (suc n) n

abbrev pub last_two : ℕ → List ℕ
last_two n = (zero_digit + n / 10 % 10) ∷ (zero_digit + n % 10) ∷ []

-- a number and what ends it
unfoldable pub field : ℕ → ℕ → List ℕ
field n end = decimal n ++ (end ∷ [])

-- ---- reading a number back

-- digits behind what was read before them
abbrev pub read_from : ℕ → List ℕ → ℕ
read_from before [] = before
read_from before (d ∷ l) = read_from (before * 10 + (d - zero_digit)) l

-- the number that digits spell
abbrev pub value_of : List ℕ → ℕ
value_of digits = read_from 0 digits
