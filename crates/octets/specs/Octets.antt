-- Numbers as octets, the most significant first.
-- Assumes nothing.
use Rattle.std.specs.Prelude.{List, [], ◌∷◌, ℕ, zero, suc, ◌+◌, ◌*◌, ◌/◌, ◌%◌, ◌^◌, length}

-- the number that a list of octets stands for
abbrev pub value : List ℕ → ℕ
value [] = 0
value (octet ∷ rest) = octet * 256 ^ length rest + value rest

-- the n octets of a number
abbrev pub octets : ℕ → ℕ → List ℕ
octets zero v = []
octets (suc n) v = v / 256 ^ n % 256 ∷ octets n v
