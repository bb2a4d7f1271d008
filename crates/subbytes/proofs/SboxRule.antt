-- The table holds the S-box, its values are octets, and the inverse in its definition is one: a test each, which antt computes.
-- Assumes nothing.
use mathlib.Core.Path.{◌≡◌, subst}
use mathlib.Core.Bool.{Bool}
use Prim.Native.Nat.{ℕ, suc, ◌%◌, ◌<◌}
use native.Mathlib.Omega.{arith}
use lib.Dec.{T, eqb, eqb→eq, ltb, ltb→lt}
use lib.ListN.{get_or, replicate}
use Rattle.subbytes.proofs.Rules.{every, at, equal, listed}
use Rattle.subbytes.specs.Field.{s_box, affine, inverse, square, gmul, products, xtime}
use Rattle.subbytes.specs.Sbox.{sbox}

passed : T (every (equal s_box) 0 sbox)
unfolding s_box affine inverse square gmul products xtime
passed = tt

pub sbox_rule : (x : ℕ) → get_or sbox (x % 256) 0 ≡ s_box (x % 256)
sbox_rule x = listed s_box sbox passed (x % 256) (omega arith)

octet : ℕ → ℕ → Bool
octet k x = ltb x 256

octets-passed : T (every octet 0 sbox)
unfolding octet
octets-passed = tt

pub s_box_byte : (k : ℕ) → k < 256 → s_box k < 256
unfolding octet
s_box_byte k h =
    subst (λ (y : ℕ). y < 256) (listed s_box sbox passed k h) (ltb→lt (get_or sbox k 0) 256 (at octet sbox octets-passed k h))

double : ℕ → ℕ → Bool
double k x = ltb (xtime k) 256

pub xtime_byte : (k : ℕ) → k < 256 → xtime k < 256
unfolding double xtime
xtime_byte k h = ltb→lt (xtime k) 256 (at double (replicate 256 0) tt k h)

-- the definition of the inverse is right: a times it is 1, for each octet a but 0
undone : ℕ → ℕ → Bool
undone k x = eqb (gmul (suc k) (inverse (suc k))) 1

pub inverse_right : (k : ℕ) → k < 255 → gmul (suc k) (inverse (suc k)) ≡ 1
unfolding undone xtime products gmul square inverse
inverse_right k h = eqb→eq (gmul (suc k) (inverse (suc k))) 1 (at undone (replicate 255 0) tt k h)
