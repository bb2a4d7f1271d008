-- Powers of 256, and products with them.
-- Assumes nothing.
use mathlib.Core.Path.{◌≡◌, refl, sym, ap, ◌∙◌}
use Prim.Native.Nat.{ℕ, zero, suc, ◌*◌, ◌^◌, ◌<◌}
use native.Mathlib.Nat.{mul_comm, pow-suc}
use native.Mathlib.Omega.{arith}
use lib.Arith.{digits_lt}
use lib.Pow.{pow-add}

pub mul_lt : (a b m : ℕ) → a < b → zero < m → a * m < b * m
mul_lt a b m h p = omega (arith, digits_lt h p)

pub octet_power : (o : ℕ) → 2 ^ (o * 8) ≡ 256 ^ o
octet_power zero = refl
octet_power (suc o) = ap (λ (x : ℕ). 2 ^ x) (omega arith) ∙ pow-add 2 8 (o * 8) ∙ ap (λ (x : ℕ). 256 * x) (octet_power o) ∙ mul_comm 256 (256 ^ o) ∙ sym (pow-suc 256 o)
