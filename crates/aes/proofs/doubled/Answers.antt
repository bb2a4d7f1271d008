-- `aes::doubled` meets its contract.
use mathlib.Core.Path.{◌≡◌, ap}
use Prim.Native.Nat.{ℕ, ◌-◌, ◌*◌, ◌%◌}
use native.Mathlib.Omega.{arith}
use lib.Bits.{bit_xor}
use borrow.Author.Tests.{lt-ltb, le-ltb}
use Rattle.subbytes.specs.Field.{xtime}
use Rattle.aes.proofs.doubled.Goals as goal

pub returns-then-rc-lt128 : goal.returns-then-rc-lt128
unfolding xtime
returns-then-rc-lt128 c = simp (lt-ltb _ 128 c.if-rc-lt128.true)

pub returns-else-rc-lt128 : goal.returns-else-rc-lt128
unfolding xtime
returns-else-rc-lt128 c =
    let rc = c.args.rc in
    let e : rc % 128 * 2 ≡ rc * 2 - 256 = omega arith in
    simp (le-ltb rc 128 c.if-rc-lt128.false) (ap (λ (x : ℕ). bit_xor x 0x1b) e)
