-- A change of a slot, where there is such a slot and where there is none.
-- Assumes nothing.
use mathlib.Core.Path.{◌≡◌, refl}
use mathlib.Core.Bool.{Bool, true, false, cond}
use Prim.Native.Nat.{ℕ, ◌<◌}
use native.Mathlib.Omega.{arith}
use borrow.Author.Tests.{lt-ltb, ltb-false}
use lib.Dec.{ltb}
use lib.ListN.{length}
use lib.Seq.{set_out}
use Rattle.ports.specs.declared.Ports.{Ports}
use Rattle.ports.specs.Limits.{slots}
use Rattle.ports.specs.Ports.{appended, delivered, if_slot}

pub change_there : (p : Ports) (slot : ℕ) (change : Ports → Ports) → slot < slots → if_slot slot change p ≡ change p
change_there p slot change h = rw (lt-ltb slot slots h)

-- the lengths are those of all slots: an append or a delivery elsewhere leaves them
module _ (p : Ports) (slot : ℕ) (count : length p.lengths ≡ slots) where
  pub append_anywhere : (bytes : ℕ) → if_slot slot (λ q. appended q slot bytes) p ≡ appended p slot bytes
  append_anywhere bytes = go (ltb slot slots) refl
    where
      go : (b : Bool) → ltb slot slots ≡ b → cond b (appended p slot bytes) p ≡ appended p slot bytes
      go true e = refl
      go false e = rw (set_out p.lengths slot bytes (omega (arith, ltb-false slot slots e)))

  pub deliver_anywhere : if_slot slot (λ q. delivered q slot) p ≡ delivered p slot
  deliver_anywhere = append_anywhere 0
