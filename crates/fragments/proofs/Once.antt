-- No second outcome: what a fragment does is fixed by the ports, the two Port-IDs, LF and the count of bytes.
-- Assumes nothing.
use Prim.Native.Nat.{ℕ}
use mathlib.Core.Path.{◌≡◌, ◌∙◌, sym}
use mathlib.Core.Bool.{Bool}
use mathlib.Core.List.{List}
use Rattle.ids.specs.declared.PortId.{PortId}
use Rattle.fragments.specs.declared.Reassembly.{Reassembly}
use Rattle.fragments.specs.Fragments.{reassembly_in_lem}

-- of `reassembly_in`
pub reassembly_once : (ids : List PortId) (lengths : List ℕ) (waiting : List Bool) (own port : PortId) (last : Bool) (n : ℕ) (a b : Reassembly)
    → a ≡ reassembly_in_lem ids lengths waiting own port last n → b ≡ reassembly_in_lem ids lengths waiting own port last n → a ≡ b
reassembly_once ids lengths waiting own port last n a b x y = x ∙ sym y
