-- No second outcome meets the contract of `receive`: any two that do are equal, both lent buffers included.
-- Assumes nothing.
use mathlib.Core.Path.{◌≡◌, sym, ap, ◌∙◌}
use mathlib.Core.List.{List}
use Prim.Native.Nat.{ℕ}
use Rattle.ids.specs.declared.PortId.{PortId}
use Rattle.ports.specs.declared.Ports.{Ports}
use Rattle.payload.specs.declared.walk.Received.{Received}
use Rattle.payload.specs.Walk.{Walked, receive_of}
use Rattle.payload.proofs.Fit.{walked}

pub receive_once : (p : Ports) (own : PortId) (memory deliveries : List ℕ) (place : ℕ) (payload : List ℕ) (a b : Received) (m n d e : List ℕ)
    → walked m d a ≡ receive_of p own memory deliveries place payload → walked n e b ≡ receive_of p own memory deliveries place payload
    → (a ≡ b) × (m ≡ n) × (d ≡ e)
receive_once p own memory deliveries place payload a b m n d e x y =
    let s = x ∙ sym y in (
      ap (λ (w : Walked). record { ports = w.receiver.ports; bytes = w.receiver.bytes; delineation = w.delineation }) s,
      ap (λ (w : Walked). w.receiver.memory) s,
      ap (λ (w : Walked). w.receiver.deliveries) s,
    )
