-- The tests of the whole call, and that what passes them is ready to be walked.
-- Assumes nothing.
use mathlib.Core.Path.{◌≡◌, refl, sym, ap, ◌∙◌}
use mathlib.Core.Bool.{Bool, true, false, cond, ◌&&◌}
use mathlib.Core.List.{List}
use Prim.Native.Nat.{ℕ, ◌+◌, ◌*◌, ◌≤◌, ◌<◌}
use native.Mathlib.Omega.{arith}
use borrow.Author.Tests.{le-leb, lt-leb}
use lib.Dec.{leb}
use lib.ListN.{length, get_or}
use Rattle.ids.specs.declared.PortId.{PortId}
use Rattle.ports.specs.declared.Ports.{Ports}
use Rattle.ports.specs.Limits.{slots, added_ports, slot_bytes}
use Rattle.payload.specs.declared.walk.Received.{Received}
use Rattle.payload.specs.declared.walk.Delineation.TheVariants.{Unfit}
use Rattle.payload.specs.Memory.{receiver_of}
use Rattle.payload.specs.Bounds.{Ready, total}
use Rattle.payload.specs.Walk.{Walked, memory_bytes, all_within_lem, fit, walk_of, receive_of}
use Rattle.payload.proofs.Lengths.{each_within, total_le}

abbrev pub walked : List ℕ → List ℕ → Received → Walked
walked memory deliveries r = record { receiver = receiver_of r.ports r.bytes memory deliveries; delineation = r.delineation }

module _ (p : Ports) (own : PortId) (memory deliveries : List ℕ) (place : ℕ) (payload : List ℕ) where
  pub refused : (r : Received) → r ≡ record { ports = p; bytes = 0; delineation = Unfit } → fit p memory deliveries payload ≡ false
      → walked memory deliveries r ≡ receive_of p own memory deliveries place payload
  refused r e f = rw f (ap (walked memory deliveries) e)

  pub long-partial : all_within_lem p.lengths ≡ false → fit p memory deliveries payload ≡ false
  long-partial e = rw e

  module _ (lengths : all_within_lem p.lengths ≡ true) where
    pub short-memory : length memory < memory_bytes → fit p memory deliveries payload ≡ false
    short-memory h = rw (lengths, lt-leb memory_bytes (length memory) h)

    module _ (room : memory_bytes ≤ length memory) where
      pub short-deliveries : length deliveries < length payload + memory_bytes → fit p memory deliveries payload ≡ false
      short-deliveries h = rw (lengths, le-leb memory_bytes (length memory) room, lt-leb (length payload + memory_bytes) (length deliveries) h)

      module _ (space : length payload + memory_bytes ≤ length deliveries) where
        pub accepted : (w : Walked) → w ≡ walk_of own (receiver_of p 0 memory deliveries) place payload → w ≡ receive_of p own memory deliveries place payload
        accepted w e = rw (lengths, le-leb memory_bytes (length memory) room, le-leb (length payload + memory_bytes) (length deliveries) space) e

        pub ready : length p.ids ≡ added_ports → length p.lengths ≡ slots → Ready (receiver_of p 0 memory deliveries) (length payload)
        ready i c =
            record {
              ids = i;
              count = c;
              within = each_within p.lengths lengths;
              memory = room;
              space = omega (arith, total_le p.lengths (each_within p.lengths lengths), ap (λ (n : ℕ). n * slot_bytes) c);
            }
