-- What the frames of a payload append to slots: "LF 0 adds to the port's slot".
-- Assumes nothing.
use Rattle.std.specs.Prelude.{List, [], ◌∷◌, ◌++◌, ℕ, ◌+◌, ◌≤◌, ◌<◌, length}
use Rattle.ids.specs.declared.PortId.{PortId}
use Rattle.ports.specs.Limits.{slots, slot_bytes}
use Rattle.fragments.specs.declared.Reassembly.{Reassembly}
use Rattle.fragments.specs.declared.Reassembly.TheVariants.{Ignored, Dropped, Delivered, Appended}
use Rattle.fragments.specs.Fragments.{reassembly_of_lem}
use Rattle.payload.specs.Frames.{Xgem}
use Rattle.payload.specs.Memory.{Receiver, extended, step}

-- a fragment's bytes, behind so many of the slot's unfinished SDU
pub record Append : Type 0 where
  pub slot : ℕ
  pub have : ℕ
  pub body : List ℕ

abbrev pub append_of : Reassembly → List ℕ → List Append
append_of Ignored body = []
append_of (Dropped slot waits) body = []
append_of (Delivered slot have) body = []
append_of (Appended slot have) body = record { slot = slot; have = have; body = body } ∷ []

unfoldable pub appends_of : PortId → Receiver → List Xgem → List Append
appends_of own s [] = []
appends_of own s (x ∷ rest) =
    append_of (reassembly_of_lem s.ports own x.port x.last (length x.body)) x.body ++ appends_of own (step own s x) rest

-- the port memory with all of them, one after another, and nothing else
abbrev pub laid : List ℕ → List Append → List ℕ
laid memory [] = memory
laid memory (a ∷ l) = laid (extended memory a.slot a.have a.body) l

-- each lies within its slot
abbrev pub InSlots : List Append → Type 0
InSlots [] = Unit {0}
InSlots (a ∷ l) = (a.slot < slots) × (a.have + length a.body ≤ slot_bytes) × InSlots l
