-- What is decided of a slot is so: it is one of the seventeen, its partial is as long as it says, and what is delivered or
-- added fits.
-- Assumes nothing.
use Rattle.std.specs.Prelude.{◌≡◌, List, ℕ, ◌+◌, ◌≤◌, ◌<◌, get_or}
use Rattle.ports.specs.Limits.{slots, sdu_bytes}
use Rattle.fragments.specs.declared.Reassembly.{Reassembly}
use Rattle.fragments.specs.declared.Reassembly.TheVariants.{Ignored, Dropped, Delivered, Appended}

abbrev pub Within : List ℕ → Reassembly → ℕ → Type 0
Within lengths Ignored n = Unit {0}
Within lengths (Dropped slot waits) n = slot < slots
Within lengths (Delivered slot have) n = (slot < slots) × (have ≡ get_or lengths slot 0) × (have + n ≤ sdu_bytes)
Within lengths (Appended slot have) n = (slot < slots) × (have ≡ get_or lengths slot 0) × (have + n ≤ sdu_bytes)
