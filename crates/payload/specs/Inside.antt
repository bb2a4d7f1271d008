-- A frame that was found lies within what is left.
-- Assumes nothing.
use Rattle.std.specs.Prelude.{ℕ, ◌+◌, ◌≤◌, ◌<◌, ◌^◌}
use Rattle.xgem.specs.Layouts.{payload_size_lem}
use Rattle.payload.specs.declared.frames.Next.{Next}
use Rattle.payload.specs.declared.frames.Next.TheVariants.{Done, Lost, Frame}
use Rattle.payload.specs.Frames.{xgem_header_bytes}

abbrev pub Inside : Next → ℕ → Type 0
Inside Done n = Unit {0}
Inside Lost n = Unit {0}
Inside (Frame x) n = (x.pli < 2 ^ 14) × (xgem_header_bytes + payload_size_lem x.pli ≤ n)
