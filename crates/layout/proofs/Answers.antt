-- What reading answers, a case each.
-- Assumes nothing.
use mathlib.Core.Path.{◌≡◌}
use mathlib.Core.Bool.{true, false}
use mathlib.Core.List.{List}
use Prim.Native.Nat.{ℕ, ◌≤◌, ◌<◌}
use lib.ListN.{length, take}
use borrow.Author.Tests.{le-leb, lt-leb}
use Rattle.std.specs.Prelude.{Ok, Err}
use Rattle.integrity.specs.Integrity.{same}
use Rattle.station.specs.declared.Station.{Station}
use Rattle.xgem.specs.declared.ReadError.TheVariants.{Unreadable, Short}
use Rattle.layout.specs.Offsets.{state_bytes}
use Rattle.layout.specs.Layout.{encoded, shown, read_of}

module _ (b : List ℕ) where
  pub read_short : length b < state_bytes → Err Short ≡ read_of b
  unfolding read_of
  read_short h = rw (lt-leb state_bytes (length b) h)

  pub read_held : (s : Station) → state_bytes ≤ length b → s ≡ shown b → same (encoded (shown b)) (take state_bytes b) ≡ true → Ok s ≡ read_of b
  unfolding read_of
  read_held s h e f = rw (le-leb state_bytes (length b) h, f, e)

  pub read_unreadable : state_bytes ≤ length b → same (encoded (shown b)) (take state_bytes b) ≡ false → Err Unreadable ≡ read_of b
  unfolding read_of
  read_unreadable h f = rw (le-leb state_bytes (length b) h, f)
