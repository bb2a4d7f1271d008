-- Octets put at the start of a list leave it its length.
-- Assumes nothing.
use mathlib.Core.Path.{◌≡◌, ◌∙◌}
use mathlib.Core.List.{List}
use Prim.Native.Nat.{ℕ, ◌≤◌}
use native.Mathlib.Omega.{arith}
use lib.ListN.{length, drop, length-append, length-drop}
use Rattle.xgem.specs.Writes.{put}

pub put-length : (t s : List ℕ) → length s ≤ length t → length (put t s) ≡ length t
put-length t s h = length-append s (drop (length s) t) ∙ omega (arith, length-drop (length s) t)
