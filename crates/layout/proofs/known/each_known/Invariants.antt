-- `layout::known::each_known` meets its contract: what is still to ask says what all say.
use mathlib.Core.Path.{◌≡◌}
use mathlib.Core.Bool.{Bool, ◌&&◌}
use Prim.Native.Nat.{ℕ, ◌-◌, ◌*◌}
use lib.ListN.{drop}
use Rattle.layout.specs.KnownOctets.{each_known}
use Rattle.layout.proofs.known.each_known.Given as goal

abbrev pub invariant-loop-i : goal.invariant-loop-i
invariant-loop-i g l =
    (f : ℕ → Bool) → ((x : ℕ) (r : Bool) → g.F.Fn.post l.known (x, tt) r → r ≡ f x)
    → (l.all && each_known f g.row.W (g.row.N - l.i) (drop (g.row.W * l.i) l.c)) ≡ each_known f g.row.W g.row.N l.c
