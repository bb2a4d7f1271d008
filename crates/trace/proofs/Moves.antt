-- What lies behind a place of the input, at the front.
-- Assumes nothing.
use Rattle.std.proofs.Common.{◌≡◌, ℕ, ◌+◌, ◌-◌, ◌≤◌, List, ◌++◌, length, take, drop, sym, ap, arith, length-drop, length-take-le}
use Rattle.std.specs.List.{copy_within}
use Rattle.payload.specs.Memory.{put}

pub moved_front : (l : List ℕ) (from to : ℕ) → from ≤ to → to ≤ length l → copy_within l from to 0 ≡ put l 0 (take (to - from) (drop from l))
unfolding put
moved_front l from to h g =
    let e : length (take (to - from) (drop from l)) ≡ to - from = length-take-le (to - from) (drop from l) (simp length-drop (omega arith)) in
    ap (λ k. take (to - from) (drop from l) ++ drop (0 + k) l) (sym e)
