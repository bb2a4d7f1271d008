-- A list that closes up behind one of its places.
-- Assumes nothing.
use Prim.Native.Nat.{ℕ, suc, ◌+◌, ◌-◌, ◌<◌}
use mathlib.Core.Path.{◌≡◌, ◌∙◌, sym, ap}
use mathlib.Core.List.{List, [], ◌∷◌, ◌++◌, append_assoc}
use native.Mathlib.Omega.{arith}
use lib.ListN.{length, get_or, take, drop, set, length-take, length-drop, length-append, drop_of_length-le}
use lib.Seq.{drop-cons, set-append_seam}
use Rattle.std.specs.List.{copy_within}
use Rattle.std.proofs.lemmas.List.Edits.{paste_all}
use Rattle.link.specs.Lists.{close_up}

-- what stands behind i moves up by one, and a blank is written over the last place
pub closed
    : {A : Type 0} (blank : A) (l : List A) (i n : ℕ) → length l ≡ n → i < n
    → set (copy_within l (i + 1) (length l) i) (n - 1) blank ≡ close_up blank i l
closed blank l i n e h =
    let k = length l - (i + 1) in
    let kept = take i l ++ drop (i + 1) l in
    let last = get_or l (i + k) blank in
    let m : n - 1 ≡ length kept = omega (arith, length-append (take i l) (drop (i + 1) l), length-take i l, length-drop (i + 1) l) in
    let p : copy_within l (i + 1) (length l) i ≡ take i l ++ (drop (i + 1) l ++ drop (i + k) l) = paste_all l i (drop (i + 1) l) k (sym (length-drop (i + 1) l)) in
    let q : drop (i + k) l ≡ last ∷ [] = drop-cons l (i + k) blank (omega arith) ∙ ap (λ t. last ∷ t) (drop_of_length-le l {i = suc (i + k)} (omega arith)) in
    rw (p, q, sym (append_assoc (take i l) (drop (i + 1) l) (last ∷ [])), m) (set-append_seam kept last [] blank ∙ append_assoc (take i l) (drop (i + 1) l) (blank ∷ []))
