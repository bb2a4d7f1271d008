-- What stands in a list after something was put into a place of it.
-- Assumes nothing.
use mathlib.Core.Path.{◌≡◌, refl, sym, ap, ◌∙◌}
use Prim.Native.Nat.{ℕ, suc, zero, ◌+◌, ◌-◌, ◌*◌, ◌≤◌, ◌<◌}
use native.Mathlib.Nat.{add-zero, zero-add}
use native.Mathlib.Omega.{arith}
use mathlib.Core.List.{List, [], ◌++◌, append_assoc}
use lib.ListN.{length, get_or, take, drop, length-append, length-drop, take-append-drop}
use lib.Seq.{take_at, drop_at, take-add, take-append-le, drop-append-add, drop-append-le, drop-drop, length-take-le}
use Rattle.std.specs.Simd.{first_chunks}
use Rattle.payload.specs.Memory.{put}

-- the rest of a list, in two pieces
drop_seam : (n k : ℕ) (l : List ℕ) → n ≤ k → k ≤ length l → drop n (take k l) ++ drop k l ≡ drop n l
drop_seam n k l h g =
    let e : length (take k l) ≡ k = length-take-le k l g in
    sym (drop-append-le n (take k l) (drop k l) (omega arith)) ∙ ap (drop n) (take-append-drop k l)

-- what stands in d after a part of it, k bytes from index a, was lent and came back with s laid over its front
pub part-put : (d s : List ℕ) (a k : ℕ) → length s ≤ k → a + k ≤ length d
    → take a d ++ (put (take k (drop a d)) 0 s ++ drop k (drop a d)) ≡ put d a s
unfolding put
part-put d s a k h g =
    let e : k ≤ length (drop a d) = simp length-drop (omega arith) in
    ap (λ n. take a d ++ ((s ++ drop n (take k (drop a d))) ++ drop k (drop a d))) (zero-add (length s))
    ∙ ap (λ l. take a d ++ l) (append_assoc s _ _ ∙ ap (λ l. s ++ l) (drop_seam (length s) k (drop a d) h e ∙ drop-drop (length s) a d))

-- the list is as long as it was
pub length-put : (d : List ℕ) (a : ℕ) (s : List ℕ) → a + length s ≤ length d → length (put d a s) ≡ length d
unfolding put
length-put d a s h =
    let e : length (take a d) ≡ a = length-take-le a d (omega arith) in
    simp (length-append, length-drop, e) (omega arith)

-- what is put after what was put
pub put-put : (d : List ℕ) (a : ℕ) (s t : List ℕ) (b : ℕ) → b ≡ a + length s → a ≤ length d → put (put d a s) b t ≡ put d a (s ++ t)
unfolding put
put-put d a s t b e h =
    let p : List ℕ = take a d ++ s in
    let R : List ℕ = drop (a + length s) d in
    let l : length p ≡ b = length-append (take a d) s ∙ ap (λ n. n + length s) (length-take-le a d h) ∙ sym e in
    let q : take a d ++ (s ++ R) ≡ p ++ R = sym (append_assoc (take a d) s R) in
    let n : b + length t ≡ length p + length t = ap (λ k. k + length t) (sym l) in
    let m : a + length (s ++ t) ≡ a + length s + length t = simp length-append (omega arith) in
    ap (λ x. take b x ++ (t ++ drop (b + length t) x)) q
    ∙ ap (λ x. x ++ (t ++ drop (b + length t) (p ++ R))) (take_at p R b l)
    ∙ ap (λ x. p ++ (t ++ x)) (ap (λ k. drop k (p ++ R)) n ∙ drop-append-add p R (length t) ∙ drop-drop (length t) (a + length s) d)
    ∙ append_assoc (take a d) s _
    ∙ ap (λ x. take a d ++ x) (sym (append_assoc s t _) ∙ ap (λ k. s ++ t ++ drop k d) (sym m))

-- ---- what was put, read back, and what stands apart from it

-- what stands in front does not depend on what stands behind
front_same : (p R S : List ℕ) (f n : ℕ) → f + n ≤ length p → take n (drop f (p ++ R)) ≡ take n (drop f (p ++ S))
front_same p R S f n h =
    let l : n ≤ length (drop f p) = simp length-drop (omega arith) in
    ap (take n) (drop-append-le f p R (omega arith)) ∙ take-append-le n (drop f p) R l
    ∙ sym (take-append-le n (drop f p) S l) ∙ ap (take n) (sym (drop-append-le f p S (omega arith)))

-- n bytes from index f, that end before what was put
pub put-before : (d : List ℕ) (a : ℕ) (s : List ℕ) (f n : ℕ) → a ≤ length d → f + n ≤ a → take n (drop f (put d a s)) ≡ take n (drop f d)
unfolding put
put-before d a s f n h k =
    let l : length (take a d) ≡ a = length-take-le a d h in
    front_same (take a d) (s ++ drop (a + length s) d) (drop a d) f n (omega arith) ∙ ap (λ x. take n (drop f x)) (take-append-drop a d)

-- what stands behind what was put
pub put-after : (d : List ℕ) (a : ℕ) (s : List ℕ) (f : ℕ) → a ≤ length d → a + length s ≤ f → drop f (put d a s) ≡ drop f d
unfolding put
put-after d a s f h k =
    let p : List ℕ = take a d ++ s in
    let m : ℕ = f - (a + length s) in
    let l : length p ≡ a + length s = length-append (take a d) s ∙ ap (λ n. n + length s) (length-take-le a d h) in
    let e : f ≡ length p + m = omega arith in
    let g : a + length s + m ≡ f = omega arith in
    ap (drop f) (sym (append_assoc (take a d) s (drop (a + length s) d)))
    ∙ ap (λ n. drop n (p ++ drop (a + length s) d)) e
    ∙ drop-append-add p (drop (a + length s) d) m
    ∙ drop-drop m (a + length s) d
    ∙ ap (λ n. drop n d) g

-- what was put after n bytes from index f
pub put_onto : (d : List ℕ) (f n : ℕ) (s : List ℕ) → f + n + length s ≤ length d → take (n + length s) (drop f (put d (f + n) s)) ≡ take n (drop f d) ++ s
unfolding put
put_onto d f n s h =
    let l : length (take f d) ≡ f = length-take-le f d (omega arith) in
    let q : List ℕ = take n (drop f d) in
    let lq : length q ≡ n = length-take-le n (drop f d) (simp length-drop (omega arith)) in
    let R : List ℕ = drop (f + n + length s) d in
    let e : take (f + n) d ++ (s ++ R) ≡ take f d ++ (q ++ s ++ R) =
    ap (λ x. x ++ (s ++ R)) (take-add f n d) ∙ append_assoc (take f d) q (s ++ R) ∙ ap (λ x. take f d ++ x) (sym (append_assoc q s R)) in
    ap (λ x. take (n + length s) (drop f x)) e
    ∙ ap (take (n + length s)) (drop_at (take f d) (q ++ s ++ R) f l)
    ∙ take_at (q ++ s) R (n + length s) (length-append q s ∙ ap (λ m. m + length s) lq)

-- nothing put changes nothing
pub put_none : (d : List ℕ) (a : ℕ) → put d a [] ≡ d
unfolding put
put_none d a = ap (λ (k : ℕ). take a d ++ drop k d) (add-zero a) ∙ take-append-drop a d

-- ---- a list laid into another piece by piece: i elements so far, then eight more, or the rest
module _ (d s : List ℕ) (a i : ℕ) (t : List ℕ) (so_far : t ≡ put d a (take i s)) (h : i ≤ length s) (g : a ≤ length d) where
  put_more : (u o v : List ℕ) → u ≡ put t (a + i) o → take i s ++ o ≡ v → u ≡ put d a v
  put_more u o v e j =
      e ∙ ap (λ (x : List ℕ). put x (a + i) o) so_far
      ∙ put-put d a (take i s) o (a + i) (ap (λ (k : ℕ). a + k) (sym (length-take-le i s h))) g
      ∙ ap (put d a) j

  pub put-eight : (u o : List ℕ) → u ≡ put t (a + i) o → o ≡ take 8 (drop i s) → u ≡ put d a (take (i + 8) s)
  put-eight u o e p =
      put_more u o (take (i + 8) s) e (ap (λ (x : List ℕ). take i s ++ x) p ∙ sym (take-add i 8 s))

  pub put_rest : (u : List ℕ) → u ≡ put t (a + i) (drop i s) → u ≡ put d a s
  put_rest u e = put_more u (drop i s) s e (take-append-drop i s)

-- the eights of a list, one after another
pub eight_at : (k i : ℕ) (s : List ℕ) → i < k → get_or (first_chunks 8 k s) i [] ≡ take 8 (drop (8 * i) s)
eight_at zero i s h = absurd (omega arith)
eight_at (suc k) zero s h = refl
eight_at (suc k) (suc i) s h =
    let m : 8 + 8 * i ≡ 8 * suc i = omega arith in
    eight_at k i (drop 8 s) (omega arith) ∙ ap (take 8) (drop-drop (8 * i) 8 s ∙ ap (λ (j : ℕ). drop j s) m)
