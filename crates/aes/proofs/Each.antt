-- Blocks in an array, one after another: what is worked, what is still as it was, and one working after another.
-- Assumes nothing.
use mathlib.Core.Path.{◌≡◌, refl, sym, ap, ap₂, ◌∙◌}
use mathlib.Core.List.{List, [], ◌∷◌}
use Prim.Native.Nat.{ℕ, zero, suc, ◌+◌, ◌*◌, ◌%◌, ◌<◌, ◌≤◌}
use native.Mathlib.Nat.{add-zero, zero-add}
use native.Mathlib.Numerals.{add-one}
use native.Mathlib.Omega.{arith}
use lib.ListN.{length, set}
use Rattle.aes.specs.Cipher.{at}
use Rattle.aes.specs.Blocks.{block_in, with_block, each_from, each}
use Rattle.aes.specs.declared.Words.{Words}
use Rattle.aes.proofs.Blocks.{words}

four_on : (j : ℕ) → suc j * 4 ≡ suc (suc (suc (suc (j * 4))))
four_on j = omega arith

four_more : (j k : ℕ) → suc j * 4 + k ≡ suc (suc (suc (suc (j * 4 + k))))
four_more j k = omega arith

-- a block behind the first stands in what follows it
block-behind : (a b c d : ℕ) (l : List ℕ) (j : ℕ) → block_in (a ∷ b ∷ c ∷ d ∷ l) (suc j) ≡ block_in l j
block-behind a b c d l j =
    let m = a ∷ b ∷ c ∷ d ∷ l in
    words (ap (at m) (four_on j)) (ap (at m) (four_more j 1)) (ap (at m) (four_more j 2)) (ap (at m) (four_more j 3))

with-behind : (a b c d : ℕ) (l : List ℕ) (j : ℕ) (w : Words)
    → with_block (a ∷ b ∷ c ∷ d ∷ l) (suc j) w ≡ a ∷ b ∷ c ∷ d ∷ with_block l j w
with-behind a b c d l j w =
    let m = a ∷ b ∷ c ∷ d ∷ l in
    ap₂ (λ (i3 : ℕ) (t : List ℕ). set t i3 w.d) (four_more j 3)
    (ap₂ (λ (i2 : ℕ) (t : List ℕ). set t i2 w.c) (four_more j 2)
    (ap₂ (λ (i1 : ℕ) (t : List ℕ). set t i1 w.b) (four_more j 1) (ap (λ (i0 : ℕ). set m i0 w.a) (four_on j))))

-- a block that was reached
pub block_worked : (i n : ℕ) (f : ℕ → Words → Words) (l : List ℕ) (j : ℕ) → j < n → j * 4 + 4 ≤ length l
    → block_in (each_from i n f l) j ≡ f (i + j) (block_in l j)
block_worked i zero f l j h k = absurd (omega arith)
block_worked i (suc n) f [] j h k = absurd (omega arith)
block_worked i (suc n) f (a ∷ []) j h k = absurd (omega arith)
block_worked i (suc n) f (a ∷ b ∷ []) j h k = absurd (omega arith)
block_worked i (suc n) f (a ∷ b ∷ c ∷ []) j h k = absurd (omega arith)
block_worked i (suc n) f (a ∷ b ∷ c ∷ d ∷ l) zero h k =
    ap (λ (m : ℕ). f m (record { a = a; b = b; c = c; d = d })) (sym (add-zero i))
block_worked i (suc n) f (a ∷ b ∷ c ∷ d ∷ l) (suc j) h k =
    let w = f i (record { a = a; b = b; c = c; d = d }) in
    let e : suc i + j ≡ i + suc j = omega arith in
    block-behind w.a w.b w.c w.d (each_from (suc i) n f l) j
    ∙ block_worked (suc i) n f l j (omega arith) (omega arith)
    ∙ ap₂ f e (sym (block-behind a b c d l j))

-- a block that was not
pub block-left : (i n : ℕ) (f : ℕ → Words → Words) (l : List ℕ) (j : ℕ) → n ≤ j → block_in (each_from i n f l) j ≡ block_in l j
block-left i zero f l j h = refl
block-left i (suc n) f [] j h = refl
block-left i (suc n) f (a ∷ []) j h = refl
block-left i (suc n) f (a ∷ b ∷ []) j h = refl
block-left i (suc n) f (a ∷ b ∷ c ∷ []) j h = refl
block-left i (suc n) f (a ∷ b ∷ c ∷ d ∷ l) zero h = absurd (omega arith)
block-left i (suc n) f (a ∷ b ∷ c ∷ d ∷ l) (suc j) h =
    let w = f i (record { a = a; b = b; c = c; d = d }) in
    block-behind w.a w.b w.c w.d (each_from (suc i) n f l) j
    ∙ block-left (suc i) n f l j (omega arith)
    ∙ sym (block-behind a b c d l j)

-- one more
one_more : (i n : ℕ) (f : ℕ → Words → Words) (l : List ℕ) → n * 4 + 4 ≤ length l
    → with_block (each_from i n f l) n (f (i + n) (block_in l n)) ≡ each_from i (suc n) f l
one_more i n f [] h = absurd (omega arith)
one_more i n f (a ∷ []) h = absurd (omega arith)
one_more i n f (a ∷ b ∷ []) h = absurd (omega arith)
one_more i n f (a ∷ b ∷ c ∷ []) h = absurd (omega arith)
one_more i zero f (a ∷ b ∷ c ∷ d ∷ l) h =
    ap (λ (m : ℕ). with_block (a ∷ b ∷ c ∷ d ∷ l) 0 (f m (record { a = a; b = b; c = c; d = d }))) (add-zero i)
one_more i (suc n) f (a ∷ b ∷ c ∷ d ∷ l) h =
    let w = f i (record { a = a; b = b; c = c; d = d }) in
    let e : i + suc n ≡ suc i + n = omega arith in
    ap₂ (λ (m : ℕ) (x : Words). with_block (w.a ∷ w.b ∷ w.c ∷ w.d ∷ each_from (suc i) n f l) (suc n) (f m x)) e (block-behind a b c d l n)
    ∙ with-behind w.a w.b w.c w.d (each_from (suc i) n f l) n (f (suc i + n) (block_in l n))
    ∙ ap (λ (t : List ℕ). w.a ∷ w.b ∷ w.c ∷ w.d ∷ t) (one_more (suc i) n f l (omega arith))

-- one working after another is both at once
pub both : (i n : ℕ) (f g : ℕ → Words → Words) (l : List ℕ)
    → each_from i n f (each_from i n g l) ≡ each_from i n (λ j x. f j (g j x)) l
both i zero f g l = refl
both i (suc n) f g [] = refl
both i (suc n) f g (a ∷ []) = refl
both i (suc n) f g (a ∷ b ∷ []) = refl
both i (suc n) f g (a ∷ b ∷ c ∷ []) = refl
both i (suc n) f g (a ∷ b ∷ c ∷ d ∷ l) =
    let w = f i (g i (record { a = a; b = b; c = c; d = d })) in
    ap (λ (t : List ℕ). w.a ∷ w.b ∷ w.c ∷ w.d ∷ t) (both (suc i) n f g l)

-- two workings that agree at the blocks that there are
pub alike : (i n : ℕ) (f g : ℕ → Words → Words) (l : List ℕ) → ((j : ℕ) → j < n → (x : Words) → f (i + j) x ≡ g (i + j) x)
    → each_from i n f l ≡ each_from i n g l
alike i zero f g l h = refl
alike i (suc n) f g [] h = refl
alike i (suc n) f g (a ∷ []) h = refl
alike i (suc n) f g (a ∷ b ∷ []) h = refl
alike i (suc n) f g (a ∷ b ∷ c ∷ []) h = refl
alike i (suc n) f g (a ∷ b ∷ c ∷ d ∷ l) h =
    let x : Words = record { a = a; b = b; c = c; d = d } in
    let e : f i x ≡ g i x = ap (λ (k : ℕ). f k x) (sym (add-zero i)) ∙ h 0 (omega arith) x ∙ ap (λ (k : ℕ). g k x) (add-zero i) in
    ap₂ (λ (w : Words) (t : List ℕ). w.a ∷ w.b ∷ w.c ∷ w.d ∷ t) e
    (alike (suc i) n f g l
    (λ j hj y.
    let s : suc i + j ≡ i + suc j = omega arith in
    ap (λ (k : ℕ). f k y) s ∙ h (suc j) (omega arith) y ∙ ap (λ (k : ℕ). g k y) (sym s)))

pub same : (i n : ℕ) (l : List ℕ) → each_from i n (λ j x. x) l ≡ l
same i zero l = refl
same i (suc n) [] = refl
same i (suc n) (a ∷ []) = refl
same i (suc n) (a ∷ b ∷ []) = refl
same i (suc n) (a ∷ b ∷ c ∷ []) = refl
same i (suc n) (a ∷ b ∷ c ∷ d ∷ l) = ap (λ (t : List ℕ). a ∷ b ∷ c ∷ d ∷ t) (same (suc i) n l)

-- a turn of a loop over the blocks
pub next-each : (f : ℕ → Words → Words) (l s t : List ℕ) (j : ℕ) → length l ≡ 32 → j < 8 → s ≡ each j f l
    → t ≡ with_block s (j % 8) (f j (block_in s (j % 8))) → t ≡ each (j + 1) f l
next-each f l s t j hl h es et =
    let small : j % 8 ≡ j = omega arith in
    et
    ∙ ap (λ (k : ℕ). with_block s k (f j (block_in s k))) small
    ∙ ap (λ (u : List ℕ). with_block u j (f j (block_in u j))) es
    ∙ ap₂ (λ (k : ℕ) (x : Words). with_block (each j f l) j (f k x)) (sym (zero-add j)) (block-left 0 j f l j (omega arith))
    ∙ one_more 0 j f l (omega arith)
    ∙ ap (λ (k : ℕ). each k f l) (sym (add-one j))
