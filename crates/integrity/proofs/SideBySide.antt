-- What is said of each of several messages; a list that says it of eight, one after another.
-- Assumes nothing.
use Prim.Native.Nat.{ℕ, zero, suc, min, ◌+◌, ◌<◌}
use mathlib.Core.Path.{◌≡◌, ◌∙◌, refl, sym, ap}
use mathlib.Core.Bool.{Bool, cond}
use mathlib.Core.List.{List}
use native.Mathlib.Omega.{arith}
use native.Mathlib.Decide.{dec_lt}
use borrow.Author.Tests.{lt-ltb, le-ltb}
use lib.Dec.{ltb}
use lib.ListN.{length, set, replicate, get_or-replicate}
use lib.Seq.{ext_get_or, get_or-set_same, get_or-set_other}
use Rattle.aes.specs.Cipher.{at, tabulate}
use Rattle.cmac.specs.declared.Prepared.{Prepared}
use Rattle.ploam.specs.Layout.{message_at}
use Rattle.integrity.specs.Integrity.{mic_right_by}
use Rattle.integrity.specs.Rights.{mark_of_lem, rights_by}
use Rattle.integrity.specs.declared.Direction.TheVariants.{Downstream}

at-tabulate : (n : ℕ) (f : ℕ → ℕ) (j : ℕ) → j < n → at (tabulate n f) j ≡ f j
at-tabulate zero f j h = absurd (omega arith)
at-tabulate (suc n) f zero h = refl
at-tabulate (suc n) f (suc j) h = at-tabulate n (λ i. f (suc i)) j (omega arith)

-- the first j of eight marks are found, the others 0
abbrev pub Found : (ℕ → ℕ) → ℕ → List ℕ → Type 0
Found f j marks = (k : ℕ) → k < 8 → at marks k ≡ cond (ltb k j) (f k) 0

pub none_found : (f : ℕ → ℕ) → Found f 0 (replicate 8 0)
none_found f k h = get_or-replicate 8 k 0 0 h ∙ sym (ap (λ (x : Bool). cond x (f k) 0) (le-ltb k 0 (omega arith)))

pub one_found : (f : ℕ → ℕ) (marks : List ℕ) (j v : ℕ) → length marks ≡ 8 → j < 8 → v ≡ f j → Found f j marks → Found f (j + 1) (set marks j v)
one_found f marks j v l h e g k hk = go (dec_lt k j) (dec_lt j k)
  where
    go : Dec (k < j) → Dec (j < k) → at (set marks j v) k ≡ cond (ltb k (j + 1)) (f k) 0
    go (yes p) q =
        get_or-set_other marks j k v 0 (λ x. absurd (omega arith)) ∙ g k hk
        ∙ ap (λ (x : Bool). cond x (f k) 0) (lt-ltb k j p ∙ sym (lt-ltb k (j + 1) (omega arith)))
    go (no p) (yes q) =
        get_or-set_other marks j k v 0 (λ x. absurd (omega arith)) ∙ g k hk
        ∙ ap (λ (x : Bool). cond x (f k) 0) (le-ltb k j (omega arith) ∙ sym (le-ltb k (j + 1) (omega arith)))
    go (no p) (no q) =
        let same : k ≡ j = omega arith in
        ap (at (set marks j v)) same ∙ get_or-set_same marks j v 0 (omega arith) ∙ e ∙ ap f (sym same)
        ∙ sym (ap (λ (x : Bool). cond x (f k) 0) (lt-ltb k (j + 1) (omega arith)))

module _ (key : Prepared) (b places : List ℕ) (count : ℕ) where
  abbrev pub said : ℕ → ℕ
  said j = cond (ltb j count) (mark_of_lem (mic_right_by key Downstream (message_at b (at places j)))) 0

  pub all_said : (marks : List ℕ) → length marks ≡ 8 → ((k : ℕ) → k < 8 → at marks k ≡ said k) → marks ≡ rights_by key b places count
  unfolding rights_by
  all_said marks l f =
      ext_get_or 0 marks (tabulate 8 said) l (λ k h. let g : k < 8 = omega arith in f k g ∙ sym (at-tabulate 8 said k g))

  pub all_found : (f : ℕ → ℕ) (n : ℕ) (marks : List ℕ) → length marks ≡ 8 → n ≡ min count 8 → ((k : ℕ) → k < n → f k ≡ mark_of_lem (mic_right_by key Downstream (message_at b (at places k))))
      → Found f n marks → marks ≡ rights_by key b places count
  all_found f n marks l e g h = all_said marks l (λ k hk. h k hk ∙ go k hk (dec_lt k n))
    where
      go : (k : ℕ) → k < 8 → Dec (k < n) → cond (ltb k n) (f k) 0 ≡ said k
      go k hk (yes q) =
          ap (λ (x : Bool). cond x (f k) 0) (lt-ltb k n q) ∙ g k q
          ∙ sym (ap (λ (x : Bool). cond x (mark_of_lem (mic_right_by key Downstream (message_at b (at places k)))) 0) (lt-ltb k count (omega (arith, e))))
      go k hk (no q) =
          ap (λ (x : Bool). cond x (f k) 0) (le-ltb k n (omega arith))
          ∙ sym (ap (λ (x : Bool). cond x (mark_of_lem (mic_right_by key Downstream (message_at b (at places k)))) 0) (le-ltb k count (omega (arith, e))))

  -- for those who ask: what is said of the message at a place
  pub rights-at
      : (j : ℕ) → j < 8 → j < count → at (rights_by key b places count) j ≡ mark_of_lem (mic_right_by key Downstream (message_at b (at places j)))
  unfolding rights_by
  rights-at j h g =
      at-tabulate 8 said j h
      ∙ ap (λ (x : Bool). cond x (mark_of_lem (mic_right_by key Downstream (message_at b (at places j)))) 0) (lt-ltb j count g)
