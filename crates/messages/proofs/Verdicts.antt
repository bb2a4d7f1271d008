-- Verdicts that are found for several messages and kept.
-- Assumes nothing.
use Prim.Native.Nat.{ℕ, zero, suc, ◌+◌, ◌-◌, ◌≤◌, ◌<◌}
use mathlib.Core.Path.{◌≡◌, ◌∙◌, refl, sym, ap}
use mathlib.Core.Bool.{Bool, true, false, beq, cond, false≢true}
use mathlib.Core.List.{List}
use mathlib.Core.Logic.{◌⊎◌, inl, inr, ⊎_elim}
use native.Mathlib.Omega.{arith}
use borrow.Author.Tests.{eqb-true, eqb-false}
use lib.Dec.{eqb}
use lib.ListN.{length, set, replicate, get_or-replicate, length-set}
use lib.Seq.{get_or-set_same, get_or-set_other}
use Rattle.aes.specs.Cipher.{at}
use Rattle.cmac.specs.declared.Prepared.{Prepared}
use Rattle.ploam.specs.Layout.{message_at}
use Rattle.integrity.specs.Integrity.{mic_right_by, genuine_by}
use Rattle.integrity.specs.Rights.{mark_of_lem, rights_by}
use Rattle.integrity.specs.declared.Direction.TheVariants.{Downstream}
use Rattle.integrity.proofs.SideBySide.{rights-at}
use Rattle.messages.specs.Checking.{by_usual_lem, verdict_at, Known, Within, Told, Gathered, entered}

-- ---- a group grows

pub same_key : (a b : Bool) → beq a b ≡ true → a ≡ b
same_key true true e = refl
same_key true false e = absurd (false≢true e)
same_key false true e = absurd (false≢true e)
same_key false false e = refl

-- what holds at every index, and of what is stored at one, holds at every index after
stored
    : (P : ℕ → ℕ → Type 0) (l : List ℕ) (n k x : ℕ) → k < length l → P k x → ((j : ℕ) → j < n → P j (at l j))
    → (j : ℕ) → j < n → P j (at (set l k x) j)
stored P l n k x h p f j g = go (eqb j k) refl
  where
    go : (e : Bool) → eqb j k ≡ e → P j (at (set l k x) j)
    go true e = rw (eqb-true j k e, get_or-set_same l k x 0 h) p
    go false e = rw (get_or-set_other l k j x 0 (eqb-false j k e)) (f j g)

module _ (usual : Bool) (b : List ℕ) (base i : ℕ) where
  pub alone : Within base i → by_usual_lem (message_at b i) ≡ usual → Gathered usual b base i (replicate 8 i) 1
  alone w e =
      record {
        first = refl;
        some = omega arith;
        most = omega arith;
        within = λ j h. rw (get_or-replicate 8 j i 0 h) w;
        alike = λ j h. rw (get_or-replicate 8 j i 0 h) e;
      }

  module _ (places : List ℕ) (count : ℕ) (l : length places ≡ 8) (g : Gathered usual b base i places count) where
    pub joined
        : (p : ℕ) (places' : List ℕ) (count' : ℕ) → places' ≡ set places count p → count' ≡ count + 1 → count < 8 → Within base p
        → by_usual_lem (message_at b p) ≡ usual → Gathered usual b base i places' count'
    joined p places' count' e f h w a =
        let c : count < length places = omega arith in
        let z : 0 ≡ count → ⊥ = λ q. omega (arith, g.some) in
        rw (e, f)
        (record {
          first = get_or-set_other places count 0 p 0 z ∙ g.first;
          some = omega arith;
          most = omega arith;
          within = stored (λ (j p : ℕ). Within base p) places 8 count p c w g.within;
          alike = stored (λ (j p : ℕ). by_usual_lem (message_at b p) ≡ usual) places 8 count p c a g.alike;
        })

    pub not-joined
        : (places' : List ℕ) (count' : ℕ) → places' ≡ places → count' ≡ count → Gathered usual b base i places' count'
    not-joined places' count' e f = rw (e, f) g

-- ---- marks are entered one after another

module _ (base : ℕ) (places found : List ℕ) (count j : ℕ) (marks : List ℕ) where
  pub enter-turn
      : j < count
      → entered base places found (j + 1) (count - (j + 1)) (set marks (at places j - base) (at found j))
      ≡ entered base places found j (count - j) marks
  enter-turn h = let e : count - j ≡ suc (count - (j + 1)) = omega arith in rw e

  pub enter_end : count ≤ j → marks ≡ entered base places found j (count - j) marks
  enter_end h = let e : count - j ≡ 0 = omega arith in rw e

-- what holds of every mark, and of each that is entered, holds of every mark after
entered_All
    : (P : ℕ → ℕ → Type 0) (base : ℕ) (places found : List ℕ) (k j : ℕ) (marks : List ℕ) → length marks ≡ 64
    → ((x : ℕ) → j ≤ x → x < j + k → (at places x - base < 64) × (P (at places x - base) (at found x)))
    → ((d : ℕ) → d < 64 → P d (at marks d)) → (d : ℕ) → d < 64 → P d (at (entered base places found j k marks) d)
entered_All P base places found zero j marks l f h = h
entered_All P base places found (suc k) j marks l f h =
    let e = f j (omega arith) (omega arith) in
    let i : at places j - base < length marks = omega (arith, e.0) in
    entered_All P base places found k (j + 1) (set marks (at places j - base) (at found j)) (simp length-set l)
    (λ x a b. f x (omega arith) (omega arith))
    (stored P marks 64 (at places j - base) (at found j) i e.1 h)

length-entered : (base : ℕ) (places found : List ℕ) (k j : ℕ) (marks : List ℕ) → length (entered base places found j k marks) ≡ length marks
length-entered base places found zero j marks = refl
length-entered base places found (suc k) j marks =
    length-entered base places found k (j + 1) (set marks (at places j - base) (at found j)) ∙ length-set marks (at places j - base) (at found j)

-- ---- a window in which nothing is known

pub none_known : (verdict : ℕ → ℕ) (base : ℕ) → Known verdict base (replicate 64 0)
none_known verdict base = record { whole = refl; marked = λ d h. inl (get_or-replicate 64 d 0 0 h) }

-- what is known already
pub known_already
    : (verdict : ℕ → ℕ) (base i : ℕ) (marks : List ℕ) → Within base i → Known verdict base marks → (at marks (i - base) ≡ 0 → ⊥)
    → Told verdict base i marks
known_already verdict base i marks w k n =
    let e : base + (i - base) ≡ i = omega arith in
    record { within = w; known = k; told = ⊎_elim (λ z. absurd (n z)) (λ q. q ∙ ap verdict e) (k.marked (i - base) (omega arith)) }

-- ---- where verdicts are entered, the window holds them, and that of the first place for certain

module _ (verdict : ℕ → ℕ) (base : ℕ) (places found : List ℕ) (within : (j : ℕ) → j < 8 → Within base (at places j)) where
  again : (j : ℕ) → j < 8 → verdict (base + (at places j - base)) ≡ verdict (at places j)
  again j h = let w = within j h in let e : base + (at places j - base) ≡ at places j = omega arith in ap verdict e

  known-after
      : (count : ℕ) (marks : List ℕ) → count ≤ 8 → ((j : ℕ) → j < count → at found j ≡ verdict (at places j)) → Known verdict base marks
      → Known verdict base (entered base places found 0 count marks)
  known-after count marks c f k =
      record {
        whole = length-entered base places found count 0 marks ∙ k.whole;
        marked =
            entered_All (λ (d x : ℕ). (x ≡ 0) ⊎ (x ≡ verdict (base + d))) base places found count 0 marks k.whole
            (λ x a b. let h : x < 8 = omega arith in let w = within x h in (omega arith, inr (f x (omega arith) ∙ sym (again x h))))
            k.marked;
      }

  told-after
      : (count : ℕ) (marks : List ℕ) → 0 < count → count ≤ 8 → ((j : ℕ) → j < count → at found j ≡ verdict (at places j)) → length marks ≡ 64
      → at (entered base places found 0 count marks) (at places 0 - base) ≡ verdict (at places 0)
  told-after zero marks s c f l = absurd (omega arith)
  told-after (suc k) marks s c f l =
      let w = within 0 (omega arith) in
      let d = at places 0 - base in
      let i : d < length marks = omega arith in
      entered_All (λ (d x : ℕ). d ≡ at places 0 - base → x ≡ verdict (base + d)) base places found k 1 (set marks d (at found 0)) (simp length-set l)
      (λ x a b. let h : x < 8 = omega arith in let w = within x h in (omega arith, λ e. f x (omega arith) ∙ sym (again x h)))
      (λ x h e. ap (at (set marks d (at found 0))) e ∙ get_or-set_same marks d (at found 0) 0 i ∙ f 0 (omega arith) ∙ sym (again 0 (omega arith)) ∙ ap (λ (k : ℕ). verdict (base + k)) (sym e))
      d (omega arith) refl
      ∙ again 0 (omega arith)

-- ---- what is found for a group under its key is the verdict of each

module _ (usual installed key : Prepared) (b : List ℕ) (isUsual : Bool) (ek : key ≡ cond isUsual usual installed) where
  own_key : (m : List ℕ) → by_usual_lem m ≡ isUsual → mic_right_by key Downstream m ≡ genuine_by usual installed m
  unfolding genuine_by
  own_key m e =
      ap (λ (k : Prepared). mic_right_by k Downstream m) ek
      ∙ ap (λ (x : Bool). mic_right_by (cond x usual installed) Downstream m) (sym e)

  pub checked
      : (base i : ℕ) (places : List ℕ) (count : ℕ) (found marks marks' : List ℕ) → Gathered isUsual b base i places count → found ≡ rights_by key b places count
      → marks' ≡ entered base places found 0 count marks → Known (verdict_at usual installed b) base marks
      → Told (verdict_at usual installed b) base i marks'
  checked base i places count found marks marks' h ef em k =
      let verdict = verdict_at usual installed b in
      let one : (j : ℕ) → j < count → at found j ≡ verdict (at places j) = λ j c.
      let m : count ≤ 8 = h.most in
      let n : j < 8 = omega arith in
      ap (λ (l : List ℕ). at l j) ef ∙ rights-at key b places count j n c ∙ ap mark_of_lem (own_key (message_at b (at places j)) (h.alike j n))
      in
      let told = told-after verdict base places found h.within count marks h.some h.most one k.whole in
      rw em
      (record {
        within = rw (sym h.first) (h.within 0 (omega arith));
        known = known-after verdict base places found h.within count marks h.most one k;
        told = rw (sym h.first) told;
      })
