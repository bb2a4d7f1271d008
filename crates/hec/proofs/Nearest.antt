-- The search of `reading` finds what `Reads` says.
-- Assumes nothing.
use mathlib.Core.Path.{◌≡◌, refl, sym, ap, ap₂, ◌∙◌, subst}
use mathlib.Core.Bool.{Bool, true, false, cond, true≢false}
use Prim.Native.Nat.{ℕ, zero, suc, ◌+◌, ◌-◌, ◌*◌, ◌/◌, ◌%◌, ◌^◌, ◌≤◌, ◌<◌}
use native.Mathlib.Nat.{one-mul, pow-suc}
use native.Mathlib.Decide.{dec_lt}
use native.Mathlib.Omega.{arith}
use lib.Arith.{lt-one, le-zero}
use lib.Pow.{pow_pos}
use lib.Bits.{bit_xor, xor_zero_r, xor_lt, xor_shifted}
use lib.Count.{ones, ones_cat, ones-ones}
use Rattle.bch.specs.Code.{TrueWord, distance, is_true}
use Rattle.hec.specs.Reads.{Reading, word, unreadable, Reads, or_else, mended, reading}
use Rattle.bch.specs.Tables.{syndrome}
use Rattle.bch.proofs.Xor.{xor_assoc, xor_cancel}
use Rattle.bch.proofs.Ones.{ones_none}
use Rattle.bch.proofs.Syndrome.{syndrome_true, true_syndrome, tested_true, true_tested}
use Rattle.hec.proofs.Words.{settled}

-- a pattern of at most m of the n lowest bits
record Few (n m f : ℕ) : Type 0 where
  within : f < 2 ^ n
  few : ones f ≤ m

-- w becomes the true word v by such a pattern, or no true word at all
Searched : ℕ → ℕ → ℕ → Reading → Type 0
Searched n m w (word v) = (f : ℕ) × Few n m f × (v ≡ bit_xor w f) × (is_true v ≡ true)
Searched n m w unreadable = (f : ℕ) → Few n m f → is_true (bit_xor w f) ≡ true → ⊥

nothing : (n m : ℕ) → Few n m 0
nothing n m = record { within = pow_pos n; few = omega (arith, ones-ones 0) }

-- where no bit can be flipped
still : (n m w : ℕ) → ((f : ℕ) → Few n m f → f ≡ 0) → Searched n m w (cond (is_true w) (word w) unreadable)
unfolding Searched
still n m w none = go (is_true w) refl
  where
    go : (b : Bool) → is_true w ≡ b → Searched n m w (cond b (word w) unreadable)
    go true e = (0, nothing n m, sym (xor_zero_r w), e)
    go false e = λ f p t. true≢false (sym t ∙ ap is_true (ap (bit_xor w) (none f p) ∙ xor_zero_r w) ∙ e)

-- one more bit, at place n
top_ones : (n g : ℕ) → g < 2 ^ n → ones (2 ^ n + g) ≡ suc (ones g)
top_ones n g h = ap (λ (x : ℕ). ones (x + g)) (sym (one-mul (2 ^ n))) ∙ ones_cat n 1 g h ∙ ap (λ (x : ℕ). x + ones g) (ones-ones 1) ∙ omega arith

top_xor : (n g w : ℕ) → g < 2 ^ n → bit_xor (bit_xor w (2 ^ n)) g ≡ bit_xor w (2 ^ n + g)
top_xor n g w h = xor_assoc w (2 ^ n) g ∙ ap (bit_xor w) (ap (λ (x : ℕ). bit_xor x g) (sym (one-mul (2 ^ n))) ∙ xor_shifted 1 n g h ∙ ap (λ (x : ℕ). x + g) (one-mul (2 ^ n)))

widened : (n m f : ℕ) → Few n m f → Few (suc n) m f
widened n m f p = record { within = omega (arith, pow-suc 2 n); few = p.few }

topped : (n m g : ℕ) → Few n m g → Few (suc n) (suc m) (2 ^ n + g)
topped n m g p = record { within = omega (arith, pow-suc 2 n); few = omega (arith, top_ones n g p.within) }

joined : (n m w : ℕ) (a b : Reading) → Searched n (suc m) w a → Searched n m (bit_xor w (2 ^ n)) b → Searched (suc n) (suc m) w (or_else a b)
unfolding Searched
joined n m w (word v) b (f, p, e, t) q = (f, widened n (suc m) f p, e, t)
joined n m w unreadable (word v) none (g, p, e, t) = (2 ^ n + g, topped n m g p, e ∙ top_xor n g w p.within, t)
joined n m w unreadable unreadable none high = λ f p t. go f p t (dec_lt f (2 ^ n))
  where
    go : (f : ℕ) → Few (suc n) (suc m) f → is_true (bit_xor w f) ≡ true → Dec (f < 2 ^ n) → ⊥
    go f p t (yes l) = none f (record { within = l; few = p.few }) t
    go f p t (no l) =
        let g : ℕ = f - 2 ^ n in
        let e : 2 ^ n + g ≡ f = omega arith in
        let below : g < 2 ^ n = omega (arith, pow-suc 2 n, p.within) in
        high g (record { within = below; few = omega (arith, p.few, rw e at (top_ones n g below)) }) (ap is_true (top_xor n g w below ∙ ap (bit_xor w) e) ∙ t)

search_all : (n m w : ℕ) → Searched n m w (mended n m w)
unfolding mended
search_all zero m w = still zero m w (λ f p. lt-one p.within)
search_all (suc n) zero w = still (suc n) zero w (λ f p. ones_none f (le-zero p.few))
search_all (suc n) (suc m) w = joined n m w (mended n (suc m) w) (mended n m (bit_xor w (2 ^ n))) (search_all n (suc m) w) (search_all n m (bit_xor w (2 ^ n)))

module _ (n w : ℕ) (wide : n ≤ 64) (fits : w < 2 ^ n) where
  told : (r : Reading) → Searched n 2 w r → Reads n w r
  unfolding Searched
  told (word v) (f, p, e, t) = (
    syndrome_true n v wide (rw e (xor_lt n w f fits p.within)) (true_tested v t),
    rw (e, xor_cancel w f) p.few,
  )
  told unreadable none = λ v t d.
      none (bit_xor w v) (record { within = xor_lt n w v fits t.fits; few = d })
      (ap is_true (xor_cancel w v) ∙ tested_true v (true_syndrome n v wide t))

  pub reading-reads : Reads n w (reading n w)
  reading-reads = told (reading n w) (search_all n 2 w)

  -- so what meets `Reads` is the reading
  pub is_reading : (r : Reading) → Reads n w r → r ≡ reading n w
  is_reading r a = settled n w wide fits r (reading n w) a reading-reads
