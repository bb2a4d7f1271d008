-- A line, put into a text part by part.
-- Assumes nothing.
use Rattle.std.proofs.Common.{◌≡◌, ℕ, ◌+◌, ◌^◌, ◌<◌, ◌≤◌, List, [], ◌∷◌, ◌++◌, length, ap, ◌∙◌, append_assoc, arith, length-append}
use Rattle.payload.specs.Memory.{put}
use Rattle.text.specs.Texts.{Added, added}
use Rattle.text.specs.Decimals.{field}
use Rattle.text.proofs.Decimals.{field-within}
use Rattle.text.proofs.Adding.{added_next, added-fits}
use Rattle.trace.specs.Lines.{spaced, bad_line}

-- a line of at most 126 bytes, where there is room for them
line_fits : (l : List ℕ) (at : ℕ) (s : List ℕ) (x : Added) → x ≡ added l at s → length s ≤ 126 → at + 126 ≤ length l
    → (x.text ≡ put l at s) × (x.place ≡ at + length s) × (x.place ≤ at + 126)
unfolding put
line_fits l at s x e h g =
    let f : x ≡ record { text = put l at s; place = at + length s } = e ∙ added-fits l at s (omega arith) in
    let p : x.place ≡ at + length s = ap (λ z. z.place) f in
    (ap (λ z. z.text) f, p, omega (arith, p))

six : (a b c d e f : List ℕ) → a ++ b ++ c ++ d ++ e ++ f ≡ a ++ (b ++ (c ++ (d ++ (e ++ f))))
six a b c d e f = simp append_assoc

module _ (number answer state records replies bytes : ℕ) where
  spaced-six
      : field number 32 ++ field answer 32 ++ field state 32 ++ field records 32 ++ field replies 32 ++ field bytes 10
      ≡ spaced (number ∷ answer ∷ state ∷ records ∷ replies ∷ bytes ∷ [])
  unfolding spaced
  spaced-six = six (field number 32) (field answer 32) (field state 32) (field records 32) (field replies 32) (field bytes 10)

  -- six numbers of 64 bits take at most 126 bytes
  line_within
      : number < 2 ^ 64 → answer < 2 ^ 64 → state < 2 ^ 64 → records < 2 ^ 64 → replies < 2 ^ 64 → bytes < 2 ^ 64
      → length (spaced (number ∷ answer ∷ state ∷ records ∷ replies ∷ bytes ∷ [])) ≤ 126
  unfolding spaced
  line_within a b c d e f =
      simp length-append
      (omega (
        arith,
        field-within number 32 a,
        field-within answer 32 b,
        field-within state 32 c,
        field-within records 32 d,
        field-within replies 32 e,
        field-within bytes 10 f,
      ))

  module _ (l : List ℕ) (at : ℕ) (x₁ x₂ x₃ x₄ x₅ x₆ : Added) where
    pub line-put
        : at + 126 ≤ length l
        → number < 2 ^ 64 → answer < 2 ^ 64 → state < 2 ^ 64 → records < 2 ^ 64 → replies < 2 ^ 64 → bytes < 2 ^ 64
        → x₁ ≡ added l at (field number 32)
        → x₂ ≡ added x₁.text x₁.place (field answer 32)
        → x₃ ≡ added x₂.text x₂.place (field state 32)
        → x₄ ≡ added x₃.text x₃.place (field records 32)
        → x₅ ≡ added x₄.text x₄.place (field replies 32)
        → x₆ ≡ added x₅.text x₅.place (field bytes 10)
        → (x₆.text ≡ put l at (spaced (number ∷ answer ∷ state ∷ records ∷ replies ∷ bytes ∷ [])))
        × (x₆.place ≡ at + length (spaced (number ∷ answer ∷ state ∷ records ∷ replies ∷ bytes ∷ [])))
        × (x₆.place ≤ at + 126)
    line-put h n₁ n₂ n₃ n₄ n₅ n₆ a b c d e f =
        let s₁ : List ℕ = field number 32 in
        let s₂ : List ℕ = s₁ ++ field answer 32 in
        let s₃ : List ℕ = s₂ ++ field state 32 in
        let s₄ : List ℕ = s₃ ++ field records 32 in
        let s₅ : List ℕ = s₄ ++ field replies 32 in
        let e₂ : x₂ ≡ added l at s₂ = added_next l at s₁ (field answer 32) x₁ x₂ a b in
        let e₃ : x₃ ≡ added l at s₃ = added_next l at s₂ (field state 32) x₂ x₃ e₂ c in
        let e₄ : x₄ ≡ added l at s₄ = added_next l at s₃ (field records 32) x₃ x₄ e₃ d in
        let e₅ : x₅ ≡ added l at s₅ = added_next l at s₄ (field replies 32) x₄ x₅ e₄ e in
        let e₆ : x₆ ≡ added l at (s₅ ++ field bytes 10) = added_next l at s₅ (field bytes 10) x₅ x₆ e₅ f in
        line_fits l at (spaced (number ∷ answer ∷ state ∷ records ∷ replies ∷ bytes ∷ [])) x₆ (e₆ ∙ ap (added l at) spaced-six)
        (line_within n₁ n₂ n₃ n₄ n₅ n₆)
        h

bad_within : (number : ℕ) → number < 2 ^ 64 → length (bad_line number) ≤ 126
unfolding bad_line
bad_within number h = simp length-append (omega (arith, field-within number 32 h))

pub bad_put : (number : ℕ) (l : List ℕ) (at : ℕ) (x y : Added) → at + 126 ≤ length l → number < 2 ^ 64
    → x ≡ added l at (field number 32)
    → y ≡ added x.text x.place (98 ∷ 97 ∷ 100 ∷ 10 ∷ [])
    → (y.text ≡ put l at (bad_line number)) × (y.place ≡ at + length (bad_line number)) × (y.place ≤ at + 126)
unfolding bad_line
bad_put number l at x y h n a b =
    line_fits l at (bad_line number) y (added_next l at (field number 32) (98 ∷ 97 ∷ 100 ∷ 10 ∷ []) x y a b) (bad_within number n) h
