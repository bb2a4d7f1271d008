-- Records count from 0, and nothing follows a bad one.
-- Assumes nothing.
use Rattle.std.proofs.Common.{◌≡◌, ℕ, suc, ◌+◌, ◌%◌, ◌^◌, ◌<◌, true, false, cond, ◌⊎◌, List, [], ◌∷◌, ◌++◌, length, sym, refl, ap, ◌∙◌, inl, inr, ⊎_elim, add-zero, mod-lt, mod-eq_of_lt, zero-add, arith}
use native.Mathlib.Nat.{mod-add-mod}
use Rattle.trace.specs.declared.records.Kind.{Kind}
use Rattle.trace.specs.declared.records.Kind.TheVariants.{Lost, Frame, Bad}
use Rattle.trace.specs.Records.{kind_of}
use Rattle.trace.specs.Runs.{At, Step, step_by, step, after, lines_of, powered}
use Rattle.trace.proofs.Steps.{kind_step}

-- a run that is stopped
stopped_stays : (p : At) (x : List ℕ) → p.run.stopped ≡ true → ◌≡◌ {A = Step} (step p x) (record { at = p; line = [] })
unfolding step
stopped_stays p x h = ap (λ b. cond b (record { at = p; line = [] }) (step_by (kind_of x) p x)) h

pub stopped_after : (p : At) (l : List (List ℕ)) → p.run.stopped ≡ true → after p l ≡ p
stopped_after p [] h = refl
stopped_after p (x ∷ l) h = ap (λ s. after s.at l) (stopped_stays p x h) ∙ stopped_after p l h

-- "prints its number and `bad`, then stops"
pub nothing_follows : (p : At) (l : List (List ℕ)) → p.run.stopped ≡ true → lines_of p l ≡ []
nothing_follows p [] h = refl
nothing_follows p (x ∷ l) h = ap (λ s. s.line ++ lines_of s.at l) (stopped_stays p x h) ∙ nothing_follows p l h

-- a record that does not stop the run
goes_by : (k : Kind) (p : At) (x : List ℕ) → p.run.stopped ≡ false
    → ((step_by k p x).at.run.stopped ≡ true) ⊎ ((step_by k p x).at.run.number ≡ (p.run.number + 1) % 2 ^ 64) × ((step_by k p x).at.run.stopped ≡ false)
goes_by Lost p x h = inr (refl, h)
goes_by Frame p x h = inr (refl, h)
goes_by Bad p x h = inl refl

differ : true ≡ false → ⊥
differ e = let z : ◌≡◌ {A = ℕ} 0 1 = cc in omega arith

goes : (p : At) (x : List ℕ) → p.run.stopped ≡ false
    → ((step p x).at.run.stopped ≡ true) ⊎ ((step p x).at.run.number ≡ (p.run.number + 1) % 2 ^ 64) × ((step p x).at.run.stopped ≡ false)
goes p x h = rw (kind_step p x (kind_of x) h refl) (goes_by (kind_of x) p x h)

numbered_from : (p : At) (l : List (List ℕ)) → p.run.number < 2 ^ 64 → p.run.stopped ≡ false → (after p l).run.stopped ≡ false
    → (after p l).run.number ≡ (p.run.number + length l) % 2 ^ 64
numbered_from p [] n h k = sym (mod-eq_of_lt (omega arith)) ∙ ap (λ m. m % 2 ^ 64) (sym (add-zero p.run.number))
numbered_from p (x ∷ l) n h k =
    ⊎_elim
    (λ s. let z : true ≡ false = sym s ∙ ap (λ q. q.run.stopped) (sym (stopped_after (step p x).at l s)) ∙ k in absurd (differ z))
    (λ s. let e : (step p x).at.run.number ≡ (p.run.number + 1) % 2 ^ 64 = s.0 in
    let b : (p.run.number + 1) % 2 ^ 64 < 2 ^ 64 = mod-lt (p.run.number + 1) {m = 2 ^ 64} (omega arith) in
    let m : p.run.number + 1 + length l ≡ p.run.number + suc (length l) = omega arith in
    numbered_from (step p x).at l (omega arith) s.1 k
    ∙ ap (λ w. (w + length l) % 2 ^ 64) e
    ∙ mod-add-mod (p.run.number + 1) (2 ^ 64) (length l)
    ∙ ap (λ w. w % 2 ^ 64) m)
    (goes p x h)

-- "Records count from 0": as long as no record is bad, the next record's number is how many there were, in 64 bits
pub numbered : (l : List (List ℕ)) → (after powered l).run.stopped ≡ false → (after powered l).run.number ≡ length l % 2 ^ 64
numbered l h = numbered_from powered l (omega arith) refl h ∙ ap (λ n. n % 2 ^ 64) (zero-add (length l))
