-- One turn: what a read has brought.
-- Assumes nothing.
use Rattle.std.proofs.Common.{◌≡◌, ℕ, zero, suc, ◌+◌, ◌-◌, ◌*◌, ◌/◌, ◌≤◌, List, [], ◌∷◌, ◌++◌, length, take, drop, sym, refl, ap, ◌∙◌, ap₂, zero-add, arith, length-drop, length-take-le, take-take, take-add}
use lib.Seq.{drop-append-le}
use Rattle.payload.specs.Memory.{put}
use Rattle.trace.specs.Records.{records, wholes, whole_records, left}
use Rattle.trace.specs.Runs.{At, Shown, Turned, shown, turned}

-- the end of a front
pub drop_front : (k n : ℕ) (l : List ℕ) → k ≤ n → n ≤ length l → drop k (take n l) ≡ take (n - k) (drop k l)
drop_front k n l h g =
    let m : k + (n - k) ≡ n = omega arith in
    let e : length (take k l) ≡ k = length-take-le k l (omega arith) in
    let w : length (drop k (take k l)) ≡ 0 = length-drop k (take k l) ∙ omega arith in
    ap (λ z. drop k (take z l)) (sym m)
    ∙ ap (drop k) (take-add k (n - k) l)
    ∙ drop-append-le k (take k l) (take (n - k) (drop k l)) (omega arith)
    ∙ ap (λ z. z ++ take (n - k) (drop k l)) (none (drop k (take k l)) w)
  where
    none : (x : List ℕ) → length x ≡ 0 → x ≡ []
    none [] e = refl
    none (y ∷ x) e = absurd (omega arith)

-- records of a front are those of the whole
pub records_front : (k n : ℕ) (l : List ℕ) → k * 1024 ≤ n → n ≤ length l → records k (take n l) ≡ records k l
records_front zero n l h g = refl
records_front (suc k) n l h g =
    let g' : n - 1024 ≤ length (drop 1024 l) = simp length-drop (omega arith) in
    ap₂ ◌∷◌ (take-take 1024 n l (omega arith)) (ap (records k) (drop_front 1024 n l (omega arith) g) ∙ records_front k (n - 1024) (drop 1024 l) (omega arith) g')

-- what the code did in a turn is the turn
pub turned_made : (p : At) (input text moved : List ℕ) (filled : ℕ) (s : Shown) → filled ≤ length input
    → s ≡ shown p (records (filled / 1024) input) text 0
    → moved ≡ put input 0 (take (filled - filled / 1024 * 1024) (drop (filled / 1024 * 1024) input))
    → ◌≡◌ {A = Turned} (record { at = s.at; input = moved; kept = filled - filled / 1024 * 1024; text = s.text; written = s.place }) (turned p input filled text)
unfolding turned shown
turned_made p input text moved filled s h es em =
    let block : List ℕ = take filled input in
    let n : length block ≡ filled = length-take-le filled input h in
    let r : records (filled / 1024) input ≡ whole_records block =
    sym (ap (λ m. records (m / 1024) block) n ∙ records_front (filled / 1024) filled input (omega arith) h) in
    let l : take (filled - filled / 1024 * 1024) (drop (filled / 1024 * 1024) input) ≡ left block =
    sym (ap (λ m. drop (m / 1024 * 1024) block) n ∙ drop_front (filled / 1024 * 1024) filled input (omega arith) h) in
    let k : filled - filled / 1024 * 1024 ≡ length (left block) = sym (length-drop (wholes block * 1024) block ∙ ap (λ m. m - m / 1024 * 1024) n) in
    let e : s ≡ shown p (whole_records block) text 0 = es ∙ ap (λ z. shown p z text 0) r in
    λ i. record {
      at = (e i).at;
      input = (em ∙ ap (put input 0) l) i;
      kept = k i;
      text = (e i).text;
      written = (ap (λ z. z.place) e ∙ zero-add _) i;
    }
