-- The walk that names, an entry at a time.
-- Assumes nothing.
use Prim.Native.Nat.{ℕ, zero, suc, ◌+◌, ◌-◌, ◌≤◌, ◌<◌}
use mathlib.Core.Path.{◌≡◌, ◌∙◌, refl, sym, ap, ap₂}
use mathlib.Core.List.{List, [], ◌∷◌, ◌++◌, append_assoc}
use mathlib.Core.Bool.{Bool, true, false, cond}
use native.Mathlib.Omega.{arith}
use native.Mathlib.Numerals.{add-one}
use native.Mathlib.Nat.{add-zero, zero-add}
use lib.Dec.{ltb}
use lib.ListN.{length, drop, set, replicate, length-replicate}
use lib.Seq.{sets, sets-eq}
use borrow.Author.Tests.{lt-ltb, le-ltb}
use Rattle.xgtc.specs.declared.allocation.Allocation.{Allocation}
use Rattle.xgem.specs.Writes.{put}
use Rattle.entries.specs.declared.Own.{Own}
use Rattle.entries.specs.declared.Verdict.{Verdict}
use Rattle.entries.specs.declared.Verdict.TheVariants.{ContinuingNothing, Seventeenth, Silent}
use Rattle.entries.specs.declared.Standing.{Standing}
use Rattle.entries.specs.declared.Standing.TheVariants.{Apart, Head, More}
use Rattle.entries.specs.Standings.{standing, is_planned_lem}
use Rattle.entries.specs.Names.{name_number}
use Rattle.entries.proofs.Facts.{silent-apart}
use Rattle.station.specs.States.{silent}
use Rattle.series.specs.Limits.{entries_a_burst}
use Rattle.series.specs.declared.Around.{Around}
use Rattle.series.specs.declared.Open.{Open}
use Rattle.series.specs.Series.{entry_at, entry_count, standings_from, run, series_at, grants, words_of, end_of, outset, beyond, judged, verdict_of}
use Rattle.series.specs.Opens.{closed, opened, joined, goes_on_lem, Modest}
use Rattle.series.proofs.Judged.{planned_facts}
use Rattle.series.proofs.Opens.{goes_on_facts, full_or_none, closed-modest, more_words}
use Rattle.bwmap.specs.Turns.{rest}
use Rattle.bwmap.specs.Verdicts.{Role, alone, joins, roles, verdicts_of}
use Rattle.bwmap.specs.Names.{name_numbers, names_of}
use Rattle.bwmap.specs.Courses.{left, past, excess, behind, ended, told, to_tell, named_from, Steady}
use Rattle.bwmap.specs.declared.names.Course.{Course}
use Rattle.bwmap.proofs.Laws.{rest_cons, rest_nil}
use Rattle.bwmap.proofs.Steps.{sets_append, length-standings}
use borrow.Rule.Slice.PartMut.{put_mid}
use Rattle.std.proofs.lemmas.List.{drop-drop, length-replicate}
use Rattle.std.proofs.lemmas.List.Edits.{sets-eq}
use Rattle.bwmap.proofs.Called.{left_nil, left-apart, left_head}

-- ---- one name over and over

pub filled
    : (at count k n name : ℕ) (p part : List ℕ) → at + count ≤ length p → k ≡ count → n ≡ count → part ≡ replicate n name
    → put_mid at k p part ≡ sets p at (replicate count name)
filled at count k n name p part h ek en e =
    let r : at + length (replicate count name) ≤ length p = simp length-replicate h in
    rw (e, ek, en, sets-eq (replicate count name) p at r, length-replicate count name, ← drop-drop count at p, append_assoc)

-- ---- names and their numbers

numbers-append : (x y : List Verdict) → name_numbers (x ++ y) ≡ name_numbers x ++ name_numbers y
numbers-append [] y = refl
numbers-append (v ∷ x) y = ap (λ (l : List ℕ). name_number v ∷ l) (numbers-append x y)

numbers-same : (k : ℕ) (v : Verdict) → name_numbers (replicate k v) ≡ replicate k (name_number v)
numbers-same zero v = refl
numbers-same (suc k) v = ap (λ (l : List ℕ). name_number v ∷ l) (numbers-same k v)

shift : (k : ℕ) (v : Verdict) (y : List Verdict) → v ∷ (replicate k v ++ y) ≡ replicate k v ++ (v ∷ y)
shift zero v y = refl
shift (suc k) v y = ap (λ (l : List Verdict). v ∷ l) (shift k v y)

-- ---- verdicts

-- where no series is open, the verdict on the one that is does not matter
stray : (around : Around) (v w : Verdict) (l : List Standing) → verdicts_of around v (roles 0 l) ≡ verdicts_of around w (roles 0 l)
stray around v w [] = refl
stray around v w (Apart x ∷ l) = ap (λ (z : List Verdict). x ∷ z) (stray around v w l)
stray around v w (Head a ∷ l) = refl
stray around v w (More a ∷ l) = ap (λ (z : List Verdict). ContinuingNothing ∷ z) (stray around v w l)

-- one for each entry
length-verdicts : (around : Around) (v : Verdict) (k : ℕ) (l : List Standing) → length (name_numbers (verdicts_of around v (roles k l))) ≡ length l
length-verdicts around v k [] = refl
length-verdicts around v k (Apart x ∷ l) = ap suc (length-verdicts around v 0 l)
length-verdicts around v k (Head a ∷ l) =
    let u = verdict_of around (series_at a l) in
    ap suc (go (is_planned_lem u) (verdicts_of (beyond around (series_at a l)) u (roles 1 l)) (verdicts_of around u (roles 1 l)) (length-verdicts (beyond around (series_at a l)) u 1 l) (length-verdicts around u 1 l))
  where
    go : (b : Bool) (x y : List Verdict) → length (name_numbers x) ≡ length l → length (name_numbers y) ≡ length l → length (name_numbers (cond b x y)) ≡ length l
    go true x y p q = p
    go false x y p q = q
length-verdicts around v zero (More a ∷ l) = ap suc (length-verdicts around v 0 l)
length-verdicts around v (suc k) (More a ∷ l) = go (ltb (suc k) entries_a_burst) (length-verdicts around v (suc (suc k)) l) (length-verdicts around v 0 l)
  where
    go
        : (b : Bool) → length (name_numbers (verdicts_of around v (roles (suc (suc k)) l))) ≡ length l → length (name_numbers (verdicts_of around v (roles 0 l))) ≡ length l
        → length (name_numbers (verdicts_of around v (cond b (joins ∷ roles (suc (suc k)) l) (alone Seventeenth ∷ roles 0 l)))) ≡ suc (length l)
    go true p q = ap suc p
    go false p q = ap suc q

-- an entry of ours that continues and goes no series on stands by itself
unjoined : (k : ℕ) (a : Allocation) (l : List Standing) → (0 < k → 15 < k) → roles k (More a ∷ l) ≡ alone (excess k) ∷ roles 0 l
unjoined zero a l h = refl
unjoined (suc k) a l h = rw (le-ltb (suc k) 16 (h (omega arith)))

-- and no series has it among what is left
left_full : (k : ℕ) (l : List Standing) → (0 < k → 15 < k) → left k l ≡ []
left_full zero l h = refl
left_full (suc k) l h =
    let f = h (omega arith) in
    let e : 15 - k ≡ 0 = omega arith in
    rw e

-- a head, as what is still to come sees it
opening
    : (around : Around) (k : ℕ) (v : Verdict) (a : Allocation) (l : List Standing)
    → verdicts_of around v (roles k (Head a ∷ l)) ≡ told around 1 (verdict_of around (series_at a l)) (end_of (series_at a l)) l
opening around k v a l =
    ap (λ (z : List Verdict). verdict_of around (series_at a l) ∷ z) (go (is_planned_lem (verdict_of around (series_at a l))) (beyond around (series_at a l)) around)
  where
    go
        : (b : Bool) (x y : Around)
        → cond b (verdicts_of x (verdict_of around (series_at a l)) (roles 1 l)) (verdicts_of y (verdict_of around (series_at a l)) (roles 1 l))
        ≡ verdicts_of (cond b x y) (verdict_of around (series_at a l)) (roles 1 l)
    go true x y = refl
    go false x y = refl

joining
    : (around : Around) (k start words : ℕ) (a : Allocation) (l : List Standing) → 0 < k → k ≤ 15
    → to_tell around (k + 1) start (words + a.grant) l ≡ to_tell around k start words (More a ∷ l)
joining around zero start words a l h f =
    let z : ⊥ = omega arith in
    absurd z
joining around (suc k) start words a l h f =
    let d : 15 - k ≡ suc (15 - suc k) = omega arith in
    let t : ltb (suc k) 16 ≡ true = lt-ltb (suc k) 16 (omega arith) in
    let e : words + a.grant + grants (run (15 - suc k) l) ≡ words + (a.grant + grants (run (15 - suc k) l)) = omega arith in
    rw (add-one (suc k), d, t, e)
    (shift (suc k) (judged around start (words + (a.grant + grants (run (15 - suc k) l)))) _)

-- ---- a series ends

module _ (p : List ℕ) (i : ℕ) where
  written-series
      : (k : ℕ) (v : Verdict) (l : List Verdict) → k ≤ i
      → sets (sets p (i - k) (replicate k (name_number v))) i (name_numbers l) ≡ sets p (i - k) (name_numbers (replicate k v ++ l))
  written-series k v l h =
      let e : i - k + length (replicate k (name_number v)) ≡ i = omega (arith, length-replicate k (name_number v)) in
      let f : name_numbers (replicate k v ++ l) ≡ replicate k (name_number v) ++ name_numbers l = numbers-append (replicate k v) l ∙ ap (λ (x : List ℕ). x ++ name_numbers l) (numbers-same k v) in
      sym
      (ap (sets p (i - k)) f
      ∙ sets_append p (i - k) (replicate k (name_number v)) (name_numbers l)
      ∙ ap (λ (j : ℕ). sets (sets p (i - k) (replicate k (name_number v))) j (name_numbers l)) e)

  -- what is still to come, behind a series that ends
  closing
      : (around : Around) (s : Open) (l : List Standing) → s.entries ≤ i → left s.entries l ≡ []
      → sets (ended p i around s) i (name_numbers (verdicts_of (behind around s) (judged around s.start s.words) (roles s.entries l)))
      ≡ sets p (i - s.entries) (name_numbers (to_tell around s.entries s.start s.words l))
  closing around s l h stops =
      let e : s.words ≡ s.words + grants (left s.entries l) = sym (ap (λ (z : List Allocation). s.words + grants z) stops ∙ add-zero s.words) in
      written-series s.entries (judged around s.start s.words) (verdicts_of (behind around s) (judged around s.start s.words) (roles s.entries l)) h
      ∙ ap (λ (z : ℕ). sets p (i - s.entries) (name_numbers (told around s.entries (judged around s.start z) (s.start + z) l))) e

-- ---- a series that ends, as the code judges it

module _ (around : Around) (s : Open) (v : Verdict) (hv : v ≡ judged around s.start s.words) where
  past_open : (k : ℕ) → 0 < k → past k around v (s.start + s.words) ≡ cond (is_planned_lem v) (record { end = s.start + s.words; bursts = around.bursts + 1 }) around
  past_open zero h =
      let z : ⊥ = omega arith in
      absurd z
  past_open (suc k) h = refl

  behind-by : 0 < s.entries → behind around s ≡ cond (is_planned_lem v) (record { end = s.start + s.words; bursts = around.bursts + 1 }) around
  behind-by h = ap (λ (z : Verdict). past s.entries around z (s.start + s.words)) (sym hv) ∙ past_open s.entries h

  pub moved : 0 < s.entries → is_planned_lem v ≡ true → record { end = s.start + s.words; bursts = around.bursts + 1 } ≡ behind around s
  moved h f = sym (behind-by h ∙ rw f)

  pub unmoved : 0 < s.entries → is_planned_lem v ≡ false → around ≡ behind around s
  unmoved h f = sym (behind-by h ∙ rw f)

  pub few-before : is_planned_lem v ≡ true → around.bursts < 4
  few-before f = (planned_facts around s.start s.words (ap is_planned_lem (sym hv) ∙ f)).2

  pub series-named : (p q : List ℕ) (i n : ℕ) → n ≡ name_number v → q ≡ sets p (i - s.entries) (replicate s.entries n) → q ≡ ended p i around s
  series-named p q i n hn hq = hq ∙ ap (λ (z : ℕ). sets p (i - s.entries) (replicate s.entries z)) (hn ∙ ap name_number hv)

-- ---- one entry further

module _
    (own : Own) (m p : List ℕ) (i : ℕ) (w : Course) (x : Standing) (h : i < entry_count m) (is : x ≡ standing own (entry_at m i)) (ok : Steady w i)
    (q : List ℕ) (r : Course) where
  here : (y : Standing) → x ≡ y → rest own m i ≡ y ∷ rest own m (i + 1)
  here y e = rest_cons own m i h ∙ ap (λ (z : Standing). z ∷ rest own m (i + 1)) (sym is ∙ e)

  full : goes_on_lem w.series ≡ false → 0 < w.series.entries → 15 < w.series.entries
  full f o = omega (arith, full_or_none w.series (w.series.entries - 1) f (omega arith))

  by_itself
      : (v : Verdict) → roles w.series.entries (rest own m i) ≡ alone v ∷ roles 0 (rest own m (i + 1)) → left w.series.entries (rest own m i) ≡ []
      → r ≡ record { around = behind w.around w.series; series = closed } → q ≡ set (ended p i w.around w.series) i (name_number v)
      → Steady r (i + 1) × (named_from own m q (i + 1) r ≡ named_from own m p i w)
  by_itself v f stops hr hq =
      let e : i + 1 - 0 ≡ suc i = omega arith in
      rw hr (
        record { small = closed-modest closed refl; lies = omega arith },
        ap₂ (λ (j : ℕ) (z : List Verdict). sets q j (name_numbers z)) e (stray (behind w.around w.series) _ (judged w.around w.series.start w.series.words) (rest own m (i + 1)))
            ∙ ap (λ (z : List ℕ). sets z (suc i) (name_numbers (verdicts_of (behind w.around w.series) (judged w.around w.series.start w.series.words) (roles 0 (rest own m (i + 1)))))) hq
            ∙ ap (λ (z : List Role). sets (ended p i w.around w.series) i (name_numbers (verdicts_of (behind w.around w.series) (judged w.around w.series.start w.series.words) z))) (sym f)
            ∙ closing p i w.around w.series (rest own m i) ok.lies stops,
      )

  pub apart_next
      : (v : Verdict) → x ≡ Apart v
      → r ≡ record { around = behind w.around w.series; series = closed } → q ≡ set (ended p i w.around w.series) i (name_number v)
      → Steady r (i + 1) × (named_from own m q (i + 1) r ≡ named_from own m p i w)
  apart_next v e =
      by_itself v (ap (roles w.series.entries) (here (Apart v) e))
      (ap (left w.series.entries) (here (Apart v) e) ∙ left-apart w.series.entries v (rest own m (i + 1)))

  pub excess-next
      : (a : Allocation) → x ≡ More a → goes_on_lem w.series ≡ false
      → r ≡ record { around = behind w.around w.series; series = closed } → q ≡ set (ended p i w.around w.series) i (name_number (excess w.series.entries))
      → Steady r (i + 1) × (named_from own m q (i + 1) r ≡ named_from own m p i w)
  excess-next a e f =
      by_itself (excess w.series.entries)
      (ap (roles w.series.entries) (here (More a) e) ∙ unjoined w.series.entries a (rest own m (i + 1)) (full f))
      (left_full w.series.entries (rest own m i) (full f))

  pub head-next
      : (a : Allocation) → x ≡ Head a → (b : Around) (s : Open) → b ≡ behind w.around w.series → s ≡ opened a → Modest s
      → r ≡ record { around = b; series = s } → q ≡ ended p i w.around w.series
      → Steady r (i + 1) × (named_from own m q (i + 1) r ≡ named_from own m p i w)
  head-next a e b s hb hs small hr hq =
      let d : i + 1 - 1 ≡ i = omega arith in
      let f : words_of a 0 + grants (run 15 (rest own m (i + 1))) ≡ words_of a (grants (run 15 (rest own m (i + 1)))) = more_words a 0 (grants (run 15 (rest own m (i + 1)))) ∙ ap (words_of a) (zero-add (grants (run 15 (rest own m (i + 1))))) in
      rw hr (
        record { small = small; lies = rw hs (omega arith) },
        rw (hs, hb, hq)
            (ap₂ (λ (j z : ℕ). sets (ended p i w.around w.series) j (name_numbers (told (behind w.around w.series) 1 (judged (behind w.around w.series) a.start z) (a.start + z) (rest own m (i + 1))))) d f
            ∙ ap (λ (z : List Verdict). sets (ended p i w.around w.series) i (name_numbers z)) (sym (opening (behind w.around w.series) w.series.entries (judged w.around w.series.start w.series.words) a (rest own m (i + 1))))
            ∙ ap (λ (z : List Standing). sets (ended p i w.around w.series) i (name_numbers (verdicts_of (behind w.around w.series) (judged w.around w.series.start w.series.words) (roles w.series.entries z)))) (sym (here (Head a) e))
            ∙ closing p i w.around w.series (rest own m i) ok.lies (ap (left w.series.entries) (here (Head a) e) ∙ left_head w.series.entries a (rest own m (i + 1)))),
      )

  pub more-next
      : (a : Allocation) → x ≡ More a → (s : Open) → s ≡ joined w.series a → Modest s → goes_on_lem w.series ≡ true
      → r ≡ record { around = w.around; series = s } → q ≡ p
      → Steady r (i + 1) × (named_from own m q (i + 1) r ≡ named_from own m p i w)
  more-next a e s hs small f hr hq =
      let g = goes_on_facts w.series f in
      let d : i + 1 - (w.series.entries + 1) ≡ i - w.series.entries = omega arith in
      rw hr (
        record { small = small; lies = rw hs (omega (arith, ok.lies)) },
        rw (hs, hq)
            (ap₂ (λ (j : ℕ) (z : List Verdict). sets p j (name_numbers z)) d (joining w.around w.series.entries w.series.start w.series.words a (rest own m (i + 1)) g.0 g.1)
            ∙ ap (λ (z : List Standing). sets p (i - w.series.entries) (name_numbers (to_tell w.around w.series.entries w.series.start w.series.words z))) (sym (here (More a) e))),
      )

-- ---- the whole walk

module _ (own : Own) (m : List ℕ) where
  -- where it begins
  pub from-outset
      : (p : List ℕ) (w : Course) (carried end : ℕ) (s : Open) → w ≡ record { around = record { end = end; bursts = 0 }; series = s } → end ≡ carried → s ≡ closed
      → Steady w 0 × (named_from own m p 0 w ≡ sets p 0 (names_of own m carried))
  from-outset p w carried end s hw he hs =
      let e : entry_count m - 0 ≡ entry_count m = omega arith in
      rw (hw, he, hs) (
        record { small = closed-modest closed refl; lies = omega arith },
        ap (λ (z : List Verdict). sets p 0 (name_numbers z)) (stray (outset carried) _ ContinuingNothing (rest own m 0))
            ∙ ap (λ (k : ℕ). sets p 0 (name_numbers (verdicts_of (outset carried) ContinuingNothing (roles 0 (standings_from own m 0 k))))) e,
      )

  -- and where it ends
  pub all_named
      : (p q : List ℕ) (i : ℕ) (w : Course) → entry_count m ≤ i → Steady w i → q ≡ ended p i w.around w.series → q ≡ named_from own m p i w
  all_named p q i w h ok hq =
      hq ∙ closing p i w.around w.series [] ok.lies (left_nil w.series.entries)
      ∙ ap (λ (z : List Standing). sets p (i - w.series.entries) (name_numbers (to_tell w.around w.series.entries w.series.start w.series.words z))) (sym (rest_nil own m i h))

  length-names : (carried : ℕ) → length (names_of own m carried) ≡ entry_count m
  length-names carried = length-verdicts (outset carried) ContinuingNothing 0 (standings_from own m 0 (entry_count m)) ∙ length-standings own m 0 (entry_count m)

  pub names-put : (p : List ℕ) (carried : ℕ) → entry_count m ≤ length p → sets p 0 (names_of own m carried) ≡ put p (names_of own m carried)
  names-put p carried h =
      let fits : 0 + length (names_of own m carried) ≤ length p = omega (arith, length-names carried) in
      sets-eq (names_of own m carried) p 0 fits ∙ ap (λ (k : ℕ). names_of own m carried ++ drop k p) (zero-add (length (names_of own m carried)))

  -- ---- a state that sends nothing

  silent-verdicts
      : (around : Around) (v : Verdict) (i j : ℕ) → silent own.activation ≡ true → verdicts_of around v (roles 0 (standings_from own m i j)) ≡ replicate j Silent
  silent-verdicts around v i zero h = refl
  silent-verdicts around v i (suc j) h = rw (silent-apart own (entry_at m i) h) (ap (λ (l : List Verdict). Silent ∷ l) (silent-verdicts around v (suc i) j h))

  pub silent-names
      : (p q : List ℕ) (carried : ℕ) → silent own.activation ≡ true → entry_count m ≤ length p → q ≡ sets p 0 (replicate (entry_count m) (name_number Silent))
      → q ≡ put p (names_of own m carried)
  silent-names p q carried h room hq =
      hq
      ∙ ap (sets p 0) (sym (ap name_numbers (silent-verdicts (outset carried) ContinuingNothing 0 (entry_count m) h) ∙ numbers-same (entry_count m) Silent))
      ∙ names-put p carried room
