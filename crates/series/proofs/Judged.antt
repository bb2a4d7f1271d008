-- The verdict on a series.
-- Assumes nothing.
use Prim.Native.Nat.{ℕ, ◌≤◌, ◌<◌}
use mathlib.Core.Path.{◌≡◌, refl}
use mathlib.Core.List.{List, [], ◌∷◌}
use mathlib.Core.Bool.{Bool, true, false, cond, false≢true}
use lib.Dec.{leb, ltb}
use borrow.Author.Tests.{ltb-false, leb-false, le-leb}
use Rattle.entries.specs.declared.Verdict.TheVariants.{Planned, TooLong, Overlapping, AfterTheLast}
use Rattle.entries.specs.Standings.{is_planned_lem}
use Rattle.series.specs.Limits.{words_a_burst, bursts_a_frame}
use Rattle.series.specs.declared.Around.{Around}
use Rattle.series.specs.Series.{Series, burst_words, judged, planned}

passes : (a b d : Bool) → is_planned_lem (cond a TooLong (cond b Overlapping (cond d AfterTheLast Planned))) ≡ true → (a ≡ false) × (b ≡ false) × (d ≡ false)
passes true b d h = absurd (false≢true h)
passes false true d h = absurd (false≢true h)
passes false false true h = absurd (false≢true h)
passes false false false h = (refl, refl, refl)

pub planned_facts : (around : Around) (start words : ℕ) → is_planned_lem (judged around start words) ≡ true → (words ≤ words_a_burst) × (around.end ≤ start) × (around.bursts < bursts_a_frame)
unfolding judged
planned_facts around start words h =
    let t = passes (ltb words_a_burst words) (ltb start around.end) (leb bursts_a_frame around.bursts) h in
    (ltb-false words_a_burst words t.0, ltb-false start around.end t.1, leb-false bursts_a_frame around.bursts t.2)

full : (a b : Bool) → is_planned_lem (cond a TooLong (cond b Overlapping AfterTheLast)) ≡ false
full true b = refl
full false true = refl
full false false = refl

-- after the last that a frame may have, nothing is planned
pub none_after : (around : Around) (start words : ℕ) → bursts_a_frame ≤ around.bursts → is_planned_lem (judged around start words) ≡ false
unfolding judged
none_after around start words h = rw (le-leb bursts_a_frame around.bursts h) (full (ltb words_a_burst words) (ltb start around.end))

pub planned_full : (around : Around) (l : List Series) → bursts_a_frame ≤ around.bursts → planned around l ≡ []
planned_full around [] h = refl
planned_full around (s ∷ l) h = rw (none_after around s.head.start (burst_words s) h) (planned_full around l h)
