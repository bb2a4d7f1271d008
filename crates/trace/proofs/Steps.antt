-- One record: what it leaves, and its line in the text.
-- Assumes nothing.
use Rattle.std.proofs.Common.{◌≡◌, ℕ, ◌+◌, ◌-◌, Bool, true, false, cond, ◌&&◌, eqb, List, [], ◌∷◌, ◌++◌, length, take, drop, sym, refl, ap, ◌∙◌, add-zero, arith, length-drop, take-append-drop, take_all, eqb-true}
use Rattle.station.specs.declared.Outcome.{Outcome}
use Rattle.answers.specs.Answers.{answer_number}
use Rattle.station.specs.States.{state_number}
use Rattle.payload.specs.Memory.{put}
use Rattle.frame.specs.declared.Counts.{Counts}
use Rattle.frame.specs.declared.FrameOutcome.{FrameOutcome}
use Rattle.frame.specs.Given.{Lent, arriving}
use Rattle.frame.specs.Frame.{FrameLeft, leaving, no_counts, frame_left}
use Rattle.engine.specs.Lods.{lost_left}
use Rattle.trace.specs.declared.records.Kind.{Kind}
use Rattle.trace.specs.declared.records.Kind.TheVariants.{Lost, Frame, Bad}
use Rattle.trace.specs.declared.records.Run.{Run}
use Rattle.trace.specs.Lines.{spaced, bad_line}
use Rattle.trace.specs.Records.{kind_of}
use Rattle.trace.specs.Runs.{At, Shown, onward, stop, line_of, step_to, step_by, step, shown_by}

-- the line's numbers, as the calls gave them
pub line_made : (number : ℕ) (o : Outcome) (c : Counts) (answer state records replies bytes : ℕ) → answer ≡ answer_number o.answer
    → state ≡ state_number o.station.activation
    → records ≡ c.records
    → replies ≡ c.replies
    → bytes ≡ c.bytes
    → spaced (number ∷ answer ∷ state ∷ records ∷ replies ∷ bytes ∷ []) ≡ line_of number o c
line_made number o c answer state records replies bytes a s r p b = λ i. spaced (number ∷ a i ∷ s i ∷ r i ∷ p i ∷ b i ∷ [])

-- nothing put is nothing changed
pub put-nothing : (l : List ℕ) (at : ℕ) → l ≡ put l at []
unfolding put
put-nothing l at = sym (ap (λ n. take at l ++ drop n l) (add-zero at) ∙ take-append-drop at l)

pub stopped_step : (p : At) (x text : List ℕ) (place : ℕ) → p.run.stopped ≡ true
    → ◌≡◌ {A = Shown} (record { at = p; text = text; place = place }) (shown_by (step p x) text place)
unfolding step
stopped_step p x text place h =
    let made : ◌≡◌ {A = Shown} (record { at = p; text = text; place = place }) (shown_by (record { at = p; line = [] }) text place) =
    λ i. record { at = p; text = put-nothing text place i; place = sym (add-zero place) i } in
    made ∙ ap (λ b. shown_by (cond b (record { at = p; line = [] }) (step_by (kind_of x) p x)) text place) (sym h)

pub kind_step : (p : At) (x : List ℕ) (k : Kind) → p.run.stopped ≡ false → k ≡ kind_of x → step p x ≡ step_by k p x
unfolding step
kind_step p x k h e = ap (λ b. cond b (record { at = p; line = [] }) (step_by (kind_of x) p x)) h ∙ ap (λ z. step_by z p x) (sym e)

-- a record whose call left l
stepped : (p : At) (x : List ℕ) (l : FrameLeft) (run : Run) (text new : List ℕ) (place next : ℕ) → step p x ≡ step_to p l
    → run ≡ onward p.run l.outcome.station
    → new ≡ put text place (line_of p.run.number l.outcome l.counts)
    → next ≡ place + length (line_of p.run.number l.outcome l.counts)
    → ◌≡◌ {A = Shown} (record { at = record { run = run; lent = l.lent }; text = new; place = next }) (shown_by (step p x) text place)
stepped p x l run text new place next e er et en =
    let made
    : ◌≡◌ {A = Shown} (record { at = record { run = run; lent = l.lent }; text = new; place = next }) (shown_by (step_to p l) text place) =
    λ i. record { at = record { run = er i; lent = l.lent }; text = et i; place = en i } in
    made ∙ ap (λ s. shown_by s text place) (sym e)

module _ (p : At) (x : List ℕ) (k : Kind) (goes : p.run.stopped ≡ false) (kind : k ≡ kind_of x) (text new : List ℕ) (place next : ℕ) (run : Run) where
  -- a lost frame time writes nothing
  pub lost_step : k ≡ Lost → (o : Outcome) (c : Counts) → o ≡ lost_left p.run.station → c ≡ no_counts
      → run ≡ onward p.run o.station
      → new ≡ put text place (line_of p.run.number o c)
      → next ≡ place + length (line_of p.run.number o c)
      → ◌≡◌ {A = Shown} (record { at = record { run = run; lent = p.lent }; text = new; place = next }) (shown_by (step p x) text place)
  lost_step ek o c eo ec =
      stepped p x (record { outcome = o; counts = c; lent = p.lent }) run text new place next
      (kind_step p x k goes kind ∙ ap (λ z. step_by z p x) ek ∙ (λ i. step_to p (record { outcome = sym eo i; counts = sym ec i; lent = p.lent })))

  pub frame_step : k ≡ Frame → (r : FrameOutcome) (lent : Lent)
      → leaving r lent ≡ frame_left p.run.station (arriving (take (length x - 4) (drop 4 x)) 0) p.lent
      → run ≡ onward p.run r.station
      → new ≡ put text place (line_of p.run.number (record { answer = r.answer; station = r.station }) r.counts)
      → next ≡ place + length (line_of p.run.number (record { answer = r.answer; station = r.station }) r.counts)
      → ◌≡◌ {A = Shown} (record { at = record { run = run; lent = lent }; text = new; place = next }) (shown_by (step p x) text place)
  frame_step ek r lent eo =
      let f : take (length x - 4) (drop 4 x) ≡ drop 4 x = take_all (length x - 4) (drop 4 x) (simp length-drop (omega arith)) in
      stepped p x (leaving r lent) run text new place next
      (kind_step p x k goes kind ∙ ap (λ z. step_by z p x) ek ∙ ap (step_to p) (sym (eo ∙ ap (λ z. frame_left p.run.station (arriving z 0) p.lent) f)))

  pub bad_step : k ≡ Bad → run ≡ stop p.run → new ≡ put text place (bad_line p.run.number) → next ≡ place + length (bad_line p.run.number)
      → ◌≡◌ {A = Shown} (record { at = record { run = run; lent = p.lent }; text = new; place = next }) (shown_by (step p x) text place)
  bad_step ek er et en =
      let made
      : ◌≡◌ {A = Shown} (record { at = record { run = run; lent = p.lent }; text = new; place = next }) (shown_by (step_by Bad p x) text place) =
      λ i. record { at = record { run = er i; lent = p.lent }; text = et i; place = en i } in
      made ∙ ap (λ s. shown_by s text place) (sym (kind_step p x k goes kind ∙ ap (λ z. step_by z p x) ek))

-- ---- a record that is a frame is whole

length_right : (b r : Bool) (k : Kind) → cond (b && r) k Bad ≡ Frame → b ≡ true
length_right true r k e = refl
length_right false r k e = let z : ◌≡◌ {A = ℕ} 0 1 = cc in absurd (omega arith)

pub frame_whole : (x : List ℕ) (k : Kind) → k ≡ kind_of x → k ≡ Frame → length x ≡ 1024
unfolding kind_of
frame_whole x k e f = eqb-true (length x) 1024 (length_right (eqb (length x) 1024) _ _ (sym e ∙ f))
