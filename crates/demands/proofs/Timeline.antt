-- The bursts of a run are those of its frame times, one after another, so that no upstream word is taken twice.
-- Assumes nothing.
use Prim.Native.Nat.{ℕ, ◌+◌, ◌-◌, ◌*◌, ◌≤◌}
use native.Mathlib.Omega.{arith}
use mathlib.Core.Path.{◌≡◌, ◌∙◌, refl, sym, ap, ap₂}
use mathlib.Core.Bool.{Bool, true, false, cond}
use mathlib.Core.List.{List, [], ◌∷◌, ◌++◌}
use Rattle.xgtc.specs.declared.allocation.Allocation.{Allocation}
use Rattle.xgtc.specs.declared.hlend.Hlend.{Hlend}
use Rattle.station.specs.declared.Station.{Station}
use Rattle.answers.specs.declared.Answer.{Answer}
use Rattle.answers.specs.declared.Answer.TheVariants.{Done, StateOutOfRange, FrameLengthUnfit, BufferTooShort, HlendUnreadable, HeaderTooLong}
use Rattle.answers.specs.Answers.{answer_number}
use Rattle.station.specs.Limits.{upstream_words}
use Rattle.timing.specs.Timing.{silence, lost_time_lem, unread_time_lem}
use Rattle.messages.specs.Receiving.{receive_all, messages_in}
use Rattle.series.specs.Limits.{ploamu_words}
use Rattle.series.specs.Series.{Series, grants, words_of, burst_words, last_end, planned_of}
use Rattle.plan.specs.Laser.{grants_of, burst_of, bursts_of}
use Rattle.bwmap.specs.Upstream.{FrameTime, dark, Burst, finish, carry, bursts, takers}
use Rattle.bwmap.specs.Upstream as upstream
use Rattle.bwmap.proofs.Once.{times-apart, at_most_one}
use Rattle.plan.proofs.ReadBack.{laser-obeys}
use Rattle.invariants.proofs.InRange.{Sound}
use Rattle.frame.specs.Given.{Arrival, Lent}
use Rattle.downstream.specs.Partitions.{map_of, messages_of}
use Rattle.station.specs.States.{is_ranging_lem}
use Rattle.frame.specs.Frame.{FrameLeft, refused, unread, own_of, planned_in, found_by, next, done, handled, frame_left}
use Rattle.engine.specs.Answers.{Handled, Row}
use Rattle.engine.proofs.Ranged.{carried_low}
use Rattle.engine.proofs.Table.{table}
use Rattle.demands.specs.Engine.{lingbarrow}
use Rattle.demands.specs.Runs.{Call, frame, lost, add_port_lem, remove_port_lem, give_key_lem, why_dark_lem, Buffers, Progress, lend, passes, another, after, run}
use Rattle.demands.specs.Demand3 as demand
use Rattle.demands.specs.Demand3.{sendings, granted, placed, bursts_by, bursts_from, last_finish}
use Rattle.demands.proofs.Carried.{messages_carried, end_carried, add_carried, remove_carried, key_carried}
use Rattle.demands.proofs.Runs.{Kept, call_kept, lost_history}

-- ---- a burst's words, from its records, are those of its series

granted_is : (l : List Allocation) → granted (grants_of l) ≡ grants l
granted_is [] = refl
granted_is (a ∷ l) = ap (λ (n : ℕ). a.grant + n) (granted_is l)

words_are : (s : Series) → demand.words_of (burst_of s) ≡ burst_words s
unfolding words_of
words_are s = ap (λ (n : ℕ). 1 + cond s.head.ploamu ploamu_words 0 + (s.head.grant + n) + 1) (granted_is s.more)

placed_are : (time : ℕ) (l : List Series) → placed time (bursts_of l) ≡ bursts (upstream_words * time) l
placed_are time [] = refl
placed_are time (s ∷ l) = ap₂ (λ (n : ℕ) (r : List Burst). record { from = upstream_words * time + s.head.start; size = n } ∷ r) (words_are s) (placed_are time l)

-- ---- what a call does to time and to the words carried over

data Step (first : Station) (st : Progress) (c : Call) : Type 0 where
  still : bursts_by lingbarrow st c ≡ [] → (after lingbarrow first st c).times ≡ st.times
      → (after lingbarrow first st c).station.carried ≡ st.station.carried → Step first st c
  passed : (t : FrameTime) → bursts_by lingbarrow st c ≡ bursts (upstream_words * st.times) (upstream.sent st.station.carried t)
      → (after lingbarrow first st c).times ≡ st.times + 1
      → (after lingbarrow first st c).station.carried ≡ carry st.station.carried t → Step first st c

silent_carried : (s : Station) → Sound s → 0 ≡ carry s.carried dark
silent_carried s k = omega (arith, carried_low s k)

handled_carried : (s : Station) (hl : Hlend) (arrival : Arrival) (lent : Lent)
    → (handled s hl arrival lent).outcome.station.carried ≡ carry s.carried (upstream.frame (own_of s) (map_of hl arrival.octets))
unfolding handled done found_by next planned_in
handled_carried s hl arrival lent =
    end_carried (receive_all _ (messages_in (messages_of hl arrival.octets))) (is_ranging_lem s.activation)
    ∙ messages_carried _ (messages_in (messages_of hl arrival.octets))

handled-sent : (s : Station) (hl : Hlend) (arrival : Arrival) (lent : Lent)
    → sendings (handled s hl arrival lent) ≡ bursts_of (planned_of (own_of s) (map_of hl arrival.octets) s.carried)
unfolding handled done planned_in
handled-sent s hl arrival lent = laser-obeys (planned_in s hl arrival) lent.plan

unread_carried : (s : Station) → (unread_time_lem s).carried ≡ 0
unfolding unread_time_lem silence
unread_carried s = refl

lost_carried : (s : Station) → (lost_time_lem s).carried ≡ 0
unfolding lost_time_lem silence
lost_carried s = refl

module _ (first : Station) (st : Progress) (arrival : Arrival) (b : Buffers) (k : Sound st.station) where
  left : FrameLeft
  left = frame_left st.station arrival (lend st b)

  abbrev number : ℕ
  number = answer_number (frame_left st.station arrival (lend st b)).outcome.answer

  number-passes : (n : ℕ) → number ≡ n → st.times + another (passes number) ≡ st.times + another (passes n)
  number-passes n e = ap (λ (x : ℕ). st.times + another (passes x)) e

  -- no time passes
  still_here : (n : ℕ) → number ≡ n → passes n ≡ false → (answer : Answer) → left ≡ refused answer st.station (lend st b) → Step first st (frame arrival b)
  unfolding left
  still_here n e p answer q =
      let z : st.times + 0 ≡ st.times = omega arith in
      still (ap (λ (x : FrameLeft). placed st.times (sendings x)) q) (number-passes n e ∙ ap (λ (x : Bool). st.times + another x) p ∙ z)
      (ap (λ (x : FrameLeft). x.outcome.station.carried) q)

  -- a time passes in which nothing is sent
  unlit : (n : ℕ) → number ≡ n → passes n ≡ true → (answer : Answer) → left ≡ unread answer st.station (lend st b) → Step first st (frame arrival b)
  unfolding left
  unlit n e p answer q =
      passed dark (ap (λ (x : FrameLeft). placed st.times (sendings x)) q) (number-passes n e ∙ ap (λ (x : Bool). st.times + another x) p)
      (ap (λ (x : FrameLeft). x.outcome.station.carried) q ∙ unread_carried st.station ∙ silent_carried st.station k)

  lit : (d : Bool) (n : ℕ) → number ≡ n → passes n ≡ true → Handled st.station arrival (lend st b) d left → Step first st (frame arrival b)
  unfolding left
  lit d n e p r =
      passed (upstream.frame (own_of st.station) (map_of r.hlend arrival.octets))
      (ap (placed st.times) (ap sendings r.leaves ∙ handled-sent st.station r.hlend arrival (lend st b)) ∙ placed_are st.times (planned_of (own_of st.station) (map_of r.hlend arrival.octets) st.station.carried))
      (number-passes n e ∙ ap (λ (x : Bool). st.times + another x) p)
      (ap (λ (x : FrameLeft). x.outcome.station.carried) r.leaves ∙ handled_carried st.station r.hlend arrival (lend st b))

  by_row : (n : ℕ) → number ≡ n → Row st.station arrival (lend st b) left n → Step first st (frame arrival b)
  by_row n e (Row.done r) = lit false 0 e refl r
  by_row n e (Row.state_out_of_range p q) = still_here 1 e refl StateOutOfRange q
  by_row n e (Row.frame_length_unfit p o q) = still_here 2 e refl FrameLengthUnfit q
  by_row n e (Row.buffer-too-short p o r q) = still_here 3 e refl BufferTooShort q
  by_row n e (Row.hlend_unreadable p o q) = unlit 4 e refl HlendUnreadable q
  by_row n e (Row.header_too_long t q) = unlit 5 e refl HeaderTooLong q
  by_row n e (Row.delineation_lost r) = lit true 6 e refl r

  frame_step : Step first st (frame arrival b)
  unfolding left
  frame_step = by_row number refl (table st.station arrival (lend st b))

step : (first : Station) (st : Progress) (c : Call) → Kept first st → Step first st c
step first st (frame arrival b) k = frame_step first st arrival b k.sound
step first st lost k =
    let e = lost_history st.station k.sound in
    passed dark refl (ap (λ x. st.times + another (passes (answer_number x.answer))) e)
    (ap (λ x. x.station.carried) e ∙ lost_carried st.station ∙ silent_carried st.station k.sound)
step first st (add_port_lem port) k = still refl refl (add_carried st.station port)
step first st (remove_port_lem port) k = still refl refl (remove_carried st.station port)
step first st (give_key_lem octets) k = still refl refl (key_carried st.station octets)
step first st (why_dark_lem f names) k = still refl refl refl

-- ---- the frame times of a run

record Timeline (first : Station) (st : Progress) (calls : List Call) : Type 0 where
  pub times : List FrameTime
  pub bursts : bursts_from lingbarrow first st calls ≡ upstream.bursts_of (upstream_words * st.times) st.station.carried times

timeline : (first : Station) (calls : List Call) (st : Progress) → Kept first st → Timeline first st calls
timeline first [] st k = record { times = []; bursts = refl }
timeline first (c ∷ l) st k = go (step first st c k) (timeline first l (after lingbarrow first st c) (call_kept first st c k))
  where
    go : Step first st c → Timeline first (after lingbarrow first st c) l → Timeline first st (c ∷ l)
    go (still n t w) rest =
        record {
          times = rest.times;
          bursts = ap (λ (x : List Burst). x ++ bursts_from lingbarrow first (after lingbarrow first st c) l) n ∙ rest.bursts
              ∙ ap₂ (λ (x y : ℕ). upstream.bursts_of (upstream_words * x) y rest.times) t w;
        }
    go (passed time n t w) rest =
        let o : upstream_words * (st.times + 1) ≡ upstream_words * st.times + upstream_words = omega arith in
        record {
          times = time ∷ rest.times;
          bursts = ap₂ ◌++◌ n (rest.bursts ∙ ap₂ (λ (x y : ℕ). upstream.bursts_of (upstream_words * x) y rest.times) t w ∙ ap (λ (x : ℕ). upstream.bursts_of x (carry st.station.carried time) rest.times) o);
        }

-- ---- the words carried over, by what the run has sent

finish_on : (o e w : ℕ) (l : List Series) → e ≡ o + w → last_finish e (bursts o l) ≡ o + last_end w l
finish_on o e w [] h = h
finish_on o e w (s ∷ l) h = finish_on o (o + s.head.start + burst_words s) (s.head.start + burst_words s) l (omega arith)

beyond_on : (o e w : ℕ) (l : List Series) → w ≡ e - o → last_finish e (bursts o l) - (o + upstream_words) ≡ last_end w l - upstream_words
beyond_on o e w [] h = omega (arith, h)
beyond_on o e w (s ∷ l) h =
    let f = finish_on o (o + s.head.start + burst_words s) (s.head.start + burst_words s) l (omega arith) in
    rw f (omega arith)

last_finish_join : (e : ℕ) (l k : List Burst) → last_finish e (l ++ k) ≡ last_finish (last_finish e l) k
last_finish_join e [] k = refl
last_finish_join e (b ∷ l) k = last_finish_join (finish b) l k

pub carried_by
    : (first : Station) (calls : List Call) (st : Progress) → Kept first st → (e : ℕ) → st.station.carried ≡ e - upstream_words * st.times
    → let on = run lingbarrow first st calls in on.station.carried ≡ last_finish e (bursts_from lingbarrow first st calls) - upstream_words * on.times
carried_by first [] st k e h = h
carried_by first (c ∷ l) st k e h =
    rw (last_finish_join e (bursts_by lingbarrow st c) (bursts_from lingbarrow first (after lingbarrow first st c) l))
    (carried_by first l (after lingbarrow first st c) (call_kept first st c k) (last_finish e (bursts_by lingbarrow st c)) (go (step first st c k)))
  where
    go : Step first st c → (after lingbarrow first st c).station.carried ≡ last_finish e (bursts_by lingbarrow st c) - upstream_words * (after lingbarrow first st c).times
    go (still n t w) = rw (n, t, w) h
    go (passed time n t w) =
        let o : upstream_words * (st.times + 1) ≡ upstream_words * st.times + upstream_words = omega arith in
        rw (n, t, w, o) (sym (beyond_on (upstream_words * st.times) e st.station.carried (upstream.sent st.station.carried time) h))

pub no_word_shared : (first : Station) (calls : List Call) (st : Progress) → Kept first st → (word : ℕ) → takers word (bursts_from lingbarrow first st calls) ≤ 1
no_word_shared first calls st k word =
    let t = timeline first calls st k in
    let o = upstream_words * st.times in
    rw t.bursts (at_most_one word (o + st.station.carried) (upstream.bursts_of o st.station.carried t.times) (times-apart o st.station.carried t.times))
