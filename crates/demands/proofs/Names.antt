-- Whatever meets demand 1 gives every structure its true name, and calls those planned that are the plan's: demand 1's rows say what is
-- left, and the names that they speak of are true.
-- Assumes nothing.
use Prim.Native.Nat.{ℕ, zero, suc, ◌*◌, ◌<◌, ◌≤◌}
use native.Mathlib.Omega.{arith}
use mathlib.Core.Path.{◌≡◌, ◌∙◌, refl, sym, ap, subst}
use mathlib.Core.Logic.{◌↔◌}
use mathlib.Core.Bool.{Bool, true, false≢true}
use mathlib.Core.List.{List, [], ◌∷◌, ◌++◌}
use lib.ListN.{length, get_or, take, drop, replicate}
use lib.Seq.{take_at}
use Rattle.xgtc.specs.declared.hlend.Hlend.{Hlend}
use Rattle.xgem.specs.Reads.{fields}
use Rattle.xgem.specs.Writes.{put}
use Rattle.xgtc.specs.Reads.{read_hlend_lem}
use Rattle.station.specs.declared.Station.{Station}
use Rattle.answers.specs.Answers.{answer_number}
use Rattle.entries.specs.declared.Own.{Own}
use Rattle.entries.specs.declared.Verdict.{Verdict}
use Rattle.entries.specs.declared.Verdict.TheVariants.{Silent}
use Rattle.entries.specs.Names.{name_number}
use Rattle.series.specs.Series.{entry_count, planned_of}
use Rattle.plan.specs.Limits.{numbers_a_record}
use Rattle.plan.specs.Plan.{numbers}
use Rattle.bwmap.specs.Verdicts.{verdicts, entries}
use Rattle.bwmap.specs.Names.{name_numbers, names_of}
use Rattle.reasons.specs.Names.{name_at, TrueName}
use Rattle.reasons.specs.Called.{called_planned, records_called}
use Rattle.reasons.proofs.Every.{names_dark}
use Rattle.reasons.proofs.TrueNames.{true_names}
use Rattle.reasons.proofs.Numbered.{true_numbers}
use Rattle.reasons.proofs.Called.{called_are_plans}
use Rattle.downstream.specs.Partitions.{header_end_lem, map_of}
use Rattle.frame.specs.Given.{Arrival, Lent}
use Rattle.frame.specs.Frame.{FrameLeft, own_of}
use Rattle.engine.specs.Answers.{Handled, Row}
use Rattle.engine.specs.Naming.{NamesLeft, named_in}
use Rattle.engine.proofs.AllNamed.{map_count}
use Rattle.demands.specs.Engine.{Engine, lingbarrow}
use Rattle.demands.specs.Runs.{is_done_lem}
use Rattle.demands.specs.Demand1.{NamesRow, Demand1}
use Rattle.demands.specs.Promises.{Name, TrulyNamed, TruthfulNames, PlannedNames}
use Rattle.demands.proofs.MeetsDemand1.{meets_demand_1}
use Rattle.demands.proofs.Planning.{handled-records}

-- HLend is read in one way
same_hlend : (f : List ℕ) (h k : Hlend) → read_hlend_lem f ≡ fields h → read_hlend_lem f ≡ fields k → h ≡ k
same_hlend f h k p q = cc

-- ---- the row of answer 0

record Named (s : Station) (f names : List ℕ) (left : NamesLeft) : Type 0 where
  pub hlend : Hlend
  pub reads : read_hlend_lem f ≡ fields hlend
  pub fits : header_end_lem hlend ≤ length f
  pub is : left ≡ named_in s hlend f names

named : {s : Station} {f names : List ℕ} {left : NamesLeft} {n : ℕ} → NamesRow s f names left n → n ≡ 0 → Named s f names left
named (NamesRow.done p h e fits is) z = record { hlend = h; reads = e; fits = fits; is = is }
named (NamesRow.state_out_of_range p q) z = absurd (omega (arith, z))
named (NamesRow.frame_length_unfit p q r) z = absurd (omega (arith, z))
named (NamesRow.list-too-short p q r t) z = absurd (omega (arith, z))
named (NamesRow.hlend_unreadable p q r) z = absurd (omega (arith, z))
named (NamesRow.header_too_long p h q r t) z = absurd (omega (arith, z))

-- ---- the names that it speaks of

within : (l k : List ℕ) (i d e : ℕ) → i < length l → get_or (l ++ k) i d ≡ get_or l i e
within [] k i d e h =
    let z : ⊥ = omega arith in
    absurd z
within (x ∷ l) k zero d e h = refl
within (x ∷ l) k (suc i) d e h = within l k i d e (omega arith)

all_silent : (n : ℕ) → name_numbers (replicate n Silent) ≡ replicate n (name_number Silent)
all_silent zero = refl
all_silent (suc n) = ap (λ (l : List ℕ). name_number Silent ∷ l) (all_silent n)

module _ (s : Station) (f names : List ℕ) (h : Hlend) (fits : header_end_lem h ≤ length f) where
  abbrev own : Own
  own = own_of s

  abbrev m : List ℕ
  m = map_of h f

  abbrev given : List ℕ
  given = names_of own m s.carried

  as_many : length given ≡ h.bwmap
  as_many = true_numbers.every own m s.carried ∙ map_count h f fits

  in_map : (i : ℕ) → i < h.bwmap → i < entry_count m
  in_map i lies = omega (arith, lies, map_count h f fits)

  octet : (i : ℕ) → i < h.bwmap → get_or (put names given) i 0 ≡ get_or given i (name_number Silent)
  octet i lies = within given (drop (length given) names) i 0 (name_number Silent) (omega (arith, lies, as_many))

  listed : take h.bwmap (put names given) ≡ given
  listed = take_at given (drop (length given) names) h.bwmap as_many

  exactly
      : (i : ℕ) → i < h.bwmap → (v : Verdict) → (get_or (put names given) i 0 ≡ name_number v) ↔ TrueName own m s.carried i v
  exactly i lies v =
      let t = true_numbers.exact own m s.carried i (in_map i lies) v in
      (λ e. t.0 (sym (octet i lies) ∙ e), λ e. octet i lies ∙ t.1 e)

  each : (i : ℕ) → i < h.bwmap → Name (get_or (put names given) i 0)
  each i lies =
      let v = name_at verdicts own m s.carried i in
      record { verdict = v; number = (exactly i lies v).1 ((true_names.exact own m s.carried i (in_map i lies) v).0 refl) }

  truly_named : read_hlend_lem f ≡ fields h → TrulyNamed s f (named_in s h f names)
  unfolding named_in
  truly_named reads =
      record {
        hlend = h;
        reads = reads;
        count = refl;
        every = each;
        exact = exactly;
        dark = λ q.
            listed ∙ ap name_numbers (names_dark own m q s.carried) ∙ all_silent (entry_count m)
            ∙ ap (λ (n : ℕ). replicate n (name_number Silent)) (map_count h f fits);
      }

  -- so many as are counted
  counted : take (named_in s h f names).found.count (named_in s h f names).names ≡ given
  unfolding named_in
  counted = listed

-- ---- the frame call's rows of 0 and 6

handled-plans
    : (s : Station) (a : Arrival) (lent : Lent) (h : Hlend) → read_hlend_lem a.octets ≡ fields h → (lost : Bool) (left : FrameLeft) → Handled s a lent lost left
    → take (numbers_a_record * left.counts.records) left.lent.plan ≡ numbers (planned_of (own_of s) (map_of h a.octets) s.carried)
handled-plans s a lent h reads lost left r =
    ap (λ (x : FrameLeft). take (numbers_a_record * x.counts.records) x.lent.plan) r.leaves ∙ handled-records s a lent r.hlend
    ∙ ap (λ (x : Hlend). numbers (planned_of (own_of s) (map_of x a.octets) s.carried)) (same_hlend a.octets r.hlend h r.reads reads)

row-plans
    : (s : Station) (a : Arrival) (lent : Lent) (h : Hlend) → read_hlend_lem a.octets ≡ fields h → (n : ℕ) (left : FrameLeft) → Row s a lent left n → is_done_lem n ≡ true
    → take (numbers_a_record * left.counts.records) left.lent.plan ≡ numbers (planned_of (own_of s) (map_of h a.octets) s.carried)
row-plans s a lent h reads n left (Row.done r) answered = handled-plans s a lent h reads _ left r
row-plans s a lent h reads n left (Row.state_out_of_range p e) answered = absurd (false≢true answered)
row-plans s a lent h reads n left (Row.frame_length_unfit p q e) answered = absurd (false≢true answered)
row-plans s a lent h reads n left (Row.buffer-too-short p q r e) answered = absurd (false≢true answered)
row-plans s a lent h reads n left (Row.hlend_unreadable p q e) answered = absurd (false≢true answered)
row-plans s a lent h reads n left (Row.header_too_long t e) answered = absurd (false≢true answered)
row-plans s a lent h reads n left (Row.delineation_lost r) answered = handled-plans s a lent h reads _ left r

-- ---- any engine that meets demand 1, and so this one

pub names_truthful : (E : Engine) → Demand1 E → TruthfulNames E
names_truthful E d s f names answer =
    let n = named (d.names s f names) answer in
    subst (TrulyNamed s f) (sym n.is) (truly_named s f names n.hlend n.fits n.reads)

pub names-planned : (E : Engine) → Demand1 E → PlannedNames E
names-planned E d s a lent names h answered answer reads =
    let f = a.octets in
    let n = named (d.names s f names) answer in
    let left = E.frame s a lent in
    let called = E.why_dark_lem s f names in
    let list : take called.found.count called.names ≡ names_of (own_of s) (map_of h f) s.carried
    = ap (λ (x : NamesLeft). take x.found.count x.names) n.is ∙ counted s f names n.hlend n.fits
    ∙ ap (λ (x : Hlend). names_of (own_of s) (map_of x f) s.carried) (same_hlend f n.hlend h n.reads reads) in
    row-plans s a lent h reads (answer_number left.outcome.answer) left (d.frame s a lent) answered
    ∙ sym (called_are_plans (own_of s) (map_of h f) s.carried) ∙ ap (λ (l : List ℕ). records_called (called_planned l (entries (map_of h f)))) (sym list)

pub truthful_names : TruthfulNames lingbarrow
truthful_names = names_truthful lingbarrow meets_demand_1

pub planned-names : PlannedNames lingbarrow
planned-names = names-planned lingbarrow meets_demand_1

-- ---- truth leaves no choice

module _ (s : Station) (f : List ℕ) (h : Hlend) (reads : read_hlend_lem f ≡ fields h) (i : ℕ) (lies : i < h.bwmap) where
  name_of : (left : NamesLeft) → TrulyNamed s f left → Name (get_or left.names i 0)
  name_of left t = subst (λ (x : Hlend). i < x.bwmap → Name (get_or left.names i 0)) (same_hlend f t.hlend h t.reads reads) (t.every i) lies

  exact-of
      : (left : NamesLeft) → TrulyNamed s f left → (v : Verdict) → (get_or left.names i 0 ≡ name_number v) ↔ TrueName (own_of s) (map_of h f) s.carried i v
  exact-of left t =
      subst (λ (x : Hlend). i < x.bwmap → (v : Verdict) → (get_or left.names i 0 ≡ name_number v) ↔ TrueName (own_of s) (map_of x f) s.carried i v)
      (same_hlend f t.hlend h t.reads reads) (t.exact i) lies

  -- two that are true give a structure the same name
  pub same_name : (left right : NamesLeft) → TrulyNamed s f left → TrulyNamed s f right → get_or left.names i 0 ≡ get_or right.names i 0
  same_name left right t u =
      let n = name_of left t in
      n.number ∙ sym ((exact-of right u n.verdict).1 ((exact-of left t n.verdict).0 n.number))
