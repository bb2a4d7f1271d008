-- A frame answered 0 or 6 plans as demand 3 asks, over the ledger.
-- Assumes nothing.
use Prim.Native.Nat.{ℕ, ◌+◌, ◌*◌}
use mathlib.Core.Path.{◌≡◌, ◌∙◌, refl, sym, ap, subst}
use mathlib.Core.Bool.{Bool, true, false, true≢false, false≢true}
use mathlib.Core.List.{List, [], ◌∷◌}
use lib.ListN.{take}
use Rattle.xgtc.specs.declared.allocation.Allocation.{Allocation}
use Rattle.xgtc.specs.declared.hlend.Hlend.{Hlend}
use Rattle.station.specs.declared.Station.{Station}
use Rattle.series.specs.Series.{Series, entry_at, planned_of}
use Rattle.bwmap.specs.Promises.{Follow, SeriesIn, Every}
use Rattle.plan.specs.Limits.{numbers_a_record}
use Rattle.plan.specs.Plan.{numbers}
use Rattle.plan.specs.Laser.{burst_of, bursts_of}
use Rattle.bwmap.proofs.Kept.{planned-ours, every_series_accounted}
use Rattle.plan.proofs.ReadBack.{records-written, laser-obeys}
use Rattle.ledger.specs.Events.{Event, station_of}
use Rattle.ledger.specs.Plan.{own_at, NumberOf}
use Rattle.frame.specs.Given.{Arrival, Lent}
use Rattle.downstream.specs.Partitions.{map_of}
use Rattle.frame.specs.Frame.{FrameLeft, own_of, planned_in, done, handled}
use Rattle.engine.specs.Answers.{Handled, Row}
use Rattle.demands.specs.Runs.{is_done_lem}
use Rattle.demands.specs.Demand3.{sendings, Numbered, Planned, AllPlanned, Obeys, Plans}

-- ---- the series of ours, number by number

module _ (first : Station) (h : List Event) (m : List ℕ) (n : NumberOf first h) where
  follow : (i : ℕ) (l : List Allocation) → Follow (own_at first h) m i l → Numbered first h l
  follow i [] f = tt
  follow i (a ∷ l) (lies, mine, rest) = (n.identified (entry_at m i) a true mine, n.unidentified (entry_at m i) a true mine, follow (i + 1) l rest)

  burst-planned : (s : Series) → SeriesIn (own_at first h) m s → Planned first h m (burst_of s)
  burst-planned s p =
      record {
        series = s;
        obeyed = refl;
        lies = p;
        sends = p.head.sends;
        numbers = (n.identified (entry_at m p.at) s.head false p.head, n.unidentified (entry_at m p.at) s.head false p.head, follow (p.at + 1) s.more p.more);
      }

  all_planned : (l : List Series) → Every (SeriesIn (own_at first h) m) l → AllPlanned first h m (bursts_of l)
  all_planned [] e = tt
  all_planned (s ∷ l) e = (burst-planned s e.0, all_planned l e.1)

-- ---- the frame

-- the records that are counted are what was written
pub handled-records
    : (s : Station) (arrival : Arrival) (lent : Lent) (hl : Hlend)
    → let left = handled s hl arrival lent in
    take (numbers_a_record * left.counts.records) left.lent.plan ≡ numbers (planned_of (own_of s) (map_of hl arrival.octets) s.carried)
unfolding handled done planned_in
handled-records s arrival lent hl = records-written (planned_of (own_of s) (map_of hl arrival.octets) s.carried) lent.plan

module _ (first : Station) (h : List Event) (arrival : Arrival) (lent : Lent) (n : NumberOf first h) where
  -- what the laser sends is what was planned
  handled-sent : (hl : Hlend) → sendings (handled (station_of first h) hl arrival lent) ≡ bursts_of (planned_of (own_at first h) (map_of hl arrival.octets) (station_of first h).carried)
  unfolding handled done planned_in
  handled-sent hl = laser-obeys (planned_of (own_at first h) (map_of hl arrival.octets) (station_of first h).carried) lent.plan

  handled-obeys : (hl : Hlend) → Obeys first h (map_of hl arrival.octets) (station_of first h).carried (handled (station_of first h) hl arrival lent)
  handled-obeys hl =
      let own = own_at first h in
      let m = map_of hl arrival.octets in
      let l = planned_of own m (station_of first h).carried in
      record {
        each = subst (AllPlanned first h m) (sym (handled-sent hl)) (all_planned first h m n l (planned-ours own m (station_of first h).carried));
        planned = l;
        account = every_series_accounted own m (station_of first h).carried;
        are = handled-sent hl;
        records = handled-records (station_of first h) arrival lent hl;
      }

  plans-by : (lost : Bool) (left : FrameLeft) → Handled (station_of first h) arrival lent lost left → Plans first h arrival (station_of first h).carried left
  plans-by lost left r =
      record {
        hlend = r.hlend;
        reads = r.reads;
        fits = r.fits;
        obeys = subst (Obeys first h (map_of r.hlend arrival.octets) (station_of first h).carried) (sym r.leaves) (handled-obeys r.hlend);
      }

  pub plans : (number : ℕ) (left : FrameLeft) → Row (station_of first h) arrival lent left number → is_done_lem number ≡ true → Plans first h arrival (station_of first h).carried left
  plans number left (Row.done r) answered = plans-by false left r
  plans number left (Row.state_out_of_range p e) answered = absurd (false≢true answered)
  plans number left (Row.frame_length_unfit p q e) answered = absurd (false≢true answered)
  plans number left (Row.buffer-too-short p q r e) answered = absurd (false≢true answered)
  plans number left (Row.hlend_unreadable p q e) answered = absurd (false≢true answered)
  plans number left (Row.header_too_long t e) answered = absurd (false≢true answered)
  plans number left (Row.delineation_lost r) answered = plans-by true left r

-- ---- nothing is sent after another answer

pub nothing-sent
    : (s : Station) (arrival : Arrival) (lent : Lent) (number : ℕ) (left : FrameLeft) → Row s arrival lent left number → is_done_lem number ≡ false → sendings left ≡ []
nothing-sent s arrival lent number left (Row.done r) other = absurd (true≢false other)
nothing-sent s arrival lent number left (Row.state_out_of_range p e) other = ap sendings e
nothing-sent s arrival lent number left (Row.frame_length_unfit p q e) other = ap sendings e
nothing-sent s arrival lent number left (Row.buffer-too-short p q r e) other = ap sendings e
nothing-sent s arrival lent number left (Row.hlend_unreadable p q e) other = ap sendings e
nothing-sent s arrival lent number left (Row.header_too_long t e) other = ap sendings e
nothing-sent s arrival lent number left (Row.delineation_lost r) other = absurd (true≢false other)
