-- The link from the plan to the ledger: in every frame of a run, the entries of ours are those on the ledger's numbers.
-- Assumes nothing.
use Prim.Native.Nat.{ℕ}
use mathlib.Core.Path.{◌≡◌, ◌∙◌, refl, sym, ap}
use mathlib.Core.Logic.{◌↔◌}
use mathlib.Core.Bool.{true, false, ◌&&◌, ◌||◌, false≢true, true≢false}
use mathlib.Core.List.{List}
use lib.Dec.{eqb, leb}
use borrow.Author.Tests.{eqb-true, eq-eqb, leb-true, le-leb}
use Rattle.ids.specs.Ids.{same_alloc, broadcast_alloc}
use Rattle.xgtc.specs.declared.allocation.Allocation.{Allocation}
use Rattle.station.specs.declared.Activation.{Activation}
use Rattle.station.specs.declared.Activation.TheVariants.{Initial, SerialNumber, Ranging, Operation, Intermittent, EmergencyStop}
use Rattle.station.specs.declared.Station.{Station}
use Rattle.station.specs.States.{holds_identity_lem}
use Rattle.station.specs.Station.{power_on_lem}
use Rattle.link.specs.Link.{no_allocs}
use Rattle.entries.specs.declared.Own.{Own}
use Rattle.entries.specs.Limits.{last_start}
use Rattle.entries.specs.Standings.{continues, held, discovery, ranging, ours_in, ours}
use Rattle.station.specs.States.{silent}
use Rattle.validity.proofs.Tests.{both, join}
use Rattle.ledger.specs.Events.{Event, station_of}
use Rattle.ledger.specs.Ledger.{holds}
use Rattle.ledger.specs.Plan.{own_at, Listed, Discovery, OursAfter, NumberOf}
use Rattle.ledger.proofs.Turns.{holds_own, may_hold, Fine}
use Rattle.ledger.proofs.Times.{or_false}
use Rattle.ledger.proofs.Runs.{Kept, always, exactly}

-- ---- one entry

discovery_is : (a : Allocation) → (discovery a ≡ true) ↔ Discovery a
unfolding discovery
discovery_is a = (
  (λ e.
      let x = both (leb a.start last_start) _ e in
      let y = both (same_alloc a.alloc broadcast_alloc) _ x.1 in
      let z = both a.ploamu (eqb a.grant 0) y.1 in
      record {
        head = leb-true a.start last_start x.0;
        number = eqb-true a.alloc.0 1023 y.0;
        message = z.0;
        size = eqb-true a.grant 0 z.1;
      }),
  (λ d.
      join (leb a.start last_start) _ (le-leb a.start last_start d.head)
      (join (same_alloc a.alloc broadcast_alloc) _ (eq-eqb a.alloc.0 1023 d.number)
      (join a.ploamu _ d.message (eq-eqb a.grant 0 d.size)))),
)

-- in O5 the plan looks for the numbers held
operates : (o : Own) → o.activation ≡ Operation → (a : Allocation) → ours o a ≡ holds_own o a.alloc.0
unfolding held
operates o e a = rw e

-- in O4 too, since no Alloc-ID is held there
ranges : (o : Own) → Fine o → (left : ℕ) → o.activation ≡ Ranging left → (a : Allocation) → ours o a ≡ (holds_own o a.alloc.0 && (continues a || a.ploamu))
unfolding ranging
ranges o f left e a = rw (f.bare (ap may_hold e), e, or_false (eqb a.alloc.0 o.onu.0))

silent_none : (o : Own) → silent o.activation ≡ true → (a : Allocation) → ours o a ≡ false
silent_none o h a = go o.activation h
  where
    go : (x : Activation) → silent x ≡ true → ours_in x o.onu o.allocs a ≡ false
    go Initial h = refl
    go SerialNumber h = absurd (false≢true h)
    go (Ranging left) h = absurd (false≢true h)
    go Operation h = absurd (false≢true h)
    go (Intermittent left) h = refl
    go EmergencyStop h = refl

-- ---- every frame

module _ (first : Station) (h : List Event) (k : Kept first h) where
  pub ours-after : OursAfter first h
  unfolding holds
  ours-after =
      record {
        in-o23 = λ e a. rw e (discovery_is a);
        in-o4 = λ left e a.
            let x = exactly first h k a.alloc.0 in
            let q = ranges (own_at first h) k.fine left e a in (
              (λ t.
                  let b = both (holds_own (own_at first h) a.alloc.0) _ (sym q ∙ t) in
                  (x.1 b.0, b.1)),
              (λ t. q ∙ join (holds_own (own_at first h) a.alloc.0) _ (x.0 t.0) t.1),
            );
        in-o5 = λ e a.
            let x = exactly first h k a.alloc.0 in
            let q = operates (own_at first h) e a in
            ((λ t. x.1 (sym q ∙ t)), (λ t. q ∙ x.0 t));
        elsewhere = λ e a. silent_none (own_at first h) e a;
      }

  on-ledger
      : (x : Activation) → (own_at first h).activation ≡ x → silent x ≡ false → holds_identity_lem x ≡ true → (a : Allocation)
      → ours (own_at first h) a ≡ true → Listed first h a
  on-ledger Initial e z i a o = absurd (false≢true i)
  on-ledger SerialNumber e z i a o = absurd (false≢true i)
  on-ledger (Ranging left) e z i a o = ((ours-after.in-o4 left e a).0 o).0
  on-ledger Operation e z i a o = (ours-after.in-o5 e a).0 o
  on-ledger (Intermittent left) e z i a o = absurd (true≢false z)
  on-ledger EmergencyStop e z i a o = absurd (false≢true i)

  discovered
      : (x : Activation) → (own_at first h).activation ≡ x → silent x ≡ false → holds_identity_lem x ≡ false → (a : Allocation)
      → ours (own_at first h) a ≡ true → Discovery a
  discovered Initial e z i a o = absurd (true≢false z)
  discovered SerialNumber e z i a o = (ours-after.in-o23 e a).0 o
  discovered (Ranging left) e z i a o = absurd (true≢false i)
  discovered Operation e z i a o = absurd (true≢false i)
  discovered (Intermittent left) e z i a o = absurd (true≢false i)
  discovered EmergencyStop e z i a o = absurd (true≢false z)

  pub number_of : NumberOf first h
  number_of =
      record {
        identified = λ e a more m i. on-ledger (own_at first h).activation refl m.sends i a m.owned;
        unidentified = λ e a more m i. discovered (own_at first h).activation refl m.sends i a m.owned;
        operating = λ e a t r l.
            record { read = refl; sends = ap silent e; fit = t; room = r; owned = (ours-after.in-o5 e a).1 l; kind = refl };
        ranged = λ left e a t r l q.
            record { read = refl; sends = ap silent e; fit = t; room = r; owned = (ours-after.in-o4 left e a).1 (l, q); kind = refl };
      }

-- ---- over any run from power-on

module _ (serial registration : List ℕ) (h : List Event) where
  pub always_ours : OursAfter (power_on_lem serial registration) h
  always_ours = ours-after (power_on_lem serial registration) h (always serial registration h)

  pub always_numbered : NumberOf (power_on_lem serial registration) h
  always_numbered = number_of (power_on_lem serial registration) h (always serial registration h)

  -- in O4 no Alloc-ID is held
  pub none_in_o4 : (left : ℕ) → (station_of (power_on_lem serial registration) h).activation ≡ Ranging left → (station_of (power_on_lem serial registration) h).link.allocs ≡ no_allocs
  none_in_o4 left e = (always serial registration h).fine.bare (ap may_hold e)
