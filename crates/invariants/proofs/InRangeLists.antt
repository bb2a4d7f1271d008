-- The lists of Alloc-IDs and of owed answers stay in range.
-- Assumes nothing.
use Prim.Native.Nat.{ℕ, ◌+◌, ◌-◌, ◌≤◌, ◌<◌}
use mathlib.Core.Path.{◌≡◌, ◌∙◌, refl, sym}
use mathlib.Core.List.{List}
use mathlib.Core.Bool.{Bool, true, false, cond}
use native.Mathlib.Omega.{arith}
use native.Mathlib.Numerals.{add-one}
use lib.ListN.{length, set, length-set, length-append, length-take, length-drop}
use lib.Seq.{take-suc-set}
use lib.Dec.{eqb, leb}
use borrow.Author.Tests.{leb-true, leb-false, le-leb}
use Rattle.std.specs.Prelude.{None, Option, Some, ℕ}
use Rattle.ids.specs.declared.AllocId.{AllocId}
use Rattle.ids.specs.Ids.{assignable_alloc, same_alloc}
use Rattle.station.specs.declared.Station.{Station}
use Rattle.link.specs.declared.Allocs.{Allocs}
use Rattle.link.specs.declared.Owed.{Owed}
use Rattle.link.specs.declared.Queue.{Queue}
use Rattle.link.specs.Limits.{added_allocs, most_owed}
use Rattle.ids.specs.Places.{some, is_held}
use Rattle.link.specs.Lists.{close_up}
use Rattle.link.specs.Link.{no_alloc, blank, held_allocs, alloc_place, add_alloc, remove_at, owe, paid, with_allocs_lem, with_owed_lem}
use Rattle.station.specs.Station.{with_link_lem}
use Rattle.ids.proofs.Places.{place-held}
use Rattle.validity.specs.Ranges.{proper, allocs_fit_lem}
use Rattle.validity.proofs.Tests.{both, join}
use Rattle.invariants.proofs.Lists.{found_some, proper-snoc, proper-without, closed_up}
use Rattle.invariants.proofs.Slots.{eqb_comm}
use Rattle.invariants.proofs.InRange.{Sound}

-- ---- the lists of the link

pub with_allocs_sound
    : (s : Station) (a : Allocs) → length a.ids ≡ added_allocs → allocs_fit_lem a ≡ true → Sound s → Sound (with_link_lem s (with_allocs_lem s.link a))
with_allocs_sound s a l t f =
    record {
      allocs_long = l;
      answers-long = f.answers-long;
      ports_long = f.ports_long;
      lengths_long = f.lengths_long;
      waiting_long = f.waiting_long;
      identity = f.identity;
      allocs = t;
      ports = f.ports;
      partials = f.partials;
      carried = f.carried;
      timer = f.timer;
      owed = f.owed;
    }

pub with_owed_sound
    : (s : Station) (q : Queue) → length q.answers ≡ most_owed → leb q.count most_owed ≡ true → Sound s
    → Sound (with_link_lem s (with_owed_lem s.link q))
with_owed_sound s q l t f =
    record {
      allocs_long = f.allocs_long;
      answers-long = l;
      ports_long = f.ports_long;
      lengths_long = f.lengths_long;
      waiting_long = f.waiting_long;
      identity = f.identity;
      allocs = f.allocs;
      ports = f.ports;
      partials = f.partials;
      carried = f.carried;
      timer = f.timer;
      owed = t;
    }

length-closed : {A : Type 0} (b : A) (i : ℕ) (l : List A) → i < length l → length (close_up b i l) ≡ length l
length-closed b i l h = simp (length-append, length-take, length-drop) (omega arith)

same-alloc : (x y : AllocId) → same_alloc x y ≡ same_alloc y x
same-alloc x y = eqb_comm x.0 y.0

module _ (a : Allocs) (long : length a.ids ≡ added_allocs) (t : allocs_fit_lem a ≡ true) where
  count_fits : a.count ≤ added_allocs
  unfolding allocs_fit_lem
  count_fits = leb-true a.count added_allocs (both (leb a.count added_allocs) _ t).0

  all_proper : proper assignable_alloc same_alloc (held_allocs a) ≡ true
  unfolding allocs_fit_lem
  all_proper = (both (leb a.count added_allocs) _ t).1

  module _ (id : AllocId) where
    more : assignable_alloc id ≡ true → some (same_alloc id) (held_allocs a) ≡ false → a.count < added_allocs
        → allocs_fit_lem (record { ids = set a.ids a.count id; count = a.count + 1 }) ≡ true
    unfolding allocs_fit_lem
    more o n h =
        let k : a.count < length a.ids = omega arith in
        join (leb (a.count + 1) added_allocs) _ (le-leb (a.count + 1) added_allocs (omega arith))
        (rw (add-one a.count, take-suc-set a.ids a.count id k)
        (proper-snoc assignable_alloc same_alloc same-alloc (held_allocs a) id all_proper o n))

    pub added : assignable_alloc id ≡ true → is_held (alloc_place a id) ≡ false → (allocs_fit_lem (add_alloc a id) ≡ true) × (length (add_alloc a id).ids ≡ added_allocs)
    added o n = go (leb added_allocs a.count) refl
      where
        go
            : (b : Bool) → leb added_allocs a.count ≡ b
            → (allocs_fit_lem (cond b a (record { ids = set a.ids a.count id; count = a.count + 1 })) ≡ true)
            × (length (cond b a (record { ids = set a.ids a.count id; count = a.count + 1 })).ids ≡ added_allocs)
        go true e = (t, long)
        go false e = (
          more o (sym (found_some (same_alloc id) 0 (held_allocs a)) ∙ n) (leb-false added_allocs a.count e),
          length-set a.ids a.count id ∙ long,
        )

    less : (i : ℕ) → i < a.count → allocs_fit_lem (record { ids = close_up no_alloc i a.ids; count = a.count - 1 }) ≡ true
    unfolding allocs_fit_lem
    less i h =
        let c = count_fits in
        join (leb (a.count - 1) added_allocs) _ (le-leb (a.count - 1) added_allocs (omega arith))
        (rw (closed_up no_alloc i a.count a.ids h (omega arith)) (proper-without assignable_alloc same_alloc i (held_allocs a) all_proper))

    pub removed : (p : Option ℕ) → alloc_place a id ≡ p → (allocs_fit_lem (remove_at a p) ≡ true) × (length (remove_at a p).ids ≡ added_allocs)
    removed (Some i) e =
        let h = place-held (same_alloc id) a.count a.ids i e in
        (less i h.0, length-closed no_alloc i a.ids h.1 ∙ long)
    removed None e = (t, long)

pub owed_more : (q : Queue) (o : Owed) → length q.answers ≡ most_owed → leb q.count most_owed ≡ true → (length (owe q o).answers ≡ most_owed) × (leb (owe q o).count most_owed ≡ true)
owed_more q o l t = go (leb most_owed q.count) refl
  where
    go
        : (b : Bool) → leb most_owed q.count ≡ b
        → (length (cond b q (record { answers = set q.answers q.count o; count = q.count + 1 })).answers ≡ most_owed)
        × (leb (cond b q (record { answers = set q.answers q.count o; count = q.count + 1 })).count most_owed ≡ true)
    go true e = (l, t)
    go false e =
        let h = leb-false most_owed q.count e in
        (length-set q.answers q.count o ∙ l, le-leb (q.count + 1) most_owed (omega arith))

pub owed_less : (q : Queue) → length q.answers ≡ most_owed → leb q.count most_owed ≡ true → (length (paid q).answers ≡ most_owed) × (leb (paid q).count most_owed ≡ true)
owed_less q l t = go (eqb q.count 0)
  where
    go
        : (b : Bool)
        → (length (cond b q (record { answers = close_up blank 0 q.answers; count = q.count - 1 })).answers ≡ most_owed)
        × (leb (cond b q (record { answers = close_up blank 0 q.answers; count = q.count - 1 })).count most_owed ≡ true)
    go true = (l, t)
    go false =
        let h = leb-true q.count most_owed t in
        (length-closed blank 0 q.answers (omega arith) ∙ l, le-leb (q.count - 1) most_owed (omega arith))
