-- A state in range keeps its counts in one octet each, and a call that leaves the station as it was leaves the buffer as it was.
-- Assumes nothing.
use mathlib.Core.Path.{◌≡◌, ap, ◌∙◌}
use mathlib.Core.Bool.{true}
use mathlib.Core.List.{List}
use Prim.Native.Nat.{ℕ, ◌-◌, ◌^◌, ◌<◌}
use native.Mathlib.Omega.{arith}
use lib.Dec.{leb}
use borrow.Author.Tests.{leb-true}
use Rattle.xgem.specs.Reads.{Found, fields}
use Rattle.station.specs.declared.Station.{Station}
use Rattle.link.specs.Limits.{added_allocs, most_owed}
use Rattle.station.specs.Limits.{upstream_words}
use Rattle.link.specs.Link.{held_allocs}
use Rattle.ids.specs.Ids.{assignable_alloc, same_alloc}
use Rattle.validity.specs.Ranges.{in_range, identity_fits_lem, allocs_fit_lem, ports_fit_lem, partials_fit_lem, timer_fits_lem, proper}
use Rattle.validity.proofs.Tests.{both}
use Rattle.station.specs.declared.Outcome.{Outcome}
use Rattle.layout.specs.Layout.{decoded, stored}
use Rattle.layout.proofs.RoundTrips.{read_stored}
use Rattle.boundary.specs.Calls.{by}

module _ (s : Station) (h : in_range s ≡ true) where
  pub alloc_count : s.link.allocs.count < 256 ^ 1
  unfolding in_range allocs_fit_lem
  alloc_count =
      let x1 = both (identity_fits_lem s.activation s.link.onu) _ h in
      let x2 = both (allocs_fit_lem s.link.allocs) _ x1.1 in
      let x3 = both (leb s.link.allocs.count added_allocs) (proper assignable_alloc same_alloc (held_allocs s.link.allocs)) x2.0 in
      omega (arith, leb-true s.link.allocs.count added_allocs x3.0)

  pub owed_count : s.link.owed.count < 256 ^ 1
  unfolding in_range
  owed_count =
      let x1 = both (identity_fits_lem s.activation s.link.onu) _ h in
      let x2 = both (allocs_fit_lem s.link.allocs) _ x1.1 in
      let x3 = both (ports_fit_lem s.ports.ids) _ x2.1 in
      let x4 = both (partials_fit_lem s.ports.ids s.ports.lengths s.ports.waiting) _ x3.1 in
      let x5 = both (leb s.carried (upstream_words - 1)) _ x4.1 in
      let x6 = both (timer_fits_lem s.activation) (leb s.link.owed.count most_owed) x5.1 in
      omega (arith, leb-true s.link.owed.count most_owed x6.1)

-- "nothing changed" of the state is nothing changed in its buffer
pub unchanged : (b : List ℕ) (s : Station) (call : Station → Outcome) → decoded b ≡ fields s → (call s).station ≡ s → (by (decoded b) call b).state ≡ b
unchanged b s call e f =
    ap (λ (z : Found Station). (by z call b).state) e ∙ ap (λ (z : Station). stored z b) f ∙ read_stored b s e
