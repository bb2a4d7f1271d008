-- HLend counts no more structures than a list has room for.
-- Assumes nothing.
use mathlib.Core.Path.{◌≡◌, refl}
use mathlib.Core.List.{List}
use Prim.Native.Nat.{ℕ, ◌≤◌}
use native.Mathlib.Omega.{arith}
use Rattle.station.specs.declared.Station.{Station}
use Rattle.downstream.specs.declared.Opening.{Opening}
use Rattle.downstream.specs.declared.Opening.TheVariants.{Refused, Unread, Opened}
use Rattle.downstream.specs.Opening.{opening}
use Rattle.downstream.proofs.Laws.{opened}
use Rattle.engine.specs.Naming.{names_fit, names_by, named_in, why_dark_lem}
use Rattle.engine.proofs.AllNamed.{hlend_count}

pub count_within : (s : Station) (f names : List ℕ) → (why_dark_lem s f names).found.count ≤ 2047
unfolding why_dark_lem named_in
count_within s f names = go (opening s f (names_fit names)) refl
  where
    go : (o : Opening) → opening s f (names_fit names) ≡ o → (names_by o s f names).found.count ≤ 2047
    go (Refused answer) e = omega arith
    go (Unread answer) e = omega arith
    go (Opened h) e = hlend_count f h (opened s f (names_fit names) h e).reads
