-- What asks for nothing leaves the state, and what asks for the delay alone changes nothing else of it.
-- Assumes nothing.
use mathlib.Core.Path.{◌≡◌, refl, ap}
use Prim.Native.Nat.{ℕ}
use Rattle.std.specs.Prelude.{None, Option, Some}
use Rattle.link.specs.declared.Owed.{Owed}
use Rattle.station.specs.declared.Station.{Station}
use Rattle.station.specs.Station.{with_link_lem}
use Rattle.link.specs.Link.{with_delay_lem}
use Rattle.effects.specs.declared.Effect.{Effect}
use Rattle.effects.specs.declared.Change.{Change}
use Rattle.effects.specs.declared.Change.TheVariants.{Keep, Identify, Range, Delay as Delays, AddAlloc, RemoveAlloc, Enter}
use Rattle.effects.specs.Changes.{set_delay_lem, apply_change_lem, apply_debt_lem, applied}
use Rattle.messages.specs.declared.Asked.TheVariants.{Nothing, Delay}
use Rattle.messages.specs.Asking.{asked_of}

pub stays : (s : Station) (e : Effect) → asked_of e.change e.debt ≡ Nothing → applied s e ≡ s
unfolding applied
stays s e h = go e.change e.debt h
  where
    go : (x : Change) (d : Option Owed) → asked_of x d ≡ Nothing → apply_debt_lem (apply_change_lem s x) d ≡ s
    go Keep None h = refl
    go (Identify onu) None h = cc
    go (Range delay) None h = cc
    go (Delays delay) None h = cc
    go (AddAlloc id) None h = cc
    go (RemoveAlloc id) None h = cc
    go (Enter a) None h = cc
    go x (Some answer) h = cc

pub delays : (s : Station) (e : Effect) (delay : ℕ) → asked_of e.change e.debt ≡ Delay delay → applied s e ≡ with_link_lem s (with_delay_lem s.link delay)
unfolding applied set_delay_lem
delays s e delay h = go e.change e.debt h
  where
    go : (x : Change) (d : Option Owed) → asked_of x d ≡ Delay delay → apply_debt_lem (apply_change_lem s x) d ≡ with_link_lem s (with_delay_lem s.link delay)
    go Keep None h = cc
    go (Identify onu) None h = cc
    go (Range n) None h = cc
    go (Delays n) None h = let e : n ≡ delay = cc in ap (λ (k : ℕ). with_link_lem s (with_delay_lem s.link k)) e
    go (AddAlloc id) None h = cc
    go (RemoveAlloc id) None h = cc
    go (Enter a) None h = cc
    go x (Some answer) h = cc
