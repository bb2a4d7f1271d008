-- That the integrity check may come last, and what becomes of the key.
-- Assumes nothing.
use mathlib.Core.Path.{◌≡◌, ◌∙◌, refl, sym, ap}
use mathlib.Core.Bool.{Bool, true, false, cond, false≢true}
use Rattle.std.specs.Prelude.{None, Option, Some}
use Rattle.link.specs.declared.Owed.{Owed}
use Rattle.ploam.specs.declared.Message.{Message}
use Rattle.station.specs.declared.Station.{Station}
use Rattle.link.specs.declared.Key.{Key}
use Rattle.link.specs.Link.{no_key}
use Rattle.effects.specs.declared.Change.{Change}
use Rattle.effects.specs.declared.Change.TheVariants.{Keep, Identify, Range, Delay, AddAlloc, RemoveAlloc, Enter}
use Rattle.effects.specs.declared.Effect.{Effect}
use Rattle.effects.specs.Effects.{ignored, is_ignored_lem}
use Rattle.decisions.specs.Decisions.{is_ours, effect_of, fitting, decision}
use Rattle.effects.specs.Changes.{identify, range, set_delay_lem, apply_change_lem, apply_debt_lem, applied}
use Rattle.decisions.specs.Acts.{act}

-- ---- the order of consideration: address, integrity, state, room; and address, state, room, integrity are one

pub act-genuine : (s : Station) (m : Message) → applied s (decision s m) ≡ act s true m
unfolding act decision applied
act-genuine s m = go (is_ours s m)
  where
    go : (b : Bool) → applied s (cond b (fitting s.link.owed (effect_of s m)) ignored) ≡ cond b (applied s (fitting s.link.owed (effect_of s m))) s
    go true = refl
    go false = refl

pub act_forged : (s : Station) (m : Message) → act s false m ≡ s
unfolding act
act_forged s m = go (is_ours s m)
  where
    go : (b : Bool) → cond b s s ≡ s
    go true = refl
    go false = refl

ignored_is : (c : Change) (d : Option Owed) → is_ignored_lem (record { change = c; debt = d }) ≡ true → record { change = c; debt = d } ≡ ignored
ignored_is Keep None e = refl
ignored_is Keep (Some answer) e = absurd (false≢true e)
ignored_is (Identify onu) d e = absurd (false≢true e)
ignored_is (Range delay) d e = absurd (false≢true e)
ignored_is (Delay delay) d e = absurd (false≢true e)
ignored_is (AddAlloc id) d e = absurd (false≢true e)
ignored_is (RemoveAlloc id) d e = absurd (false≢true e)
ignored_is (Enter a) d e = absurd (false≢true e)

nothing-done : (s : Station) → applied s ignored ≡ s
unfolding applied
nothing-done s = refl

-- a message that does nothing needs no check
pub act-ignored : (s : Station) (g : Bool) (m : Message) → is_ignored_lem (decision s m) ≡ true → act s g m ≡ s
act-ignored s true m e =
    sym (act-genuine s m) ∙ ap (applied s) (ignored_is (decision s m).change (decision s m).debt e) ∙ nothing-done s
act-ignored s false m e = act_forged s m

-- the paper's order is kept by the definition, and the code's is equal to it
pub order_of_tests : (s : Station) (g : Bool) (m : Message) → act s g m ≡ cond g (applied s (decision s m)) s
order_of_tests s true m = sym (act-genuine s m)
order_of_tests s false m = act_forged s m

-- ---- a message leaves the key that is held, or none

module _ (Q : Key → Type 0) (none : Q no_key) where
  change_key : (s : Station) (c : Change) → Q s.link.key → Q (apply_change_lem s c).link.key
  unfolding identify range set_delay_lem
  change_key s Keep q = q
  change_key s (Identify onu) q = q
  change_key s (Range delay) q = q
  change_key s (Delay delay) q = q
  change_key s (AddAlloc id) q = q
  change_key s (RemoveAlloc id) q = q
  change_key s (Enter a) q = none

  debt_key : (s : Station) (d : Option Owed) → Q s.link.key → Q (apply_debt_lem s d).link.key
  debt_key s None q = q
  debt_key s (Some answer) q = q

  pub applied_key : (s : Station) (e : Effect) → Q s.link.key → Q (applied s e).link.key
  unfolding applied
  applied_key s e q = debt_key (apply_change_lem s e.change) e.debt (change_key s e.change q)

  pub act_key : (s : Station) (g : Bool) (m : Message) → Q s.link.key → Q (act s g m).link.key
  act_key s g m q = rw (order_of_tests s g m) (go g)
    where
      go : (g : Bool) → Q (cond g (applied s (decision s m)) s).link.key
      go true = applied_key s (decision s m) q
      go false = q
