-- The words carried over change with the plan and with time alone: messages, the step at a frame's end and the host keep them.
-- Assumes nothing.
use Prim.Native.Nat.{ℕ, ◌-◌}
use mathlib.Core.Path.{◌≡◌, ◌∙◌, refl}
use mathlib.Core.Bool.{Bool, true, false, cond}
use mathlib.Core.List.{List, [], ◌∷◌}
use lib.Dec.{leb}
use Rattle.std.specs.Prelude.{None, Option, Some}
use Rattle.link.specs.declared.Owed.{Owed}
use Rattle.ploam.specs.declared.Message.{Message}
use Rattle.ids.specs.declared.PortId.{PortId}
use Rattle.ploam.specs.Reading.{received}
use Rattle.integrity.specs.Integrity.{installed_key_lem, genuine}
use Rattle.station.specs.declared.Activation.{Activation}
use Rattle.station.specs.declared.Activation.TheVariants.{Initial, SerialNumber, Ranging, Operation, Intermittent, EmergencyStop}
use Rattle.station.specs.declared.Station.{Station}
use Rattle.station.specs.Station.{enter, with_activation_lem}
use Rattle.timing.specs.Timing.{count_to1_lem, end_from, frame_end_lem}
use Rattle.effects.specs.declared.Change.{Change}
use Rattle.effects.specs.declared.Change.TheVariants.{Keep, Identify, Range, Delay, AddAlloc, RemoveAlloc, Enter}
use Rattle.effects.specs.declared.Effect.{Effect}
use Rattle.decisions.specs.Decisions.{is_ours, effect_of, fitting}
use Rattle.effects.specs.Changes.{identify, range, set_delay_lem, apply_change_lem, apply_debt_lem, applied}
use Rattle.decisions.specs.Acts.{act}
use Rattle.messages.specs.Receiving.{acting, receive, receive_all}
use Rattle.host.specs.Host.{done, answer_to_add_lem, answer_to_remove_lem, answer_to_key_lem, after_add, after_remove, after_key}

changed : (s : Station) (c : Change) → (apply_change_lem s c).carried ≡ s.carried
unfolding identify range set_delay_lem
changed s Keep = refl
changed s (Identify onu) = refl
changed s (Range delay) = refl
changed s (Delay delay) = refl
changed s (AddAlloc id) = refl
changed s (RemoveAlloc id) = refl
changed s (Enter a) = refl

indebted : (s : Station) (d : Option Owed) → (apply_debt_lem s d).carried ≡ s.carried
indebted s None = refl
indebted s (Some answer) = refl

applied_carried : (s : Station) (e : Effect) → (applied s e).carried ≡ s.carried
unfolding applied
applied_carried s e = indebted (apply_change_lem s e.change) e.debt ∙ changed s e.change

acted : (s : Station) (g : Bool) (r : Option Message) → (acting s g r).carried ≡ s.carried
unfolding act
acted s g None = refl
acted s g (Some m) = go (is_ours s m) g
  where
    go : (a b : Bool) → (cond a (cond b (applied s (fitting s.link.owed (effect_of s m))) s) s).carried ≡ s.carried
    go true true = applied_carried s (fitting s.link.owed (effect_of s m))
    go true false = refl
    go false b = refl

pub messages_carried : (s : Station) (l : List (List ℕ)) → (receive_all s l).carried ≡ s.carried
unfolding receive
messages_carried s [] = refl
messages_carried s (m ∷ l) =
    messages_carried (receive s m) l ∙ acted s (genuine (installed_key_lem s.link.key.held s.link.key.octets) m) (received m)

end-from : (a : Activation) (s : Station) (b : Bool) → (end_from a s b).carried ≡ s.carried
unfolding count_to1_lem
end-from Initial s b = refl
end-from SerialNumber s b = refl
end-from (Ranging left) s true = go (leb left 1)
  where
    go : (c : Bool) → (cond c (enter s SerialNumber) (with_activation_lem s (Ranging (left - 1)))).carried ≡ s.carried
    go true = refl
    go false = refl
end-from (Ranging left) s false = refl
end-from Operation s b = refl
end-from (Intermittent left) s b = refl
end-from EmergencyStop s b = refl

pub end_carried : (s : Station) (b : Bool) → (frame_end_lem s b).carried ≡ s.carried
unfolding frame_end_lem
end_carried s b = end-from s.activation s b

settled : (b : Bool) (was next : Station) → next.carried ≡ was.carried → (cond b next was).carried ≡ was.carried
settled true was next e = e
settled false was next e = refl

pub add_carried : (s : Station) (port : PortId) → (after_add s port).station.carried ≡ s.carried
unfolding after_add
add_carried s port = settled (done (answer_to_add_lem s port)) s _ refl

pub remove_carried : (s : Station) (port : PortId) → (after_remove s port).station.carried ≡ s.carried
unfolding after_remove
remove_carried s port = settled (done (answer_to_remove_lem s port)) s _ refl

pub key_carried : (s : Station) (octets : List ℕ) → (after_key s octets).station.carried ≡ s.carried
unfolding after_key
key_carried s octets = settled (done (answer_to_key_lem s)) s _ refl
