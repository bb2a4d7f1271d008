-- Every message and every reply keeps a state in range in range.
-- Assumes nothing.
use Prim.Native.Nat.{ℕ, ◌-◌}
use mathlib.Core.Path.{◌≡◌, ◌∙◌, refl}
use mathlib.Core.List.{List, [], ◌∷◌}
use mathlib.Core.Bool.{Bool, true, false, cond}
use lib.ListN.{length-set}
use Rattle.std.specs.Prelude.{None, Option, Some}
use Rattle.link.specs.declared.Owed.{Owed}
use Rattle.ids.specs.declared.OnuId.{OnuId}
use Rattle.ids.specs.Ids.{assignable_onu}
use Rattle.ploam.specs.declared.Message.{Message}
use Rattle.ploam.specs.Reading.{received}
use Rattle.integrity.specs.Integrity.{genuine, installed_key_lem}
use Rattle.station.specs.declared.Activation.{Activation}
use Rattle.station.specs.declared.Activation.TheVariants.{Initial, SerialNumber, Ranging, Operation, Intermittent, EmergencyStop}
use Rattle.station.specs.declared.Station.{Station}
use Rattle.station.specs.States.{holds_identity_lem}
use Rattle.link.specs.Link.{alloc_place, add_alloc, remove_alloc, owe, paid}
use Rattle.validity.specs.Ranges.{identity_fits_lem}
use Rattle.effects.specs.declared.Change.{Change}
use Rattle.effects.specs.declared.Change.TheVariants.{Keep, Identify, Range, Delay, AddAlloc, RemoveAlloc, Enter}
use Rattle.effects.specs.declared.Effect.{Effect}
use Rattle.effects.specs.Changes.{identify, range, set_delay_lem, apply_change_lem, apply_debt_lem, applied}
use Rattle.decisions.specs.Decisions.{decision}
use Rattle.decisions.specs.Acts.{act}
use Rattle.decisions.proofs.Acting.{order_of_tests}
use Rattle.messages.specs.Receiving.{acting, receive, receive_all}
use Rattle.replies.specs.Replying.{after_in, after_reply_lem}
use Rattle.invariants.proofs.Valid.{ValidChange, Valid, decision-valid}
use Rattle.invariants.proofs.Slots.{cleared}
use Rattle.invariants.proofs.InRange.{Sound, enter-sound}
use Rattle.invariants.proofs.InRangeTimes.{identity_moves}
use Rattle.invariants.proofs.InRangeLists.{added, owed_less, owed_more, removed, with_allocs_sound, with_owed_sound}

-- ---- messages

identify-sound : (s : Station) (onu : OnuId) → assignable_onu onu ≡ true → Sound s → Sound (identify s onu)
unfolding identify identity_fits_lem
identify-sound s onu v f =
    record {
      allocs_long = f.allocs_long;
      answers-long = f.answers-long;
      ports_long = f.ports_long;
      lengths_long = f.lengths_long;
      waiting_long = f.waiting_long;
      identity = v;
      allocs = f.allocs;
      ports = f.ports;
      partials = f.partials;
      carried = f.carried;
      timer = refl;
      owed = f.owed;
    }

range-sound : (s : Station) (delay : ℕ) → holds_identity_lem s.activation ≡ true → Sound s → Sound (range s delay)
unfolding range
range-sound s delay v f =
    record {
      allocs_long = f.allocs_long;
      answers-long = f.answers-long;
      ports_long = f.ports_long;
      lengths_long = f.lengths_long;
      waiting_long = length-set s.ports.waiting 0 false ∙ f.waiting_long;
      identity = identity_moves s.activation Operation s.link.onu v refl f.identity;
      allocs = f.allocs;
      ports = f.ports;
      partials = cleared s.ports.ids s.ports.lengths s.ports.waiting f.partials;
      carried = f.carried;
      timer = refl;
      owed = f.owed;
    }

delay_sound : (s : Station) (delay : ℕ) → Sound s → Sound (set_delay_lem s delay)
unfolding set_delay_lem
delay_sound s delay f =
    record {
      allocs_long = f.allocs_long;
      answers-long = f.answers-long;
      ports_long = f.ports_long;
      lengths_long = f.lengths_long;
      waiting_long = f.waiting_long;
      identity = f.identity;
      allocs = f.allocs;
      ports = f.ports;
      partials = f.partials;
      carried = f.carried;
      timer = f.timer;
      owed = f.owed;
    }

change_sound : (s : Station) (c : Change) → ValidChange s c → Sound s → Sound (apply_change_lem s c)
change_sound s Keep v f = f
change_sound s (Identify onu) v f = identify-sound s onu v f
change_sound s (Range delay) v f = range-sound s delay v f
change_sound s (Delay delay) v f = delay_sound s delay f
change_sound s (AddAlloc id) v f =
    let a = added s.link.allocs f.allocs_long f.allocs id v.1 v.2 in
    with_allocs_sound s (add_alloc s.link.allocs id) a.1 a.0 f
change_sound s (RemoveAlloc id) v f =
    let a = removed s.link.allocs f.allocs_long f.allocs id (alloc_place s.link.allocs id) refl in
    with_allocs_sound s (remove_alloc s.link.allocs id) a.1 a.0 f
change_sound s (Enter a) v f = enter-sound s a v.0 v.1 f

debt_sound : (s : Station) (d : Option Owed) → Sound s → Sound (apply_debt_lem s d)
debt_sound s None f = f
debt_sound s (Some answer) f =
    let q = owed_more s.link.owed answer f.answers-long f.owed in
    with_owed_sound s (owe s.link.owed answer) q.0 q.1 f

applied-sound : (s : Station) (e : Effect) → Valid s e → Sound s → Sound (applied s e)
unfolding applied
applied-sound s e v f = debt_sound (apply_change_lem s e.change) e.debt (change_sound s e.change v.0 f)

pub act-sound : (s : Station) (g : Bool) (m : Message) → Sound s → Sound (act s g m)
act-sound s g m f = rw (order_of_tests s g m) (go g)
  where
    go : (g : Bool) → Sound (cond g (applied s (decision s m)) s)
    go true = applied-sound s (decision s m) (decision-valid s m) f
    go false = f

acting-sound : (s : Station) (g : Bool) (r : Option Message) → Sound s → Sound (acting s g r)
acting-sound s g (Some message) f = act-sound s g message f
acting-sound s g None f = f

receive-sound : (s : Station) (m : List ℕ) → Sound s → Sound (receive s m)
unfolding receive
receive-sound s m f = acting-sound s (genuine (installed_key_lem s.link.key.held s.link.key.octets) m) (received m) f

pub messages-sound : (s : Station) (l : List (List ℕ)) → Sound s → Sound (receive_all s l)
messages-sound s [] f = f
messages-sound s (m ∷ l) f = messages-sound (receive s m) l (receive-sound s m f)

-- ---- replies

after-sound : (a : Activation) (s : Station) → Sound s → Sound (after_in a s)
after-sound Initial s f = f
after-sound SerialNumber s f = f
after-sound (Ranging left) s f = f
after-sound Operation s f =
    let q = owed_less s.link.owed f.answers-long f.owed in
    with_owed_sound s (paid s.link.owed) q.0 q.1 f
after-sound (Intermittent left) s f = f
after-sound EmergencyStop s f = f

pub reply_sound : (s : Station) → Sound s → Sound (after_reply_lem s)
unfolding after_reply_lem
reply_sound s f = after-sound s.activation s f
