-- A key no longer held is gone: in O1, O2-3 and O7 a station holds nothing that a head end gave it, not an octet of a key,
-- no ONU-ID, Alloc-ID, delay or owed answer. It is so from power-on, and every call keeps it so.
-- Assumes nothing.
use Prim.Native.Nat.{ℕ, ◌-◌}
use mathlib.Core.Path.{◌≡◌, ◌∙◌, refl, sym, ap}
use mathlib.Core.List.{List, [], ◌∷◌}
use mathlib.Core.Bool.{Bool, true, false, not, cond, true≢false, false≢true}
use lib.Dec.{leb}
use lib.ListN.{replicate}
use Rattle.std.specs.Prelude.{None, Option, Some}
use Rattle.link.specs.declared.Owed.{Owed}
use Rattle.ids.specs.declared.PortId.{PortId}
use Rattle.ploam.specs.declared.Message.{Message}
use Rattle.station.specs.declared.Activation.{Activation}
use Rattle.station.specs.declared.Activation.TheVariants.{Initial, SerialNumber, Ranging, Operation, Intermittent, EmergencyStop}
use Rattle.station.specs.declared.Station.{Station}
use Rattle.link.specs.declared.Link.{Link}
use Rattle.answers.specs.declared.Answer.{Answer}
use Rattle.station.specs.States.{holds_identity_lem}
use Rattle.link.specs.Limits.{key_octets}
use Rattle.link.specs.Link.{nothing, with_delay_lem, with_allocs_lem, with_key_lem, with_owed_lem, add_alloc, remove_alloc, owe, paid, installed}
use Rattle.station.specs.Station.{power_on_lem, enter, with_activation_lem, with_link_lem, with_ports_lem}
use Rattle.timing.specs.Timing.{count_to1_lem, count_to2_lem, end_from, frame_end_lem, silence, lost_from, lost_state_lem, lost_time_lem, unread_from, unread_state_lem, unread_time_lem}
use Rattle.effects.specs.declared.Change.{Change}
use Rattle.effects.specs.declared.Change.TheVariants.{Keep, Identify, Range, Delay, AddAlloc, RemoveAlloc, Enter}
use Rattle.effects.specs.declared.Effect.{Effect}
use Rattle.effects.specs.Changes.{identify, range, set_delay_lem, apply_change_lem, apply_debt_lem, applied}
use Rattle.decisions.specs.Decisions.{decision}
use Rattle.decisions.specs.Acts.{act}
use Rattle.decisions.proofs.Acting.{order_of_tests}
use Rattle.ploam.specs.Reading.{received}
use Rattle.integrity.specs.Integrity.{genuine, installed_key_lem}
use Rattle.messages.specs.Receiving.{acting, receive, receive_all}
use Rattle.replies.specs.Replying.{after_in, after_reply_lem}
use Rattle.host.specs.Host.{done, answer_to_add_lem, answer_to_remove_lem, answer_to_key_lem, after_add, after_remove, after_key}
use Rattle.validity.specs.Ranges.{in_range}
use Rattle.ports.specs.Ports.{add_port_lem, remove_port_lem}
use Rattle.answers.specs.declared.Answer.TheVariants.{Done, StateOutOfRange, KeyRefused}
use Rattle.invariants.proofs.Valid.{steady, ValidChange, ValidDebt, Valid, decision-valid}

-- ---- the statement

abbrev pub Forgotten : Station → Type 0
Forgotten s = holds_identity_lem s.activation ≡ false → s.link ≡ nothing

-- not an octet of a key
pub no_octet : (s : Station) → Forgotten s → holds_identity_lem s.activation ≡ false → s.link.key.octets ≡ replicate key_octets 0
no_octet s f h = rw (f h)

-- ---- it is so from power-on, and on entering

pub power_on_forgotten : (serial registration : List ℕ) → Forgotten (power_on_lem serial registration)
power_on_forgotten serial registration h = refl

pub enter-forgotten : (s : Station) (a : Activation) → Forgotten (enter s a)
enter-forgotten s a h = refl

-- ---- frame times

count1 : (s : Station) (left : ℕ) → s.activation ≡ Ranging left → Forgotten s → Forgotten (count_to1_lem s left)
unfolding count_to1_lem
count1 s left e f = go (leb left 1)
  where
    go : (b : Bool) → Forgotten (cond b (enter s SerialNumber) (with_activation_lem s (Ranging (left - 1))))
    go true = enter-forgotten s SerialNumber
    go false = λ h. absurd (true≢false h)

count2 : (s : Station) (left : ℕ) → Forgotten s → Forgotten (count_to2_lem s left)
unfolding count_to2_lem
count2 s left f = go (leb left 1)
  where
    go : (b : Bool) → Forgotten (cond b (enter s Initial) (with_activation_lem s (Intermittent (left - 1))))
    go true = enter-forgotten s Initial
    go false = λ h. absurd (true≢false h)

end-from : (a : Activation) (s : Station) (b : Bool) → s.activation ≡ a → Forgotten s → Forgotten (end_from a s b)
end-from Initial s b e f = enter-forgotten s SerialNumber
end-from SerialNumber s b e f = f
end-from (Ranging left) s true e f = count1 s left e f
end-from (Ranging left) s false e f = f
end-from Operation s b e f = f
end-from (Intermittent left) s b e f = λ h. absurd (true≢false h)
end-from EmergencyStop s b e f = f

pub frame_end_forgotten : (s : Station) (b : Bool) → Forgotten s → Forgotten (frame_end_lem s b)
unfolding frame_end_lem
frame_end_forgotten s b f = end-from s.activation s b refl f

lost-from : (a : Activation) (s : Station) → s.activation ≡ a → Forgotten s → Forgotten (lost_from a s)
lost-from Initial s e f = f
lost-from SerialNumber s e f = enter-forgotten s Initial
lost-from (Ranging left) s e f = enter-forgotten s Initial
lost-from Operation s e f = λ h. absurd (true≢false h)
lost-from (Intermittent left) s e f = count2 s left f
lost-from EmergencyStop s e f = f

pub lost_forgotten : (s : Station) → Forgotten s → Forgotten (lost_time_lem s)
unfolding lost_time_lem lost_state_lem silence
lost_forgotten s f = lost-from s.activation s refl f

unread-from : (a : Activation) (s : Station) → s.activation ≡ a → Forgotten s → Forgotten (unread_from a s)
unread-from Initial s e f = f
unread-from SerialNumber s e f = f
unread-from (Ranging left) s e f = count1 s left e f
unread-from Operation s e f = f
unread-from (Intermittent left) s e f = count2 s left f
unread-from EmergencyStop s e f = f

pub unread-forgotten : (s : Station) → Forgotten s → Forgotten (unread_time_lem s)
unfolding unread_time_lem unread_state_lem silence
unread-forgotten s f = unread-from s.activation s refl f

-- ---- messages

identified : (s : Station) → holds_identity_lem s.activation ≡ true → (l : Link) → Forgotten (with_link_lem s l)
identified s i l h = absurd (true≢false (sym i ∙ h))

change_forgotten : (s : Station) (c : Change) → ValidChange s c → Forgotten s → Forgotten (apply_change_lem s c)
unfolding identify range set_delay_lem
change_forgotten s Keep v f = f
change_forgotten s (Identify onu) v f = λ h. absurd (true≢false h)
change_forgotten s (Range delay) v f = λ h. absurd (true≢false h)
change_forgotten s (Delay delay) v f = identified s v (with_delay_lem s.link delay)
change_forgotten s (AddAlloc id) v f = identified s v.0 (with_allocs_lem s.link (add_alloc s.link.allocs id))
change_forgotten s (RemoveAlloc id) v f = identified s v (with_allocs_lem s.link (remove_alloc s.link.allocs id))
change_forgotten s (Enter a) v f = enter-forgotten s a

-- an answer is owed only where the change leaves an identity
pub still_identified
    : (s : Station) (c : Change) → holds_identity_lem s.activation ≡ true → steady c ≡ true
    → holds_identity_lem (apply_change_lem s c).activation ≡ true
unfolding identify range set_delay_lem
still_identified s Keep i t = i
still_identified s (Identify onu) i t = refl
still_identified s (Range delay) i t = refl
still_identified s (Delay delay) i t = i
still_identified s (AddAlloc id) i t = i
still_identified s (RemoveAlloc id) i t = i
still_identified s (Enter a) i t = absurd (false≢true t)

debt_forgotten
    : (s : Station) (c : Change) (d : Option Owed) → ValidDebt s c d → Forgotten (apply_change_lem s c) → Forgotten (apply_debt_lem (apply_change_lem s c) d)
debt_forgotten s c None v f = f
debt_forgotten s c (Some answer) v f =
    let t = apply_change_lem s c in
    identified t (still_identified s c v.0 v.1) (with_owed_lem t.link (owe t.link.owed answer))

applied-forgotten : (s : Station) (e : Effect) → Valid s e → Forgotten s → Forgotten (applied s e)
unfolding applied
applied-forgotten s e v f =
    debt_forgotten s e.change e.debt v.1 (change_forgotten s e.change v.0 f)

pub act-forgotten : (s : Station) (g : Bool) (m : Message) → Forgotten s → Forgotten (act s g m)
act-forgotten s g m f = rw (order_of_tests s g m) (go g)
  where
    go : (g : Bool) → Forgotten (cond g (applied s (decision s m)) s)
    go true = applied-forgotten s (decision s m) (decision-valid s m) f
    go false = f

acting-forgotten : (s : Station) (g : Bool) (r : Option Message) → Forgotten s → Forgotten (acting s g r)
acting-forgotten s g (Some message) f = act-forgotten s g message f
acting-forgotten s g None f = f

receive-forgotten : (s : Station) (m : List ℕ) → Forgotten s → Forgotten (receive s m)
unfolding receive
receive-forgotten s m f = acting-forgotten s (genuine (installed_key_lem s.link.key.held s.link.key.octets) m) (received m) f

-- every message of every frame
pub messages-forgotten : (s : Station) (l : List (List ℕ)) → Forgotten s → Forgotten (receive_all s l)
messages-forgotten s [] f = f
messages-forgotten s (m ∷ l) f = messages-forgotten (receive s m) l (receive-forgotten s m f)

-- ---- replies and host calls

after-in : (a : Activation) (s : Station) → s.activation ≡ a → Forgotten s → Forgotten (after_in a s)
after-in Initial s e f = f
after-in SerialNumber s e f = f
after-in (Ranging left) s e f = f
after-in Operation s e f = identified s (ap holds_identity_lem e) (with_owed_lem s.link (paid s.link.owed))
after-in (Intermittent left) s e f = f
after-in EmergencyStop s e f = f

pub reply_forgotten : (s : Station) → Forgotten s → Forgotten (after_reply_lem s)
unfolding after_reply_lem
reply_forgotten s f = after-in s.activation s refl f

settled : (b : Bool) (was next : Station) → Forgotten was → (b ≡ true → Forgotten next) → Forgotten (cond b next was)
settled true was next f g = g refl
settled false was next f g = f

pub add-forgotten : (s : Station) (p : PortId) → Forgotten s → Forgotten (after_add s p).station
unfolding after_add
add-forgotten s p f = settled (done (answer_to_add_lem s p)) s (with_ports_lem s (add_port_lem s.ports p)) f (λ e. f)

pub remove_forgotten : (s : Station) (p : PortId) → Forgotten s → Forgotten (after_remove s p).station
unfolding after_remove
remove_forgotten s p f = settled (done (answer_to_remove_lem s p)) s (with_ports_lem s (remove_port_lem s.ports p)) f (λ e. f)

-- a key is taken only by a station that holds an identity
key_taken : (s : Station) (r i : Bool) → holds_identity_lem s.activation ≡ i → done (cond r StateOutOfRange (cond i Done KeyRefused)) ≡ true → i ≡ true
key_taken s true i e h = absurd (false≢true h)
key_taken s false true e h = refl
key_taken s false false e h = absurd (false≢true h)

pub key_forgotten : (s : Station) (octets : List ℕ) → Forgotten s → Forgotten (after_key s octets).station
unfolding after_key answer_to_key_lem
key_forgotten s octets f =
    settled (done (answer_to_key_lem s)) s (with_link_lem s (with_key_lem s.link (installed octets))) f
    (λ e. identified s (key_taken s (not (in_range s)) (holds_identity_lem s.activation) refl e) (with_key_lem s.link (installed octets)))
