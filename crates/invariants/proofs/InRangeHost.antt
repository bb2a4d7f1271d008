-- Every host call keeps a state in range in range.
-- Assumes nothing.
use Prim.Native.Nat.{ℕ, ◌+◌, ◌-◌, ◌<◌}
use mathlib.Core.Path.{◌≡◌, ◌∙◌, refl, sym}
use mathlib.Core.List.{List}
use mathlib.Core.Bool.{Bool, true, false, not, cond, false≢true, true≢false}
use native.Mathlib.Omega.{arith}
use lib.ListN.{length, length-set}
use borrow.Author.Tests.{not-false}
use Rattle.std.specs.Prelude.{None, Option, Some, ℕ}
use Rattle.ids.specs.declared.PortId.{PortId}
use Rattle.ids.specs.Ids.{assignable_port, same_port}
use Rattle.station.specs.declared.Station.{Station}
use Rattle.ports.specs.declared.Ports.{Ports}
use Rattle.ports.specs.Limits.{added_ports, slots}
use Rattle.ids.specs.Places.{some, is_held}
use Rattle.link.specs.Link.{with_key_lem, installed}
use Rattle.ports.specs.Ports.{no_port, port_place, vacancy, put_port_lem, add_port_lem, remove_port_lem}
use Rattle.station.specs.Station.{with_link_lem, with_ports_lem}
use Rattle.ids.proofs.Places.{place-below}
use Rattle.validity.specs.Ranges.{held, ports_fit_lem, partials_fit_lem, in_range}
use Rattle.host.specs.Host.{done, answer_to_add_lem, answer_to_remove_lem, answer_to_key_lem, after_add, after_remove, after_key}
use Rattle.host.specs.Host as host
use Rattle.answers.specs.declared.Answer.TheVariants.{Done, StateOutOfRange, PortOutOfRange, PortHeldOrNotHeld, SlotsTaken}
use Rattle.invariants.proofs.Lists.{found_some}
use Rattle.invariants.proofs.Slots.{some-held, set-fine, slot-changed}
use Rattle.invariants.proofs.InRange.{Sound}
use Rattle.invariants.proofs.InRangeLists.{added}

-- ---- the host's calls

pub with_ports_sound
    : (s : Station) (p : Ports) → length p.ids ≡ added_ports → length p.lengths ≡ slots → length p.waiting ≡ slots
    → ports_fit_lem p.ids ≡ true → partials_fit_lem p.ids p.lengths p.waiting ≡ true → Sound s → Sound (with_ports_lem s p)
with_ports_sound s p a b c t u f =
    record {
      allocs_long = f.allocs_long;
      answers-long = f.answers-long;
      ports_long = a;
      lengths_long = b;
      waiting_long = c;
      identity = f.identity;
      allocs = f.allocs;
      ports = t;
      partials = u;
      carried = f.carried;
      timer = f.timer;
      owed = f.owed;
    }

-- a port that can be assigned and is held by none comes into a slot, or a slot is emptied
Comes : Station → PortId → Type 0
Comes s p = same_port p no_port ≡ false → (assignable_port p ≡ true) × (some (same_port p) (held s.ports.ids) ≡ false)

put-sound
    : (s : Station) (p q : PortId) (x : Option ℕ) → port_place s.ports q ≡ x → Comes s p → Sound s
    → Sound (with_ports_lem s (put_port_lem s.ports p x))
unfolding ports_fit_lem Comes
put-sound s p q (Some i) e v f =
    let ids = s.ports.ids in
    let below = place-below (same_port q) 0 ids i e in
    let l = f.ports_long in
    let h : i + 1 < slots = omega arith in
    with_ports_sound s (put_port_lem s.ports p (Some i))
    (length-set ids i p ∙ f.ports_long)
    (length-set s.ports.lengths (i + 1) 0 ∙ f.lengths_long)
    (length-set s.ports.waiting (i + 1) true ∙ f.waiting_long)
    (set-fine ids i p f.ports v)
    (slot-changed ids s.ports.lengths s.ports.waiting i p f.lengths_long f.waiting_long h f.partials)
    f
put-sound s p q None e v f = f

settled : (b : Bool) (was next : Station) → Sound was → (b ≡ true → Sound next) → Sound (cond b next was)
settled true was next f g = g refl
settled false was next f g = f

-- what an answer 0 to an added port tells of it
added-told
    : (r a h v : Bool) → done (cond r StateOutOfRange (cond a PortOutOfRange (cond h PortHeldOrNotHeld (cond v Done SlotsTaken)))) ≡ true
    → (a ≡ false) × (h ≡ false)
added-told true a h v e = absurd (false≢true e)
added-told false true h v e = absurd (false≢true e)
added-told false false true v e = absurd (false≢true e)
added-told false false false v e = (refl, refl)

pub add-sound : (s : Station) (p : PortId) → Sound s → Sound (after_add s p).station
unfolding after_add answer_to_add_lem Comes
add-sound s p f =
    settled (done (answer_to_add_lem s p)) s (with_ports_lem s (add_port_lem s.ports p)) f
    (λ e.
    let t = added-told (not (in_range s)) (not (assignable_port p)) (is_held (port_place s.ports p)) (is_held (vacancy s.ports)) e in
    let n : some (same_port p) s.ports.ids ≡ false =
    sym (found_some (same_port p) 0 s.ports.ids) ∙ t.1 in
    put-sound s p no_port (vacancy s.ports) refl
    (λ k. (not-false (assignable_port p) t.0, some-held (same_port p) s.ports.ids n))
    f)

pub remove_sound : (s : Station) (p : PortId) → Sound s → Sound (after_remove s p).station
unfolding after_remove Comes
remove_sound s p f =
    settled (done (answer_to_remove_lem s p)) s (with_ports_lem s (remove_port_lem s.ports p)) f
    (λ e. put-sound s no_port p (port_place s.ports p) refl (λ k. absurd (true≢false k)) f)

pub key_sound : (s : Station) (octets : List ℕ) → Sound s → Sound (after_key s octets).station
unfolding after_key
key_sound s octets f =
    settled (done (answer_to_key_lem s)) s (with_link_lem s (with_key_lem s.link (installed octets))) f
    (λ e.
    record {
      allocs_long = f.allocs_long;
      answers-long = f.answers-long;
      ports_long = f.ports_long;
      lengths_long = f.lengths_long;
      waiting_long = f.waiting_long;
      identity = f.identity;
      allocs = f.allocs;
      ports = f.ports;
      partials = f.partials;
      carried = f.carried;
      timer = f.timer;
      owed = f.owed;
    })
