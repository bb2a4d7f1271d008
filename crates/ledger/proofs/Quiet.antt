-- What gives and takes nothing: a reply, the payload's ports, the words carried over, and the host's calls leave the state,
-- the ONU-ID and the Alloc-IDs as they are.
-- Assumes nothing.
use Prim.Native.Nat.{ℕ}
use mathlib.Core.Path.{◌≡◌, refl, ap}
use mathlib.Core.Bool.{Bool, true, false, cond}
use mathlib.Core.List.{List}
use Rattle.ids.specs.declared.PortId.{PortId}
use Rattle.station.specs.declared.Activation.{Activation}
use Rattle.station.specs.declared.Activation.TheVariants.{Initial, SerialNumber, Ranging, Operation, Intermittent, EmergencyStop}
use Rattle.station.specs.declared.Station.{Station}
use Rattle.ports.specs.declared.Ports.{Ports}
use Rattle.link.specs.Link.{with_key_lem, installed}
use Rattle.ports.specs.Ports.{add_port_lem, remove_port_lem}
use Rattle.station.specs.Station.{with_link_lem, with_ports_lem, with_carried_lem}
use Rattle.replies.specs.Replying.{after_in, after_reply_lem}
use Rattle.host.specs.Host.{done, answer_to_add_lem, answer_to_remove_lem, answer_to_key_lem, after_add, after_remove, after_key}
use Rattle.entries.specs.declared.Own.{Own}
use Rattle.ledger.specs.Ledger.{holds}
use Rattle.ledger.specs.Plan.{own_of}
use Rattle.ledger.proofs.Turns.{holds_own}

reply-in : (a : Activation) (s : Station) → own_of (after_in a s) ≡ own_of s
reply-in Initial s = refl
reply-in SerialNumber s = refl
reply-in (Ranging left) s = refl
reply-in Operation s = refl
reply-in (Intermittent left) s = refl
reply-in EmergencyStop s = refl

pub reply_quiet : (s : Station) → own_of (after_reply_lem s) ≡ own_of s
unfolding after_reply_lem
reply_quiet s = reply-in s.activation s

pub ports_quiet : (s : Station) (p : Ports) → own_of (with_ports_lem s p) ≡ own_of s
ports_quiet s p = refl

pub carried_quiet : (s : Station) (words : ℕ) → own_of (with_carried_lem s words) ≡ own_of s
carried_quiet s words = refl

settled : (b : Bool) (was next : Station) → own_of next ≡ own_of was → own_of (cond b next was) ≡ own_of was
settled true was next e = e
settled false was next e = refl

pub add_quiet : (s : Station) (port : PortId) → own_of (after_add s port).station ≡ own_of s
unfolding after_add
add_quiet s port = settled (done (answer_to_add_lem s port)) s (with_ports_lem s (add_port_lem s.ports port)) refl

pub remove_quiet : (s : Station) (port : PortId) → own_of (after_remove s port).station ≡ own_of s
unfolding after_remove
remove_quiet s port = settled (done (answer_to_remove_lem s port)) s (with_ports_lem s (remove_port_lem s.ports port)) refl

pub key_quiet : (s : Station) (octets : List ℕ) → own_of (after_key s octets).station ≡ own_of s
unfolding after_key
key_quiet s octets = settled (done (answer_to_key_lem s)) s (with_link_lem s (with_key_lem s.link (installed octets))) refl

-- stations that are alike in these three hold the same numbers
pub held-alike : (s t : Station) → own_of t ≡ own_of s → (n : ℕ) → holds t n ≡ holds s n
unfolding holds
held-alike s t e n = ap (λ (o : Own). holds_own o n) e
