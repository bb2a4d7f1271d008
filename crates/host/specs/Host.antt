-- The host's calls: the answers of the paper's table in the order of their numbers, and what each leaves.
-- Assumes nothing.
use Rattle.std.specs.Prelude.{ℕ, ◌≡◌, List, Bool, not, cond, eqb}
use Rattle.ids.specs.declared.PortId.{PortId}
use Rattle.ids.specs.Ids.{assignable_port}
use Rattle.answers.specs.declared.Answer.{Answer}
use Rattle.answers.specs.declared.Answer.TheVariants.{Done, StateOutOfRange, PortOutOfRange, PortHeldOrNotHeld, SlotsTaken, KeyRefused}
use Rattle.answers.specs.Answers.{answer_number}
use Rattle.station.specs.declared.Outcome.{Outcome}
use Rattle.station.specs.declared.Station.{Station}
use Rattle.ids.specs.Places.{is_held}
use Rattle.station.specs.States.{holds_identity_lem}
use Rattle.link.specs.Link.{with_key_lem, installed}
use Rattle.ports.specs.Ports.{port_place, vacancy, add_port_lem, remove_port_lem}
use Rattle.station.specs.Station.{with_link_lem, with_ports_lem}
use Rattle.validity.specs.Ranges.{in_range}

abbrev pub done : Answer → Bool
done answer = eqb (answer_number answer) 0

-- "nothing changed" after each of 1, 7, 8, 9 and 10
abbrev pub outcome : Answer → Station → Station → Outcome
outcome answer was next = record { answer = answer; station = cond (done answer) next was }

-- 1, 7: "port outside 1,023 to 65,534", 8: "added port held already", 9: "all 16 slots taken"
unfoldable pub answer_to_add_lem : Station → PortId → Answer
answer_to_add_lem s port =
    cond (not (in_range s)) StateOutOfRange
    (cond (not (assignable_port port)) PortOutOfRange
    (cond (is_held (port_place s.ports port)) PortHeldOrNotHeld (cond (is_held (vacancy s.ports)) Done SlotsTaken)))

-- 1, 7, 8: "removed port not held"
unfoldable pub answer_to_remove_lem : Station → PortId → Answer
answer_to_remove_lem s port =
    cond (not (in_range s)) StateOutOfRange
    (cond (not (assignable_port port)) PortOutOfRange
    (cond (is_held (port_place s.ports port)) Done
    PortHeldOrNotHeld))

-- 1, 10: "key given in O1, O2-3, O7"
unfoldable pub answer_to_key_lem : Station → Answer
answer_to_key_lem s = cond (not (in_range s)) StateOutOfRange (cond (holds_identity_lem s.activation) Done KeyRefused)

-- "Adding takes the lowest empty slot"
unfoldable pub after_add : Station → PortId → Outcome
after_add s port = outcome (answer_to_add_lem s port) s (with_ports_lem s (add_port_lem s.ports port))

unfoldable pub after_remove : Station → PortId → Outcome
after_remove s port = outcome (answer_to_remove_lem s port) s (with_ports_lem s (remove_port_lem s.ports port))

unfoldable pub after_key : Station → List ℕ → Outcome
after_key s octets = outcome (answer_to_key_lem s) s (with_link_lem s (with_key_lem s.link (installed octets)))

-- ---- the contracts: what the call returns is this and nothing else

abbrev pub AddLeaves : Station → PortId → Outcome → Type 0
AddLeaves s port r = r ≡ after_add s port

abbrev pub RemoveLeaves : Station → PortId → Outcome → Type 0
RemoveLeaves s port r = r ≡ after_remove s port

abbrev pub KeyLeaves : Station → List ℕ → Outcome → Type 0
KeyLeaves s octets r = r ≡ after_key s octets
