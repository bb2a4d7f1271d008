-- The octets of a buffer that can be no state's; every other octet belongs to a field that has all its numbers.
-- Assumes nothing.
use Rattle.std.specs.Prelude.{ℕ, zero, suc, ◌+◌, List, Bool, true, ◌&&◌, not, eqb, leb, get_or, drop}
use Rattle.octets.specs.Octets.{value}
use Rattle.station.specs.States.{state_number}
use Rattle.ports.specs.Limits.{slots}
use Rattle.link.specs.Limits.{most_owed}
use Rattle.layout.specs.Rows.{part}
use Rattle.layout.specs.Offsets.{number_at, number_width, time_at, time_width, version_at, state_version, activation_at, activation_width, link_at, key_at, held_at, queue_at, answers_at, answer_width, answers_width, ports_at, waiting_at, mark_width, waiting_width}
use Rattle.layout.specs.Layout.{activation_of, time_left_lem}

-- the number is the state's, and the time is 0 where the state carries none
unfoldable pub activation_known_lem : List ℕ → Bool
activation_known_lem c = eqb (state_number (activation_of c)) (value (part number_at number_width c)) && eqb (time_left_lem (activation_of c)) (value (part time_at time_width c))

-- a mark is 1 or 0
abbrev pub mark_known_lem : ℕ → Bool
mark_known_lem number = leb number 1

-- a Registration is 0, an Acknowledgement its completion code plus 1; code 2, busy (11.3.4.4), is never sent
abbrev pub answer_known_lem : ℕ → Bool
answer_known_lem number = leb number 6 && not (eqb number 3)

-- the first octet of each of n fields, so many octets wide
abbrev pub each_known : (ℕ → Bool) → ℕ → ℕ → List ℕ → Bool
each_known f width zero c = true
each_known f width (suc n) c = f (get_or c 0 0) && each_known f width n (drop width c)

-- the version, the activation, the mark of a held key, the answers, and the marks of ports that wait
abbrev pub octets_known_lem : List ℕ → Bool
octets_known_lem b =
    eqb (get_or b version_at 0) state_version
    && (activation_known_lem (part activation_at activation_width b)
    && (mark_known_lem (get_or b (link_at + key_at + held_at) 0)
    && (each_known answer_known_lem answer_width most_owed (part (link_at + queue_at + answers_at) answers_width b)
    && each_known mark_known_lem mark_width slots (part (ports_at + waiting_at) waiting_width b))))
