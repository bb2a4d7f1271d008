-- What is no state's octets, field by field: where octets are read, the version, the activation and each mark are those of the
-- state. So another version, an unknown state, a time in a state that carries none and a mark other than 0 and 1 are refused.
-- Assumes nothing.
use mathlib.Core.Path.{◌≡◌, refl, sym, ap, subst, ◌∙◌}
use mathlib.Core.List.{List, [], ◌∷◌, ◌++◌}
use mathlib.Core.Bool.{false}
use Prim.Native.Nat.{ℕ, ◌+◌, ◌≤◌}
use native.Mathlib.Omega.{arith}
use lib.ListN.{length, get_or, take, drop, length-take, length-drop}
use lib.Seq.{take-take}
use borrow.Author.Tests.{ne_eqb, le-leb}
use Rattle.integrity.specs.Integrity.{same}
use Rattle.octets.specs.Octets.{value, octets}
use Rattle.xgem.specs.Reads.{fields, unreadable}
use Rattle.station.specs.declared.Station.{Station}
use Rattle.station.specs.Limits.{serial_octets_lem, registration_octets_lem}
use Rattle.link.specs.Limits.{added_allocs, most_owed, key_octets}
use Rattle.ports.specs.Limits.{slots, added_ports}
use Rattle.layout.specs.Rows.{part, each}
use Rattle.layout.specs.Offsets.{version_at, version_width, state_version, id_width, mark_width, activation_at, activation_width, alloc_ids_at, alloc_ids_width, allocs_at, allocs_width, key_octets_at, key_at, key_width, answer_width, answers_at, answers_width, queue_at, queue_width, link_at, link_width}
use Rattle.layout.specs.Offsets.{port_ids_at, port_ids_width, lengths_at, length_width, lengths_width, waiting_at, waiting_width, serial_at_lem, registration_at, ports_at, ports_width, carried_at, words_width, state_bytes}
use Rattle.layout.specs.Layout.{activation_octets, identity_octets, alloc_of, port_of, mark_of_lem, owed_of, allocs_of, key_of, queue_of, link_of, link_octets, ports_of, ports_octets, encoded, shown, read_of, decoded}
use Rattle.layout.specs.Typed.{Sized}
use Rattle.layout.proofs.Laws.{many-length}
use Rattle.layout.proofs.Fields.{front, back}
use Rattle.layout.proofs.RoundTrips.{i4, i5, a2, read_written, room_read, read_shown}

pub part_length : (o w : ℕ) (b : List ℕ) → o + w ≤ length b → length (part o w b) ≡ w
part_length o w b h = simp (length-take, length-drop) (omega arith)

shown-sized : (b : List ℕ) → state_bytes ≤ length b → Sized (shown b)
unfolding shown link_of allocs_of key_of queue_of ports_of
shown-sized b h =
    let l : length (part link_at link_width b) ≡ link_width = part_length link_at link_width b (omega arith) in
    let k : length (part key_at key_width (part link_at link_width b)) ≡ key_width = part_length key_at key_width (part link_at link_width b) (omega arith) in
    record {
      serial = part_length serial_at_lem serial_octets_lem b (omega arith);
      registration = part_length registration_at registration_octets_lem b (omega arith);
      allocs = many-length alloc_of id_width added_allocs (part alloc_ids_at alloc_ids_width (part allocs_at allocs_width (part link_at link_width b)));
      key = part_length key_octets_at key_octets (part key_at key_width (part link_at link_width b)) (omega arith);
      answers = many-length owed_of answer_width most_owed (part answers_at answers_width (part queue_at queue_width (part link_at link_width b)));
      ports = many-length port_of id_width added_ports (part port_ids_at port_ids_width (part ports_at ports_width b));
      lengths = many-length value length_width slots (part lengths_at lengths_width (part ports_at ports_width b));
      waiting = many-length mark_of_lem mark_width slots (part waiting_at waiting_width (part ports_at ports_width b));
    }

module _ (b : List ℕ) (s : Station) (h : decoded b ≡ fields s) where
  sized : Sized s
  sized = subst Sized (read_shown b s h) (shown-sized b (room_read b s h))

  pub version_form : take version_width b ≡ state_version ∷ []
  unfolding encoded
  version_form = sym (take-take version_width state_bytes b (omega arith)) ∙ ap (take version_width) (sym (read_written b s h))

  pub activation_form : part activation_at activation_width (take state_bytes b) ≡ activation_octets s.activation
  unfolding encoded
  activation_form = ap (part activation_at activation_width) (sym (read_written b s h))

  pub ports_form : part ports_at ports_width (take state_bytes b) ≡ ports_octets s.ports
  unfolding encoded
  ports_form =
      let i : List ℕ = identity_octets s.activation s.serial s.registration in
      ap (part ports_at ports_width) (sym (read_written b s h))
      ∙ front ((i ++ link_octets s.link) ++ ports_octets s.ports) (octets words_width s.carried) ports_at ports_width (omega (arith, i5 s sized))
      ∙ back (i ++ link_octets s.link) (ports_octets s.ports) ports_at ports_width (i4 s sized) (a2 s sized)

-- ---- a state of another version, whatever else stands in it

first_of_two : (n m : ℕ) (x y : List ℕ) → (m ≡ n → ⊥) → same (n ∷ x) (m ∷ y) ≡ false
unfolding same
first_of_two n m x y h = rw (ne_eqb n m (λ e. h (sym e)))

not_its_version : (s : Station) (b : List ℕ) → (get_or b version_at 0 ≡ state_version → ⊥) → same (encoded s) (take state_bytes b) ≡ false
unfolding encoded same
not_its_version s [] h = refl
not_its_version s (n ∷ b) h = first_of_two state_version n (drop 1 (encoded s)) (take (carried_at + 1) b) h

pub another_version_unreadable
    : (b : List ℕ) → state_bytes ≤ length b → (get_or b version_at 0 ≡ state_version → ⊥) → decoded b ≡ unreadable
unfolding read_of
another_version_unreadable b r h = rw (le-leb state_bytes (length b) r, not_its_version (shown b) b h)
