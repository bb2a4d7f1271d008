-- Each state has exactly one byte form: octets are read as a state exactly where they are that state's octets.
-- Assumes nothing.
use mathlib.Core.Path.{◌≡◌, refl, sym, ap, ap₂, ◌∙◌}
use mathlib.Core.Bool.{Bool, true, false}
use mathlib.Core.List.{List, ◌++◌}
use Prim.Native.Nat.{ℕ, ◌+◌, ◌≤◌}
use native.Mathlib.Omega.{arith}
use lib.Dec.{leb}
use lib.ListN.{length, take, drop, length-append, take-append-drop}
use lib.Seq.{take_at, length-take-le}
use borrow.Author.Tests.{le-leb, leb-true}
use Rattle.octets.specs.Octets.{value, octets}
use Rattle.xgem.specs.Reads.{Found, fields, unreadable, short, found_in}
use Rattle.octets.proofs.Numbers.{value-octets}
use Rattle.integrity.specs.Integrity.{same}
use Rattle.integrity.proofs.Same.{same_refl, same-equal}
use Rattle.station.specs.declared.Station.{Station}
use Rattle.station.specs.Limits.{serial_octets_lem, registration_octets_lem}
use Rattle.layout.specs.Rows.{part}
use Rattle.layout.specs.Offsets.{version_width, state_version, activation_at, activation_width, serial_at_lem, registration_at, link_at, link_width, ports_at, ports_width, carried_at, words_width, state_bytes}
use Rattle.layout.specs.Layout.{activation_octets, activation_of, identity_octets, link_octets, link_of, ports_octets, ports_of, encoded, shown, read_of, decoded, stored}
use Rattle.layout.specs.Typed.{Sized, Typed}
use Rattle.layout.proofs.Laws.{joined}
use Rattle.layout.proofs.Answers.{read_held}
use Rattle.layout.proofs.Fields.{front, back, activation_back, link_length, link-back, ports_length, ports_back}

module _ (s : Station) (t : Sized s) where
  i2 : length ((octets version_width state_version ++ activation_octets s.activation) ++ s.serial) ≡ registration_at
  i2 = joined (octets version_width state_version ++ activation_octets s.activation) s.serial serial_at_lem serial_octets_lem refl t.serial

  i3 : length (identity_octets s.activation s.serial s.registration) ≡ link_at
  i3 = joined ((octets version_width state_version ++ activation_octets s.activation) ++ s.serial) s.registration registration_at registration_octets_lem i2 t.registration

  a1 : length (link_octets s.link) ≡ link_width
  a1 = link_length s.link t.allocs t.key t.answers

  pub a2 : length (ports_octets s.ports) ≡ ports_width
  a2 = ports_length s.ports t.ports t.lengths t.waiting

  pub i4 : length (identity_octets s.activation s.serial s.registration ++ link_octets s.link) ≡ ports_at
  i4 = joined (identity_octets s.activation s.serial s.registration) (link_octets s.link) link_at link_width i3 a1

  pub i5 : length ((identity_octets s.activation s.serial s.registration ++ link_octets s.link) ++ ports_octets s.ports) ≡ carried_at
  i5 = joined (identity_octets s.activation s.serial s.registration ++ link_octets s.link) (ports_octets s.ports) ports_at ports_width i4 a2

  pub encoded-length : length (encoded s) ≡ state_bytes
  unfolding encoded
  encoded-length = joined ((identity_octets s.activation s.serial s.registration ++ link_octets s.link) ++ ports_octets s.ports) (octets words_width s.carried) carried_at words_width i5 refl

  module _ (rest : List ℕ) where
    pub in-state : (o w : ℕ) → o + w ≤ state_bytes → part o w (encoded s ++ rest) ≡ part o w (encoded s)
    in-state o w h = front (encoded s) rest o w (omega (arith, encoded-length))

module _ (s : Station) (t : Typed s) (rest : List ℕ) where
  -- what the octets of a state show is the state
  shown_back : shown (encoded s ++ rest) ≡ s
  unfolding shown encoded
  shown_back =
      let a : List ℕ = activation_octets s.activation in
      let v : List ℕ = octets version_width state_version ++ a in
      let i : List ℕ = identity_octets s.activation s.serial s.registration in
      let l : List ℕ = link_octets s.link in
      let p : List ℕ = ports_octets s.ports in
      let c : List ℕ = octets words_width s.carried in
      let inner : (o w : ℕ) → o + w ≤ link_at → part o w (encoded s ++ rest) ≡ part o w i = λ o w h. in-state s t.sized rest o w (omega arith) ∙ front ((i ++ l) ++ p) c o w (omega (arith, (i5 s t.sized))) ∙ front (i ++ l) p o w (omega (arith, (i4 s t.sized))) ∙ front i l o w (omega (arith, (i3 s t.sized))) in
      let n1 : part activation_at activation_width (encoded s ++ rest) ≡ a = inner activation_at activation_width (omega arith) ∙ front (v ++ s.serial) s.registration activation_at activation_width (omega (arith, (i2 s t.sized))) ∙ refl in
      let n2 : part serial_at_lem serial_octets_lem (encoded s ++ rest) ≡ s.serial = inner serial_at_lem serial_octets_lem (omega arith) ∙ front (v ++ s.serial) s.registration serial_at_lem serial_octets_lem (omega (arith, (i2 s t.sized))) ∙ back v s.serial serial_at_lem serial_octets_lem refl t.sized.serial in
      let n3 : part registration_at registration_octets_lem (encoded s ++ rest) ≡ s.registration = inner registration_at registration_octets_lem (omega arith) ∙ back (v ++ s.serial) s.registration registration_at registration_octets_lem (i2 s t.sized) t.sized.registration in
      let n4 : part link_at link_width (encoded s ++ rest) ≡ l = in-state s t.sized rest link_at link_width (omega arith) ∙ front ((i ++ l) ++ p) c link_at link_width (omega (arith, (i5 s t.sized))) ∙ front (i ++ l) p link_at link_width (omega (arith, (i4 s t.sized))) ∙ back i l link_at link_width (i3 s t.sized) (a1 s t.sized) in
      let n5 : part ports_at ports_width (encoded s ++ rest) ≡ p = in-state s t.sized rest ports_at ports_width (omega arith) ∙ front ((i ++ l) ++ p) c ports_at ports_width (omega (arith, (i5 s t.sized))) ∙ back (i ++ l) p ports_at ports_width (i4 s t.sized) (a2 s t.sized) in
      let n6 : part carried_at words_width (encoded s ++ rest) ≡ octets words_width s.carried = in-state s t.sized rest carried_at words_width (omega arith) ∙ back ((i ++ l) ++ p) c carried_at words_width (i5 s t.sized) refl in
      let f1 = ap activation_of n1 ∙ activation_back s.activation t.left in
      let f4 = ap link_of n4 ∙ link-back s.link t.sized.allocs t.sized.key t.sized.answers t.onu t.alloc_ids t.alloc_count t.delay t.owed_count in
      let f5 = ap ports_of n5 ∙ ports_back s.ports t.sized.ports t.sized.lengths t.sized.waiting t.port_ids t.partials in
      let f6 = ap value n6 ∙ value-octets words_width s.carried t.carried in
      λ j. record { activation = f1 j; serial = n2 j; registration = n3 j; link = f4 j; ports = f5 j; carried = f6 j }

  -- written and read again, a state is the same, whatever stands behind it in the buffer
  pub written_read : decoded (encoded s ++ rest) ≡ fields s
  written_read =
      let b : List ℕ = encoded s ++ rest in
      let room : state_bytes ≤ length b = omega (arith, (encoded-length s t.sized), length-append (encoded s) rest) in
      let front-is : take state_bytes b ≡ encoded s = take_at (encoded s) rest state_bytes (encoded-length s t.sized) in
      let alike : same (encoded (shown b)) (take state_bytes b) ≡ true = ap₂ same (ap encoded shown_back) front-is ∙ same_refl (encoded s) in
      ap found_in (sym (read_held b s room (sym shown_back) alike))

-- ---- octets that are read are those of the state they are read as

same_fields : {x y : Station} → ◌≡◌ {A = Found Station} (fields x) (fields y) → x ≡ y
same_fields e = cc

not_fields : {x : Station} → ◌≡◌ {A = Found Station} unreadable (fields x) → ⊥
not_fields e = let z : ◌≡◌ {A = ℕ} 0 1 = cc in omega arith

short_not : {x : Station} → ◌≡◌ {A = Found Station} short (fields x) → ⊥
short_not e = let z : ◌≡◌ {A = ℕ} 0 1 = cc in omega arith

by_test : (b : List ℕ) (s : Station) (fit alike : Bool) → leb state_bytes (length b) ≡ fit → same (encoded (shown b)) (take state_bytes b) ≡ alike
    → decoded b ≡ fields s → (encoded s ≡ take state_bytes b) × (state_bytes ≤ length b) × (shown b ≡ s)
unfolding read_of
by_test b s true true e f h =
    let q : shown b ≡ s = same_fields (rw (e, f) at h) in
    (ap encoded (sym q) ∙ same-equal (encoded (shown b)) (take state_bytes b) f, leb-true state_bytes (length b) e, q)
by_test b s true false e f h = absurd (not_fields (rw (e, f) at h))
by_test b s false alike e f h = absurd (short_not (rw e at h))

pub read_written : (b : List ℕ) (s : Station) → decoded b ≡ fields s → encoded s ≡ take state_bytes b
read_written b s h = (by_test b s (leb state_bytes (length b)) (same (encoded (shown b)) (take state_bytes b)) refl refl h).0

pub room_read : (b : List ℕ) (s : Station) → decoded b ≡ fields s → state_bytes ≤ length b
room_read b s h = (by_test b s (leb state_bytes (length b)) (same (encoded (shown b)) (take state_bytes b)) refl refl h).1

pub read_shown : (b : List ℕ) (s : Station) → decoded b ≡ fields s → shown b ≡ s
read_shown b s h = (by_test b s (leb state_bytes (length b)) (same (encoded (shown b)) (take state_bytes b)) refl refl h).2

-- read and written again, a buffer is as it was
pub read_stored : (b : List ℕ) (s : Station) → decoded b ≡ fields s → stored s b ≡ b
unfolding stored
read_stored b s h =
    let room = room_read b s h in
    rw (le-leb state_bytes (length b) room)
    (ap (λ (l : List ℕ). l ++ drop (length l) b) (read_written b s h)
    ∙ ap (λ (n : ℕ). take state_bytes b ++ drop n b) (length-take-le state_bytes b room) ∙ take-append-drop state_bytes b)

-- two buffers that are read as one state have the same octets
pub one_form : (a b : List ℕ) (s : Station) → decoded a ≡ fields s → decoded b ≡ fields s → take state_bytes a ≡ take state_bytes b
one_form a b s p q = sym (read_written a s p) ∙ read_written b s q
