-- What is in the ledger was given by a message of the history, and its number stands in that message's octets.
-- Assumes nothing.
use Prim.Native.Nat.{ℕ, ◌%◌}
use mathlib.Core.Path.{◌≡◌, ◌∙◌, refl, sym, ap, subst}
use mathlib.Core.Logic.{◌↔◌}
use mathlib.Core.Bool.{Bool, true, false, ◌&&◌, ◌||◌, not, cond, false≢true}
use mathlib.Core.List.{List, [], ◌∷◌, ◌++◌}
use native.Mathlib.Omega.{arith}
use lib.Dec.{eqb, ltb}
use borrow.Author.Tests.{eqb-true, eq-eqb, leb-true}
use Rattle.ids.specs.Ids.{assignable_onu}
use Rattle.ploam.specs.declared.SerialNumber.{SerialNumber}
use Rattle.ploam.specs.declared.Switch.{Switch}
use Rattle.ploam.specs.declared.AllocChange.{AllocChange}
use Rattle.ploam.specs.declared.AllocChange.TheVariants.{Assign, Deallocate, OtherChange}
use Rattle.ploam.specs.declared.Content.{Content}
use Rattle.ploam.specs.declared.Content.TheVariants.{AssignOnuId, DeactivateOnuId, DisableSerialNumber, AssignAllocId}
use Rattle.ploam.specs.Layout.{number16, octet, type_of}
use Rattle.ploam.specs.Reading.{onu_in_lem, alloc_in_lem, serial_from, switch_of, change_of, content_as, content_of, message_of}
use Rattle.station.specs.declared.Station.{Station}
use Rattle.link.specs.declared.Allocs.{Allocs}
use Rattle.link.specs.Limits.{added_allocs}
use Rattle.station.specs.States.{holds_identity_lem, o23, o4}
use Rattle.link.specs.Link.{alloc_place}
use Rattle.decisions.specs.Decisions.{is_broadcast}
use Rattle.ids.specs.Places.{is_held}
use Rattle.validity.proofs.Tests.{both, not_so}
use Rattle.ledger.specs.Events.{Event, considered, ended, unread, lost, replied, walked, carried_over_lem, port_added, port_removed, key_given, station_of}
use Rattle.ledger.specs.Entries.{Entry, gave, took_back, took_all_back, neither, takes_back}
use Rattle.ledger.specs.Messages.{in_state, is_own, by_assign_onu_id, accepts_alloc_id, by_type, by_assign_alloc_id, by_deactivate, disabling, by_disable, by_content_lem, heeds, by_message}
use Rattle.ledger.specs.Times.{to1_ends, to2_ends}
use Rattle.ledger.specs.Ledger.{entry_of, ledger, InLedger}
use Rattle.ledger.specs.Promises.{Untaken, GivenBy}
use Rattle.ledger.proofs.Book.{posted, stands, in-stands, stands-in, or_right}

-- ---- the number stands in the octets

clash : {A : Type 0} → ◌≡◌ {A = ℕ} 0 1 → A
clash z =
    let f : ⊥ = omega arith in
    absurd f

-- a choice that can give k gives k or nothing
or_nothing : (b : Bool) (k n : ℕ) → cond b (gave k) neither ≡ gave n → (b ≡ true) × (n ≡ k)
or_nothing true k n e = (refl, cc)
or_nothing false k n e = clash (cc)

takes_only : (b : Bool) (n : ℕ) → cond b took_all_back neither ≡ gave n → ◌≡◌ {A = ℕ} 0 1
takes_only true n e = cc
takes_only false n e = cc

module _ (s : Station) (b : Bool) (m : List ℕ) (n : ℕ) where
  abbrev Numbered : Content → Type 0
  Numbered c = by_content_lem s b c ≡ gave n → n ≡ number16 m 5 % 16384

  pick : (t : Bool) (c d : Content) → Numbered c → Numbered d → Numbered (cond t c d)
  pick true c d p q = p
  pick false c d p q = q

  by_onu : (serial : SerialNumber) → Numbered (AssignOnuId (onu_in_lem m) serial)
  unfolding by_assign_onu_id
  by_onu serial e =
      let p = or_nothing (b && (in_state o23 s && (is_own s serial && assignable_onu (onu_in_lem m)))) (number16 m 5) n e in
      let q = (both b _ p.0).1 in
      let r = (both (in_state o23 s) _ q).1 in
      let l = leb-true (number16 m 5) 1022 (both (is_own s serial) (assignable_onu (onu_in_lem m)) r).1 in
      p.1 ∙ omega arith

  by-type : (allocs : Allocs) (c : AllocChange) → by_type allocs (alloc_in_lem m) c ≡ gave n → n ≡ number16 m 5 % 16384
  by-type allocs Assign e =
      (or_nothing (is_held (alloc_place allocs (alloc_in_lem m)) || ltb allocs.count added_allocs) (number16 m 5 % 16384) n e).1
  by-type allocs Deallocate e = clash (cc)
  by-type allocs OtherChange e = clash (cc)

  by_alloc : (c : AllocChange) → Numbered (AssignAllocId (alloc_in_lem m) c)
  unfolding by_assign_alloc_id
  by_alloc c e = go (accepts_alloc_id s b (alloc_in_lem m)) e
    where
      go : (t : Bool) → cond t (by_type s.link.allocs (alloc_in_lem m) c) neither ≡ gave n → n ≡ number16 m 5 % 16384
      go true e = by-type s.link.allocs c e
      go false e = clash (cc)

  by-deactivate : Numbered DeactivateOnuId
  unfolding by_deactivate
  by-deactivate e = clash (takes_only (holds_identity_lem s.activation) n e)

  by-disable : (switch : Switch) (serial : SerialNumber) → Numbered (DisableSerialNumber switch serial)
  unfolding by_disable
  by-disable switch serial e =
      clash (takes_only (b && (disabling (is_own s serial) switch && (holds_identity_lem s.activation || in_state o23 s))) n e)

  numbered : (type : ℕ) → Numbered (content_as type m)
  unfolding content_as
  numbered type =
      pick (eqb type 0x01) _ _ (λ e. clash (cc))
      (pick (eqb type 0x03) _ _ (by_onu (serial_from m 7))
      (pick (eqb type 0x04) _ _ (λ e. clash (cc))
      (pick (eqb type 0x05) _ _ by-deactivate
      (pick (eqb type 0x06) _ _ (by-disable (switch_of (octet m 5)) (serial_from m 6))
      (pick (eqb type 0x09) _ _ (λ e. clash (cc))
      (pick (eqb type 0x0a) _ _ (by_alloc (change_of (octet m 7)))
      (pick (eqb type 0x0d) _ _ (λ e. clash (cc))
      (pick (eqb type 0x12) _ _ (λ e. clash (cc))
      (λ e. clash (cc))))))))))

pub from_octets : (s : Station) (m : List ℕ) (n : ℕ) → by_message s m ≡ gave n → n ≡ number16 m 5 % 16384
unfolding by_message
from_octets s m n e = go (heeds s m) e
  where
    go : (t : Bool) → cond t (by_content_lem s (is_broadcast (message_of m)) (content_of m)) neither ≡ gave n → n ≡ number16 m 5 % 16384
    go true e = numbered s (is_broadcast (message_of m)) m n (type_of m) e
    go false e = clash (cc)

-- ---- only a message gives

gives_message : (first : Station) (h : List Event) (e : Event) (n : ℕ) → entry_of first h e ≡ gave n → (m : List ℕ) × (e ≡ considered m)
gives_message first h (considered m) n q = (m, refl)
gives_message first h (ended b) n q = clash (takes_only (to1_ends first h && b) n q)
gives_message first h unread n q = clash (takes_only (to1_ends first h || to2_ends first h) n q)
gives_message first h lost n q = clash (takes_only (in_state o4 (station_of first h) || to2_ends first h) n q)
gives_message first h replied n q = clash (cc)
gives_message first h (walked ports) n q = clash (cc)
gives_message first h (carried_over_lem words) n q = clash (cc)
gives_message first h (port_added port) n q = clash (cc)
gives_message first h (port_removed port) n q = clash (cc)
gives_message first h (key_given octets) n q = clash (cc)

module _ (first : Station) (n : ℕ) where
  later : (e : Event) (h : List Event) → takes_back n (entry_of first h e) ≡ false → GivenBy first h n → GivenBy first (e ∷ h) n
  later e h t g =
      record {
        since = e ∷ g.since;
        message = g.message;
        earlier = g.earlier;
        history = ap (λ (l : List Event). e ∷ l) g.history;
        given = g.given;
        number = g.number;
        kept = (subst (λ (l : List Event). takes_back n (entry_of first l e) ≡ false) g.history t, g.kept);
      }

  now_given : (e : Event) (h : List Event) (k : ℕ) → entry_of first h e ≡ gave k → n ≡ k → GivenBy first (e ∷ h) n
  now_given e h k q j =
      let m = gives_message first h e k q in
      let r : entry_of first h (considered m.0) ≡ gave k = subst (λ (x : Event). entry_of first h x ≡ gave k) m.1 q in
      let g : by_message (station_of first h) m.0 ≡ gave n = rw j r in
      record {
        since = [];
        message = m.0;
        earlier = h;
        history = ap (λ (x : Event). x ∷ h) m.1;
        given = g;
        number = from_octets (station_of first h) m.0 n g;
        kept = tt;
      }

  stands-given : (h : List Event) → stands (ledger first h) n ≡ true → GivenBy first h n
  stands-given [] t = absurd (false≢true t)
  stands-given (e ∷ h) t = go (entry_of first h e) refl t (stands-given h)
    where
      gift
          : (k : ℕ) → entry_of first h e ≡ gave k → (b : Bool) → eqb n k ≡ b → (b || stands (ledger first h) n) ≡ true
          → (stands (ledger first h) n ≡ true → GivenBy first h n) → GivenBy first (e ∷ h) n
      gift k q true j t ih = now_given e h k q (eqb-true n k j)
      gift k q false j t ih = later e h (rw q) (ih t)

      go
          : (x : Entry) → entry_of first h e ≡ x → posted x (stands (ledger first h)) n ≡ true
          → (stands (ledger first h) n ≡ true → GivenBy first h n) → GivenBy first (e ∷ h) n
      go (gave k) q t ih = gift k q (eqb n k) refl t ih
      go (took_back k) q t ih =
          let b = both (not (eqb n k)) (stands (ledger first h) n) t in
          later e h (rw q (not_so (eqb n k) b.0)) (ih b.1)
      go took_all_back q t ih = absurd (false≢true t)
      go neither q t ih = later e h (rw q) (ih t)

  -- ---- and what a message gave and nothing took back since is in the ledger

  stays-posted : (x : Entry) (f : ℕ → Bool) → takes_back n x ≡ false → f n ≡ true → posted x f n ≡ true
  stays-posted (gave k) f t e = or_right (eqb n k) (f n) e
  stays-posted (took_back k) f t e = rw (t, e)
  stays-posted took_all_back f t e = absurd (false≢true (sym t))
  stays-posted neither f t e = e

  given-stands
      : (since : List Event) (m : List ℕ) (earlier : List Event) → by_message (station_of first earlier) m ≡ gave n
      → Untaken first n since (considered m ∷ earlier) → stands (ledger first (since ++ (considered m ∷ earlier))) n ≡ true
  given-stands [] m earlier g u = rw (g, eq-eqb n n refl)
  given-stands (e ∷ since) m earlier g u =
      stays-posted (entry_of first (since ++ (considered m ∷ earlier)) e) (stands (ledger first (since ++ (considered m ∷ earlier)))) u.0
      (given-stands since m earlier g u.1)

  pub given_by : (h : List Event) → InLedger (ledger first h) n ↔ GivenBy first h n
  given_by h = (
    (λ i. stands-given h (in-stands (ledger first h) n i)),
    (λ g. stands-in (ledger first h) n (rw g.history (given-stands g.since g.message g.earlier g.given g.kept))),
  )
