-- An SDU sent in fragments is delivered as the fragments in order: what the writer of XGEM frames lays out, walked, leaves
-- the whole SDU in the deliveries, and the walk goes on behind it.
-- Assumes nothing.
use mathlib.Core.Path.{◌≡◌, refl, sym, ap, ap₂, ◌∙◌, subst}
use mathlib.Core.Bool.{Bool, true, false, cond, ◌&&◌}
use mathlib.Core.List.{List, [], ◌∷◌, ◌++◌, append_assoc}
use Prim.Native.Nat.{ℕ, zero, suc, ◌+◌, ◌-◌, ◌^◌, ◌≤◌, ◌<◌}
use native.Mathlib.Omega.{arith}
use borrow.Author.Tests.{ne_eqb, le-leb, le-ltb, lt-ltb}
use lib.Dec.{eqb, ltb}
use lib.ListN.{length, get_or, take, drop, set, length-append, length-set}
use lib.Seq.{drop_at, get_or-set_same}
use Rattle.std.specs.Prelude.{Some, ℕ}
use Rattle.ids.specs.declared.PortId.{PortId}
use Rattle.bch.specs.Code.{distance}
use Rattle.hec.proofs.Words.{undamaged}
use Rattle.xgem.specs.declared.frame.XgemHeader.{XgemHeader}
use Rattle.octets.specs.Octets.{value, octets}
use Rattle.xgem.specs.Layouts.{xgem_fits, xgem_word, payload_size_lem}
use Rattle.xgem.specs.Reads.{Found, fields, read_xgem_lem}
use Rattle.xgem.specs.Writes.{carrying, padding, xgem_frame}
use Rattle.xgem.proofs.Numbers.{octets-length, value-octets}
use Rattle.xgem.proofs.Layouts.{xgem_true}
use Rattle.xgem.proofs.Frames.{frame-length}
use Rattle.xgem.proofs.RoundTrips.{frame-mended, octets-bytes}
use Rattle.ports.specs.Limits.{slots, sdu_bytes}
use Rattle.fragments.specs.declared.Reassembly.TheVariants.{Delivered, Appended}
use Rattle.fragments.specs.Fragments.{slot_of, at_slot_lem, at_place_lem, reassembly_of_lem}
use Rattle.payload.specs.declared.frames.Next.TheVariants.{Frame}
use Rattle.payload.specs.Frames.{next_of}
use Rattle.payload.specs.Memory.{Receiver, put, delivery, partial, extended, done, taken}
use Rattle.payload.specs.Bounds.{Ready}
use Rattle.payload.specs.Walk.{memory_bytes, walk_of}
use Rattle.payload.specs.Deliveries.{joined, fragment_header, written, sent}
use Rattle.payload.proofs.Slots.{length-extended, slot_holds}
use Rattle.payload.proofs.Reading.{frame-ahead}
use Rattle.payload.proofs.Walks.{walk_next}

-- a header whose fields fit
pub record Fits (x : XgemHeader) : Type 0 where
  pub key : x.key < 2 ^ 2
  pub port : x.port.0 < 2 ^ 16
  pub options : x.options < 2 ^ 18

header_fits : (x : XgemHeader) → Fits x → (last : Bool) (f : List ℕ) → length f ≤ sdu_bytes → xgem_fits (carrying (fragment_header x last) f) ≡ true
header_fits x h last f l =
    ap₂ ◌&&◌ (lt-ltb (length f) (2 ^ 14) (omega arith))
    (ap₂ ◌&&◌ (lt-ltb x.key (2 ^ 2) h.key) (ap₂ ◌&&◌ (lt-ltb x.port.0 (2 ^ 16) h.port) (lt-ltb x.options (2 ^ 18) h.options)))

-- what the writer laid out is found again: the frame, its bytes, and what stands behind it
module _ (x : XgemHeader) (h : Fits x) (last : Bool) (f rest : List ℕ) (l : length f ≤ sdu_bytes) where
  abbrev c : XgemHeader
  c = carrying (fragment_header x last) f

  abbrev whole : List ℕ
  whole = written x last f ++ rest

  laid : whole ≡ octets 8 (xgem_word c) ++ ((f ++ padding (length f)) ++ rest)
  laid = append_assoc (octets 8 (xgem_word c)) (f ++ padding (length f)) rest

  both : (read_xgem_lem whole ≡ fields c) × (take (length f) (drop 8 whole) ≡ f)
  both =
      rw laid
      (frame-mended (fragment_header x last) f (header_fits x h last f l) (octets 8 (xgem_word c)) rest (octets-length 8 (xgem_word c)) (octets-bytes 8 (xgem_word c))
      (subst (λ (v : ℕ). distance v (xgem_word c) ≤ 2) (sym (value-octets 8 (xgem_word c) (xgem_true c (header_fits x h last f l)).true.fits)) (undamaged (xgem_word c))))

  found : next_of whole ≡ Frame c
  found = sym (frame-ahead whole c (sym both.0) (omega (arith, length-append (written x last f) rest, frame-length c f)))

  behind : drop (8 + payload_size_lem (length f)) whole ≡ rest
  behind = drop_at (written x last f) rest (8 + payload_size_lem (length f)) (frame-length c f)

  walked_on : (own : PortId) (s : Receiver) (place : ℕ) → walk_of own s place whole ≡ walk_of own (taken own s x.port last f) (place + (8 + payload_size_lem (length f))) rest
  walked_on own s place =
      walk_next own s place whole c found
      ∙ ap₂ (λ (b r : List ℕ). walk_of own (taken own s x.port last b) (place + (8 + payload_size_lem (length f))) r) both.1 behind

-- the port's slot holds what has come of the SDU so far
pub record Holding (own : PortId) (s : Receiver) (port : PortId) (i : ℕ) (acc : List ℕ) : Type 0 where
  pub slot : slot_of s.ports own port ≡ Some i
  pub small : i < slots
  pub count : length s.ports.lengths ≡ slots
  pub clear : get_or s.ports.waiting i false ≡ false
  pub have : get_or s.ports.lengths i 0 ≡ length acc
  pub holds : partial s.memory i (length acc) ≡ acc
  pub memory : memory_bytes ≤ length s.memory

-- what a fragment does there
module _ (own : PortId) (s : Receiver) (port : PortId) (i : ℕ) (acc : List ℕ) (held : Holding own s port i acc) (f : List ℕ) (some : 0 < length f) (room : length acc + length f ≤ sdu_bytes) where
  effect : (last : Bool) → reassembly_of_lem s.ports own port last (length f) ≡ cond last (Delivered i (length acc)) (Appended i (length acc))
  effect last =
      rw (ne_eqb (length f) 0 (λ e. omega arith))
      (ap (at_place_lem s.ports.lengths s.ports.waiting last (length f)) held.slot
      ∙ ap₂ (λ (w : Bool) (n : ℕ). at_slot_lem i w n last (length f)) held.clear held.have
      ∙ rw (le-ltb sdu_bytes (length acc + length f) room))

  grown : memory_bytes ≤ length (extended s.memory i (length acc) f)
  grown = subst (λ (n : ℕ). memory_bytes ≤ n) (sym (length-extended s.memory i (length acc) f held.small room held.memory)) held.memory

  kept : Holding own (taken own s port false f) port i (acc ++ f)
  unfolding taken done
  kept =
      rw (effect false) (record {
        slot = held.slot;
        small = held.small;
        count = length-set s.ports.lengths i (length acc + length f) ∙ held.count;
        clear = held.clear;
        have = get_or-set_same s.ports.lengths i (length acc + length f) 0 (omega (arith, held.small, held.count)) ∙ sym (length-append acc f);
        holds =
            ap (partial (extended s.memory i (length acc) f) i) (length-append acc f)
            ∙ slot_holds s.memory i (length acc) f held.small room held.memory ∙ ap (λ (l : List ℕ). l ++ f) held.holds;
        memory = grown;
      })

  -- nothing of the deliveries changes
  quiet : ((taken own s port false f).deliveries ≡ s.deliveries) × ((taken own s port false f).bytes ≡ s.bytes)
  unfolding taken done
  quiet = rw (effect false) (refl, refl)

  -- and the last one delivers the whole
  delivered : ((taken own s port true f).deliveries ≡ put s.deliveries s.bytes (delivery port (acc ++ f))) × ((taken own s port true f).bytes ≡ s.bytes + (4 + length (acc ++ f)))
  unfolding taken done
  delivered =
      rw (effect true)
      (ap (λ (l : List ℕ). put s.deliveries s.bytes (delivery port (l ++ f))) held.holds, ap (λ (n : ℕ). s.bytes + (4 + n)) (sym (length-append acc f)))

-- each fragment has bytes
abbrev pub AllSome : List (List ℕ) → List ℕ → Type 0
AllSome [] last = 0 < length last
AllSome (f ∷ fragments) last = (0 < length f) × AllSome fragments last

-- behind the fragments the walk goes on with a receiver whose deliveries hold the whole SDU
pub record Arrived (own : PortId) (s : Receiver) (port : PortId) (sdu : List ℕ) (place : ℕ) (octets rest : List ℕ) : Type 0 where
  pub after : Receiver
  pub further : ℕ
  pub goes_on : walk_of own s place octets ≡ walk_of own after further rest
  pub deliveries : after.deliveries ≡ put s.deliveries s.bytes (delivery port sdu)
  pub bytes : after.bytes ≡ s.bytes + (4 + length sdu)

pub reassembled : (own : PortId) (s : Receiver) (x : XgemHeader) (i : ℕ) (acc : List ℕ) (fragments : List (List ℕ)) (last rest : List ℕ) (place : ℕ)
    → Fits x → Holding own s x.port i acc → AllSome fragments last → length acc + length (joined fragments last) ≤ sdu_bytes
    → Arrived own s x.port (acc ++ joined fragments last) place (sent x fragments last rest) rest
reassembled own s x i acc [] last rest place fits held some room =
    let d = delivered own s x.port i acc held last some room in
    record {
      after = taken own s x.port true last;
      further = place + (8 + payload_size_lem (length last));
      goes_on = walked_on x fits true last rest (omega arith) own s place;
      deliveries = d.0;
      bytes = d.1;
    }
reassembled own s x i acc (f ∷ fragments) last rest place fits held some room =
    let l : length (f ++ joined fragments last) ≡ length f + length (joined fragments last) = length-append f (joined fragments last) in
    let m : length acc + length f ≤ sdu_bytes = omega arith in
    let q = quiet own s x.port i acc held f some.0 m in
    let s' : Receiver = taken own s x.port false f in
    let r = reassembled own s' x i (acc ++ f) fragments last rest (place + (8 + payload_size_lem (length f))) fits (kept own s x.port i acc held f some.0 m) some.1 (omega (arith, length-append acc f)) in
    let e : (acc ++ f) ++ joined fragments last ≡ acc ++ (f ++ joined fragments last) = append_assoc acc f (joined fragments last) in
    record {
      after = r.after;
      further = r.further;
      goes_on = walked_on x fits false f (sent x fragments last rest) (omega arith) own s place ∙ r.goes_on;
      deliveries = r.deliveries ∙ ap₂ (λ (d : List ℕ) (n : ℕ). put d n (delivery x.port ((acc ++ f) ++ joined fragments last))) q.0 q.1 ∙ ap (λ (u : List ℕ). put s.deliveries s.bytes (delivery x.port u)) e;
      bytes = r.bytes ∙ ap₂ (λ (n : ℕ) (u : List ℕ). n + (4 + length u)) q.1 e;
    }
