-- What a frame that was opened has passed, and its partitions by the ends that were computed.
-- Assumes nothing.
use Prim.Native.Nat.{ℕ, ◌-◌, ◌*◌, ◌≤◌}
use native.Mathlib.Omega.{arith}
use mathlib.Core.Path.{◌≡◌, ◌∙◌, refl, sym, ap, subst}
use mathlib.Core.Bool.{Bool, true, false, not, cond, false≢true}
use mathlib.Core.List.{List}
use lib.Dec.{leb}
use lib.ListN.{length, take, drop, length-drop}
use lib.Seq.{take_all}
use borrow.Author.Tests.{leb-true}
use Rattle.xgem.specs.Reads.{Found, fields, unreadable, short}
use Rattle.xgtc.specs.declared.hlend.Hlend.{Hlend}
use Rattle.xgtc.specs.Reads.{read_hlend_lem}
use Rattle.station.specs.declared.Station.{Station}
use Rattle.answers.specs.declared.Answer.TheVariants.{StateOutOfRange, FrameLengthUnfit, BufferTooShort, HeaderTooLong}
use Rattle.validity.specs.Ranges.{in_range}
use Rattle.downstream.specs.declared.Opening.{Opening}
use Rattle.downstream.specs.declared.Opening.TheVariants.{Refused, Unread, Opened}
use Rattle.downstream.specs.Lengths.{length_fits_lem}
use Rattle.entries.specs.Limits.{structure_octets}
use Rattle.ploam.specs.Layout.{message_octets}
use Rattle.downstream.specs.Partitions.{hlend_octets, map_end_lem, header_end_lem, map_of, messages_of, payload_of}
use Rattle.downstream.specs.Opening.{by_hlend_lem, opening_by, opening}

pub record Fit (s : Station) (f : List ℕ) (room : Bool) (h : Hlend) : Type 0 where
  pub state : in_range s ≡ true
  pub frame : length_fits_lem (length f) ≡ true
  pub buffers : room ≡ true
  pub reads : read_hlend_lem f ≡ fields h
  pub fits : header_end_lem h ≤ length f

pub opening_is : (s : Station) (f : List ℕ) (valid room : Bool) → valid ≡ in_range s → opening_by valid f room ≡ opening s f room
unfolding opening
opening_is s f valid room e = ap (λ (v : Bool). opening_by v f room) e

is_opened : Opening → Bool
is_opened (Refused answer) = false
is_opened (Unread answer) = false
is_opened (Opened h) = true

header_of : Hlend → Opening → Hlend
header_of h (Refused answer) = h
header_of h (Unread answer) = h
header_of h (Opened k) = k

module _ (s : Station) (f : List ℕ) (room : Bool) (h : Hlend) where
  pub opened : opening s f room ≡ Opened h → Fit s f room h
  unfolding opening is_opened header_of
  opened = go (in_range s) refl (length_fits_lem (length f)) refl room refl (read_hlend_lem f) refl
    where
      never : {A : Type 0} (o : Opening) → is_opened o ≡ false → o ≡ Opened h → A
      never o n e = absurd (false≢true (sym n ∙ ap is_opened e))

      go
          : (a : Bool) → in_range s ≡ a → (b : Bool) → length_fits_lem (length f) ≡ b → (c : Bool) → room ≡ c → (r : Found Hlend) → read_hlend_lem f ≡ r
          → cond (not a) (Refused StateOutOfRange) (cond (not b) (Refused FrameLengthUnfit) (cond (not c) (Refused BufferTooShort) (by_hlend_lem r (length f)))) ≡ Opened h
          → Fit s f room h
      go false p b q c t r u e = never (Refused StateOutOfRange) refl e
      go true p false q c t r u e = never (Refused FrameLengthUnfit) refl e
      go true p true q false t r u e = never (Refused BufferTooShort) refl e
      go true p true q true t unreadable u e = never (by_hlend_lem unreadable (length f)) refl e
      go true p true q true t short u e = never (by_hlend_lem short (length f)) refl e
      go true p true q true t (fields k) u e = last (leb (header_end_lem k) (length f)) refl e
        where
          last : (d : Bool) → leb (header_end_lem k) (length f) ≡ d → cond d (Opened k) (Unread HeaderTooLong) ≡ Opened h → Fit s f room h
          last false v e = never (Unread HeaderTooLong) refl e
          last true v e =
              let same : k ≡ h = ap (header_of h) e in
              record {
                state = p;
                frame = q;
                buffers = t;
                reads = u ∙ ap fields same;
                fits = subst (λ (x : Hlend). header_end_lem x ≤ length f) same (leb-true (header_end_lem k) (length f) v);
              }

-- ---- the partitions, as they are lent on
pub map-part : (h : Hlend) (f : List ℕ) (m : ℕ) → m ≡ map_end_lem h → take (m - hlend_octets) (drop hlend_octets f) ≡ map_of h f
map-part h f m e =
    let n : m - hlend_octets ≡ structure_octets * h.bwmap = omega (arith, e) in
    ap (λ (k : ℕ). take k (drop hlend_octets f)) n

pub messages-part
    : (h : Hlend) (f : List ℕ) (m e : ℕ) → m ≡ map_end_lem h → e ≡ header_end_lem h → take (e - m) (drop m f) ≡ messages_of h f
messages-part h f m e p q =
    let n : e - m ≡ message_octets * h.ploam = omega (arith, p, q) in
    ap (λ (k : ℕ). take k (drop m f)) n ∙ ap (λ (k : ℕ). take (message_octets * h.ploam) (drop k f)) p

pub payload_part : (h : Hlend) (f : List ℕ) (e : ℕ) → e ≡ header_end_lem h → take (length f - e) (drop e f) ≡ payload_of h f
payload_part h f e q = take_all (length f - e) (drop e f) (omega (arith, length-drop e f)) ∙ ap (λ (k : ℕ). drop k f) q
