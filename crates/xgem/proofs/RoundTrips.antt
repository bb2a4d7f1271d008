-- What is written and read again comes back equal, over the layout of clause 9.1 and in both directions: fields
-- written and read, also with up to two bits of the header flipped, and octets read and written.
-- Assumes nothing.
use mathlib.Core.Path.{◌≡◌, refl, sym, ap, ap₂, ◌∙◌, subst}
use mathlib.Core.Bool.{Bool, true, false}
use mathlib.Core.List.{List, [], ◌∷◌, ◌++◌, append_assoc}
use Prim.Native.Nat.{ℕ, zero, suc, ◌+◌, ◌-◌, ◌*◌, ◌^◌, ◌≤◌, ◌<◌}
use native.Mathlib.Omega.{arith}
use borrow.Author.Tests.{le-leb}
use lib.ListN.{length, take, drop, replicate, take-append-drop, length-append, length-take, length-drop, length-replicate}
use lib.Seq.{take_at, drop_at, length-take-le, drop-drop}
use Rattle.bch.specs.Code.{TrueWord, distance}
use Rattle.hec.specs.Reads.{word, reading}
use Rattle.hec.specs.Writes.{protected}
use Rattle.hec.proofs.Words.{mends, undamaged}
use Rattle.hec.proofs.Nearest.{reading-reads}
use Rattle.bch.proofs.Powers.{octet_power}
use Rattle.octets.specs.Octets.{value, octets}
use Rattle.xgem.specs.Layouts.{xgem_of, xgem_fits, xgem_word, payload_size_lem}
use Rattle.xgem.specs.Reads.{Found, fields, taken, read_as, read_xgem_lem}
use Rattle.xgem.specs.Writes.{WriteLeft, put, wrote, write_xgem_lem, write_xgem_frame_lem, carrying, padding, xgem_frame}
use Rattle.answers.specs.declared.Answer.TheVariants.{Done}
use Rattle.xgem.specs.declared.frame.XgemHeader.{XgemHeader}
use Rattle.octets.proofs.Numbers.{Bytes, value_lt, value-octets, octets-length, octets-value}
use Rattle.xgem.proofs.Layouts.{xgem_true, xgem_back, xgem-again, xgem-fits}
use Rattle.xgem.proofs.Frames.{frame-length, payload_length, covers}

-- a structure of n octets, 8 n bits, of either length
module _ {X : Type 0} (n : ℕ) (small : n ≤ 8) (of : ℕ → X) (s : List ℕ) (whole : n ≤ length s) (bytes : Bytes (take n s)) where
  octet_bits : 2 ^ (n * 8) ≡ 256 ^ n
  octet_bits = octet_power n

  word_fits : value (take n s) < 2 ^ (n * 8)
  word_fits =
      subst (λ (m : ℕ). value (take n s) < m) (sym octet_bits)
      (subst (λ (m : ℕ). value (take n s) < 256 ^ m) (length-take-le n s whole) (value_lt (take n s) bytes))

  -- a true word with up to two of its bits flipped is read as itself
  pub flipped : (w : ℕ) → TrueWord (n * 8) w → distance (value (take n s)) w ≤ 2 → read_as (reading (n * 8)) n of s ≡ fields (of w)
  flipped w t d =
      rw (le-leb n (length s) whole)
      (ap (taken of) (mends (n * 8) (value (take n s)) (omega arith) word_fits w t d (reading (n * 8) (value (take n s))) (reading-reads (n * 8) (value (take n s)) (omega arith) word_fits)))

  -- and a true word as it stands gives its fields, whose word has these octets
  pub clean : TrueWord (n * 8) (value (take n s)) → read_as (reading (n * 8)) n of s ≡ fields (of (value (take n s)))
  clean t = flipped (value (take n s)) t (undamaged (value (take n s)))

  pub again : (w : ℕ) → w ≡ value (take n s) → put s (octets n w) ≡ s
  again w e =
      ap (put s) (ap (octets n) e ∙ ap (λ (m : ℕ). octets m (value (take n s))) (sym (length-take-le n s whole)) ∙ octets-value (take n s) bytes)
      ∙ ap (λ (m : ℕ). take n s ++ drop m s) (length-take-le n s whole) ∙ take-append-drop n s

-- the octets of a number, at the start of a target
pub octets-bytes : (n v : ℕ) → Bytes (octets n v)
octets-bytes zero v = tt
octets-bytes (suc n) v = (omega arith, octets-bytes n v)

module _ {X : Type 0} (n : ℕ) (small : n ≤ 8) (of : ℕ → X) (w : ℕ) (t : TrueWord (n * 8) w) (rest : List ℕ) where
  front : take n (octets n w ++ rest) ≡ octets n w
  front = take_at (octets n w) rest n (octets-length n w)

  pub stands : read_as (reading (n * 8)) n of (octets n w ++ rest) ≡ fields (of w)
  stands =
      flipped n small of (octets n w ++ rest) (omega (arith, length-append (octets n w) rest, octets-length n w))
      (subst Bytes (sym front) (octets-bytes n w)) w t
      (subst (λ (v : ℕ). distance v w ≤ 2) (sym (ap value front ∙ value-octets n w (subst (λ (m : ℕ). w < m) (octet_power n) t.fits))) (undamaged w))

-- a writer whose fields fit and whose target has room
pub wrote-done : (fits : Bool) (s t : List ℕ) → fits ≡ true → length s ≤ length t → wrote fits s t ≡ record { answer = Done; target = put t s }
wrote-done fits s t e h = rw (e, le-leb (length s) (length t) h)

pub same_fields : {X : Type 0} {x y : X} {r : Found X} → r ≡ fields x → r ≡ fields y → x ≡ y
same_fields p q = cc

-- The XGEM header
module _ (x : XgemHeader) (fits : xgem_fits x ≡ true) where
  pub xgem_written_read : (t : List ℕ) → 8 ≤ length t → read_xgem_lem (write_xgem_lem x t).target ≡ fields x
  xgem_written_read t room =
      rw (wrote-done (xgem_fits x) (octets 8 (xgem_word x)) t fits room)
      (stands 8 (omega arith) xgem_of (xgem_word x) (xgem_true x fits).true (drop 8 t) ∙ ap fields (xgem_back x fits))

  pub xgem-mended : (s : List ℕ) → 8 ≤ length s → Bytes (take 8 s) → distance (value (take 8 s)) (xgem_word x) ≤ 2 → read_xgem_lem s ≡ fields x
  xgem-mended s room bytes d = flipped 8 (omega arith) xgem_of s room bytes (xgem_word x) (xgem_true x fits).true d ∙ ap fields (xgem_back x fits)

pub xgem_read_written : (s : List ℕ) (x : XgemHeader) → 8 ≤ length s → Bytes (take 8 s) → TrueWord 64 (value (take 8 s)) → read_xgem_lem s ≡ fields x
    → write_xgem_lem x s ≡ record { answer = Done; target = s }
xgem_read_written s x room bytes t r =
    let e : xgem_of (value (take 8 s)) ≡ x = same_fields (clean 8 (omega arith) xgem_of s room bytes t) r in
    wrote-done (xgem_fits x) (octets 8 (xgem_word x)) s (ap xgem_fits (sym e) ∙ xgem-fits (value (take 8 s))) room
    ∙ ap (λ (l : List ℕ). record { answer = Done; target = l })
    (again 8 (omega arith) xgem_of s room bytes (xgem_word x) (ap xgem_word (sym e) ∙ xgem-again (value (take 8 s)) t))

-- A whole XGEM frame: the header comes back with the SDU's length for its PLI, and the SDU as it was
module _ (x : XgemHeader) (sdu : List ℕ) (fits : xgem_fits (carrying x sdu) ≡ true) where
  -- what stands behind a header of eight octets
  behind_header : (header rest : List ℕ) → length header ≡ 8 → take (length sdu) (drop 8 (header ++ ((sdu ++ padding (length sdu)) ++ rest))) ≡ sdu
  behind_header header rest e =
      ap (take (length sdu)) (drop_at header ((sdu ++ padding (length sdu)) ++ rest) 8 e ∙ append_assoc sdu (padding (length sdu)) rest)
      ∙ take_at sdu (padding (length sdu) ++ rest) (length sdu) refl

  pub frame-mended : (header rest : List ℕ) → length header ≡ 8 → Bytes header → distance (value header) (xgem_word (carrying x sdu)) ≤ 2
      → (read_xgem_lem (header ++ ((sdu ++ padding (length sdu)) ++ rest)) ≡ fields (carrying x sdu)) × (take (length sdu) (drop 8 (header ++ ((sdu ++ padding (length sdu)) ++ rest))) ≡ sdu)
  frame-mended header rest e bytes d =
      let s : List ℕ = header ++ ((sdu ++ padding (length sdu)) ++ rest) in
      let h : take 8 s ≡ header = take_at header ((sdu ++ padding (length sdu)) ++ rest) 8 e in (
        xgem-mended (carrying x sdu) fits s (omega (arith, length-append header ((sdu ++ padding (length sdu)) ++ rest)))
            (subst Bytes (sym h) bytes) (subst (λ (l : List ℕ). distance (value l) (xgem_word (carrying x sdu)) ≤ 2) (sym h) d),
        behind_header header rest e,
      )

  pub frame_written_read : (t : List ℕ) → 8 + payload_size_lem (length sdu) ≤ length t
      → (read_xgem_lem (write_xgem_frame_lem x sdu t).target ≡ fields (carrying x sdu)) × (take (length sdu) (drop 8 (write_xgem_frame_lem x sdu t).target) ≡ sdu)
  frame_written_read t room =
      let c : XgemHeader = carrying x sdu in
      let w : ℕ = xgem_word c in
      let rest : List ℕ = drop (length (xgem_frame c sdu)) t in
      let e : (write_xgem_frame_lem x sdu t).target ≡ octets 8 w ++ ((sdu ++ padding (length sdu)) ++ rest) =
      ap (λ (l : WriteLeft). l.target) (wrote-done (xgem_fits c) (xgem_frame c sdu) t fits (omega (arith, frame-length c sdu)))
      ∙ append_assoc (octets 8 w) (sdu ++ padding (length sdu)) rest in
      rw e
      (frame-mended (octets 8 w) rest (octets-length 8 w) (octets-bytes 8 w)
      (subst (λ (v : ℕ). distance v w ≤ 2) (sym (value-octets 8 w (xgem_true c fits).true.fits)) (undamaged w)))

-- and a frame that was read, with the padding of the standard, is written again as it stood
pub frame_read_written : (x : XgemHeader) (header sdu rest : List ℕ) → length header ≡ 8 → Bytes header → TrueWord 64 (value header)
    → read_xgem_lem (header ++ ((sdu ++ padding (length sdu)) ++ rest)) ≡ fields (carrying x sdu)
    → write_xgem_frame_lem x sdu (header ++ ((sdu ++ padding (length sdu)) ++ rest))
    ≡ record { answer = Done; target = header ++ ((sdu ++ padding (length sdu)) ++ rest) }
frame_read_written x header sdu rest n bytes t r =
    wrote-done (xgem_fits c) (xgem_frame c sdu) s fits (omega (arith, frame-length c sdu, length-append header (body ++ rest), length-append body rest, payload_length sdu))
    ∙ ap (λ (l : List ℕ). record { answer = Done; target = l })
    (append_assoc (octets 8 (xgem_word c)) body (drop (length (xgem_frame c sdu)) s)
    ∙ ap₂ (λ (a b : List ℕ). a ++ (body ++ b)) head tail)
  where
    c : XgemHeader
    c = carrying x sdu

    body : List ℕ
    body = sdu ++ padding (length sdu)

    s : List ℕ
    s = header ++ (body ++ rest)

    room : 8 ≤ length s
    room = omega (arith, length-append header (body ++ rest))

    h : take 8 s ≡ header
    h = take_at header (body ++ rest) 8 n

    own : TrueWord 64 (value (take 8 s))
    own = subst (λ (l : List ℕ). TrueWord 64 (value l)) (sym h) t

    same : xgem_of (value (take 8 s)) ≡ c
    same = same_fields (clean 8 (omega arith) xgem_of s room (subst Bytes (sym h) bytes) own) r

    fits : xgem_fits c ≡ true
    fits = ap xgem_fits (sym same) ∙ xgem-fits (value (take 8 s))

    head : octets 8 (xgem_word c) ≡ header
    head =
        ap (octets 8) (ap xgem_word (sym same) ∙ xgem-again (value (take 8 s)) own ∙ ap value h)
        ∙ ap (λ (m : ℕ). octets m (value header)) (sym n) ∙ octets-value header bytes

    tail : drop (length (xgem_frame c sdu)) s ≡ rest
    tail =
        ap (λ (m : ℕ). drop m s) (frame-length c sdu ∙ ap (λ (m : ℕ). 8 + m) (sym (payload_length sdu)))
        ∙ sym (drop-drop (length body) 8 s) ∙ ap (drop (length body)) (drop_at header (body ++ rest) 8 n) ∙ drop_at body rest (length body) refl
