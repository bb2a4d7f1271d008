-- What is put behind what was put before, and the size of a frame.
-- Assumes nothing.
use mathlib.Core.Path.{◌≡◌, refl, sym, ap, ap₂, ◌∙◌}
use mathlib.Core.List.{List, [], ◌++◌, append_assoc, append-nil}
use Prim.Native.Nat.{ℕ, zero, suc, ◌+◌, ◌-◌, ◌*◌, ◌/◌, ◌≤◌, ◌<◌}
use native.Mathlib.Decide.{dec_lt}
use native.Mathlib.Omega.{arith}
use borrow.Author.Tests.{ne_eqb, lt-ltb, le-ltb}
use borrow.Rule.Slice.PartMut.{put_mid}
use lib.ListN.{length, take, drop, length-append, length-drop, length-replicate, drop_of_length-le}
use lib.Seq.{take_at, drop_at, take_all, drop-drop}
use Rattle.octets.specs.Octets.{octets}
use Rattle.xgem.specs.Layouts.{payload_size_lem, xgem_word}
use Rattle.xgem.specs.Writes.{put, padding, xgem_frame}
use Rattle.xgem.specs.declared.frame.XgemHeader.{XgemHeader}
use Rattle.octets.proofs.Numbers.{octets-length}

-- s in the part of a target behind p: the target holds both
pub put-behind : (t p s u : List ℕ) (k : ℕ) → length p ≡ k → k + length s ≤ length t → u ≡ put t p
    → put_mid k (length u - k) u (put (take (length u - k) (drop k u)) s) ≡ put t (p ++ s)
put-behind t p s u k e h q =
    ap₂ (λ (a b : List ℕ). a ++ ((s ++ drop (length s) b) ++ drop (length u - k) (drop k u))) front whole
    ∙ ap₂ (λ (a b : List ℕ). p ++ ((s ++ drop (length s) a) ++ b)) rest none
    ∙ ap (λ (l : List ℕ). p ++ l) (append-nil (s ++ drop (length s) (drop k t)))
    ∙ sym (append_assoc p s (drop (length s) (drop k t)))
    ∙ ap (λ (l : List ℕ). (p ++ s) ++ l) (drop-drop (length s) k t ∙ ap (λ (n : ℕ). drop n t) (ap (λ (n : ℕ). n + length s) (sym e) ∙ sym (length-append p s)))
  where
    front : take k u ≡ p
    front = ap (take k) q ∙ take_at p (drop (length p) t) k e

    rest : drop k u ≡ drop k t
    rest = ap (drop k) q ∙ drop_at p (drop (length p) t) k e ∙ ap (λ (n : ℕ). drop n t) e

    whole : take (length u - k) (drop k u) ≡ drop k u
    whole = take_all (length u - k) (drop k u) (omega (arith, length-drop k u))

    none : drop (length u - k) (drop k u) ≡ []
    none = drop_of_length-le (drop k u) {i = length u - k} (omega (arith, length-drop k u))

-- the size rule, by its three cases
pub size_empty : payload_size_lem 0 ≡ 0
size_empty = refl

pub size_short : (pli : ℕ) → 0 < pli → pli < 8 → payload_size_lem pli ≡ 8
size_short pli h l = rw (ne_eqb pli 0 (λ e. omega arith), lt-ltb pli 8 l)

pub size_long : (pli : ℕ) → 8 ≤ pli → payload_size_lem pli ≡ (pli + 3) / 4 * 4
size_long pli l = rw (ne_eqb pli 0 (λ e. omega arith), le-ltb pli 8 l)

-- a payload holds its SDU, and at most seven bytes more
sized : (pli : ℕ) → (pli ≤ payload_size_lem pli) × (payload_size_lem pli ≤ pli + 7)
sized zero = omega (arith, size_empty)
sized (suc pli) = go (dec_lt (suc pli) 8)
  where
    go : Dec (suc pli < 8) → (suc pli ≤ payload_size_lem (suc pli)) × (payload_size_lem (suc pli) ≤ suc pli + 7)
    go (yes l) = omega (arith, size_short (suc pli) (omega arith) l)
    go (no l) = omega (arith, size_long (suc pli) (omega arith))

pub covers : (pli : ℕ) → pli ≤ payload_size_lem pli
covers pli = (sized pli).0

pub size_le : (pli : ℕ) → payload_size_lem pli ≤ pli + 7
size_le pli = (sized pli).1

pub payload_length : (sdu : List ℕ) → length (sdu ++ padding (length sdu)) ≡ payload_size_lem (length sdu)
payload_length sdu =
    length-append sdu (padding (length sdu)) ∙ ap (λ (n : ℕ). length sdu + n) (length-replicate (payload_size_lem (length sdu) - length sdu) 0x55)
    ∙ omega (arith, covers (length sdu))

pub frame-length : (x : XgemHeader) (sdu : List ℕ) → length (xgem_frame x sdu) ≡ 8 + payload_size_lem (length sdu)
frame-length x sdu =
    length-append (octets 8 (xgem_word x)) (sdu ++ padding (length sdu)) ∙ ap₂ ◌+◌ (octets-length 8 (xgem_word x)) (payload_length sdu)
