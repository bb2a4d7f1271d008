-- The next frame, by the reading of its header.
-- Assumes nothing.
use mathlib.Core.Path.{◌≡◌, sym, ap, ◌∙◌}
use mathlib.Core.Bool.{Bool, true, false, cond}
use mathlib.Core.List.{List}
use Prim.Native.Nat.{ℕ, ◌+◌, ◌^◌, ◌≤◌, ◌<◌}
use native.Mathlib.Omega.{arith}
use borrow.Author.Tests.{le-leb, lt-leb}
use lib.Dec.{leb}
use lib.ListN.{length, take}
use Rattle.hec.specs.Reads.{Reading, word, unreadable as unreadable-word, Reads, reading}
use Rattle.hec.proofs.Nearest.{is_reading}
use Rattle.xgem.specs.declared.frame.XgemHeader.{XgemHeader}
use Rattle.octets.specs.Octets.{value}
use Rattle.xgem.specs.Layouts.{xgem_of, payload_size_lem}
use Rattle.xgem.specs.Reads.{Found, fields, unreadable, short, taken, read_xgem_lem}
use Rattle.xgem.proofs.Steps.{read_short, read_found}
use Rattle.payload.specs.declared.frames.Next.TheVariants.{Done, Lost, Frame}
use Rattle.payload.specs.Frames.{ahead, next_of}

-- by the word that stands ahead, where there is one
pub found-ahead : (s : List ℕ) (w : ℕ) (r : Reading) (x : Found XgemHeader) → 8 ≤ length s → w ≡ cond (leb 8 (length s)) (value (take 8 s)) 0 → w < 2 ^ 64
    → Reads 64 w r → x ≡ taken xgem_of r → x ≡ read_xgem_lem s
found-ahead s w r x h e fits q t =
    read_found (reading 64) 8 xgem_of s w r x h (e ∙ ap (λ (b : Bool). cond b (value (take 8 s)) 0) (le-leb 8 (length s) h))
    (is_reading 64 w (omega arith) fits r q) t

-- a header's PLI has fourteen bits
abbrev Narrow : Found XgemHeader → Type 0
Narrow (fields x) = x.pli < 2 ^ 14
Narrow unreadable = Unit {0}
Narrow short = Unit {0}

narrow : (s : List ℕ) → Narrow (read_xgem_lem s)
narrow s = go (leb 8 (length s)) (reading 64 (value (take 8 s)))
  where
    go : (t : Bool) (r : Reading) → Narrow (cond t (taken xgem_of r) short)
    go true (word v) = omega arith
    go true unreadable-word = tt
    go false r = tt

pub pli_lt : (s : List ℕ) (x : XgemHeader) → fields x ≡ read_xgem_lem s → x.pli < 2 ^ 14
pli_lt s x e = rw (sym e) at (narrow s)

-- what is ahead, by what was read
module _ (s : List ℕ) where
  pub none_ahead : short ≡ read_xgem_lem s → Done ≡ next_of s
  none_ahead e = ap (λ (f : Found XgemHeader). ahead f (length s)) e

  pub done-ahead : length s < 8 → Done ≡ next_of s
  done-ahead h = none_ahead (read_short (reading 64) 8 xgem_of s h)

  pub lost_ahead : unreadable ≡ read_xgem_lem s → Lost ≡ next_of s
  lost_ahead e = ap (λ (f : Found XgemHeader). ahead f (length s)) e

  module _ (x : XgemHeader) (e : fields x ≡ read_xgem_lem s) where
    pub long-ahead : length s < 8 + payload_size_lem x.pli → Lost ≡ next_of s
    long-ahead h =
        ap (λ (b : Bool). cond b (Frame x) Lost) (sym (lt-leb (8 + payload_size_lem x.pli) (length s) h)) ∙ ap (λ (f : Found XgemHeader). ahead f (length s)) e

    pub frame-ahead : 8 + payload_size_lem x.pli ≤ length s → Frame x ≡ next_of s
    frame-ahead h =
        ap (λ (b : Bool). cond b (Frame x) Lost) (sym (le-leb (8 + payload_size_lem x.pli) (length s) h)) ∙ ap (λ (f : Found XgemHeader). ahead f (length s)) e
