-- What reading a structure finds at the start of a list of octets.
-- Assumes nothing.
use Rattle.std.specs.Prelude.{Err, Ok, Result, cond, List, ℕ, leb, length, take}
use Rattle.xgem.specs.declared.ReadError.{ReadError}
use Rattle.xgem.specs.declared.ReadError.TheVariants.{Short, Unreadable}
use Rattle.hec.specs.Reads.{Reading, word, unreadable as unreadable-word, reading}
use Rattle.octets.specs.Octets.{value}
use Rattle.xgem.specs.Layouts.{xgem_of}
use Rattle.xgem.specs.declared.frame.XgemHeader.{XgemHeader}

pub data Found (X : Type 0) : Type 0 where
  fields : X → Found X
  unreadable : Found X
  short : Found X

-- the fields are those of the mended word
abbrev pub taken : {X : Type 0} → (ℕ → X) → Reading → Found X
taken of (word v) = fields (of v)
taken of unreadable-word = unreadable

-- a structure of n octets whose word is read as `read` says
abbrev pub read_as : {X : Type 0} → (ℕ → Reading) → ℕ → (ℕ → X) → List ℕ → Found X
read_as read n of s = cond (leb n (length s)) (taken of (read (value (take n s)))) short

abbrev pub read_xgem_lem : List ℕ → Found XgemHeader
read_xgem_lem s = read_as (reading 64) 8 xgem_of s

-- the code's answers
abbrev pub found_in : {X : Type 0} → Result X ReadError → Found X
found_in (Ok x) = fields x
found_in (Err Unreadable) = unreadable
found_in (Err Short) = short
