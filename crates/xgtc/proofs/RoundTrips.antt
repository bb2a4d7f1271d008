-- What is written and read again comes back equal, over the layouts of clause 8.1 and in both directions: fields written
-- and read, also with up to two bits of the word flipped, and octets read and written.
-- Assumes nothing.
use mathlib.Core.Path.{◌≡◌, sym, ap, ◌∙◌}
use mathlib.Core.Bool.{true}
use mathlib.Core.List.{List}
use Prim.Native.Nat.{ℕ, ◌≤◌}
use native.Mathlib.Omega.{arith}
use lib.ListN.{length, take, drop}
use Rattle.bch.specs.Code.{TrueWord, distance}
use Rattle.octets.specs.Octets.{value, octets}
use Rattle.xgem.specs.Reads.{fields}
use Rattle.answers.specs.declared.Answer.TheVariants.{Done}
use Rattle.octets.proofs.Numbers.{Bytes}
use Rattle.xgem.proofs.RoundTrips.{flipped, clean, again, stands, wrote-done, same_fields}
use Rattle.xgtc.specs.Layouts.{hlend_of, hlend_fits, hlend_word, allocation_of, allocation_fits, allocation_word}
use Rattle.xgtc.specs.Reads.{read_hlend_lem, read_allocation_lem}
use Rattle.xgtc.specs.Writes.{write_hlend_lem, write_allocation_lem}
use Rattle.xgtc.specs.declared.hlend.Hlend.{Hlend}
use Rattle.xgtc.specs.declared.allocation.Allocation.{Allocation}
use Rattle.xgtc.proofs.Layouts.{hlend_true, hlend_back, hlend_again, hlend-fits, allocation_true, allocation_back, allocation_again, allocation-fits}

-- HLend
module _ (h : Hlend) (fits : hlend_fits h ≡ true) where
  pub hlend_written_read : (t : List ℕ) → 4 ≤ length t → read_hlend_lem (write_hlend_lem h t).target ≡ fields h
  hlend_written_read t room =
      rw (wrote-done (hlend_fits h) (octets 4 (hlend_word h)) t fits room)
      (stands 4 (omega arith) hlend_of (hlend_word h) (hlend_true h fits).true (drop 4 t) ∙ ap fields (hlend_back h fits))

  pub hlend_mended : (s : List ℕ) → 4 ≤ length s → Bytes (take 4 s) → distance (value (take 4 s)) (hlend_word h) ≤ 2 → read_hlend_lem s ≡ fields h
  hlend_mended s room bytes d = flipped 4 (omega arith) hlend_of s room bytes (hlend_word h) (hlend_true h fits).true d ∙ ap fields (hlend_back h fits)

pub hlend_read_written : (s : List ℕ) (h : Hlend) → 4 ≤ length s → Bytes (take 4 s) → TrueWord 32 (value (take 4 s)) → read_hlend_lem s ≡ fields h
    → write_hlend_lem h s ≡ record { answer = Done; target = s }
hlend_read_written s h room bytes t r =
    let e : hlend_of (value (take 4 s)) ≡ h = same_fields (clean 4 (omega arith) hlend_of s room bytes t) r in
    wrote-done (hlend_fits h) (octets 4 (hlend_word h)) s (ap hlend_fits (sym e) ∙ hlend-fits (value (take 4 s))) room
    ∙ ap (λ (l : List ℕ). record { answer = Done; target = l })
    (again 4 (omega arith) hlend_of s room bytes (hlend_word h) (ap hlend_word (sym e) ∙ hlend_again (value (take 4 s)) t))

-- The allocation structure
module _ (a : Allocation) (fits : allocation_fits a ≡ true) where
  pub allocation_written_read : (t : List ℕ) → 8 ≤ length t → read_allocation_lem (write_allocation_lem a t).target ≡ fields a
  allocation_written_read t room =
      rw (wrote-done (allocation_fits a) (octets 8 (allocation_word a)) t fits room)
      (stands 8 (omega arith) allocation_of (allocation_word a) (allocation_true a fits).true (drop 8 t) ∙ ap fields (allocation_back a fits))

  pub allocation_mended : (s : List ℕ) → 8 ≤ length s → Bytes (take 8 s) → distance (value (take 8 s)) (allocation_word a) ≤ 2 → read_allocation_lem s ≡ fields a
  allocation_mended s room bytes d = flipped 8 (omega arith) allocation_of s room bytes (allocation_word a) (allocation_true a fits).true d ∙ ap fields (allocation_back a fits)

pub allocation_read_written : (s : List ℕ) (a : Allocation) → 8 ≤ length s → Bytes (take 8 s) → TrueWord 64 (value (take 8 s)) → read_allocation_lem s ≡ fields a
    → write_allocation_lem a s ≡ record { answer = Done; target = s }
allocation_read_written s a room bytes t r =
    let e : allocation_of (value (take 8 s)) ≡ a = same_fields (clean 8 (omega arith) allocation_of s room bytes t) r in
    wrote-done (allocation_fits a) (octets 8 (allocation_word a)) s (ap allocation_fits (sym e) ∙ allocation-fits (value (take 8 s))) room
    ∙ ap (λ (l : List ℕ). record { answer = Done; target = l })
    (again 8 (omega arith) allocation_of s room bytes (allocation_word a) (ap allocation_word (sym e) ∙ allocation_again (value (take 8 s)) t))
