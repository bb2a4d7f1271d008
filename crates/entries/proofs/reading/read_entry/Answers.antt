-- `entries::reading::read_entry` meets its contract.
use Prim.Native.Nat.{ℕ}
use mathlib.Core.Path.{◌≡◌, ◌∙◌, sym, ap}
use native.Mathlib.Omega.{arith}
use lib.ListN.{length, take}
use borrow.Author.Tests.{le-leb}
use Rattle.std.specs.Prelude.{Option, Result, Some, None, Ok, Err}
use Rattle.hec.specs.declared.Word.{Word}
use Rattle.xgem.specs.declared.ReadError.{ReadError}
use Rattle.xgem.specs.declared.ReadError.TheVariants.{Unreadable}
use Rattle.xgem.specs.Reads.{taken, fields, found_in}
use Rattle.xgtc.specs.declared.allocation.Allocation.{Allocation}
use Rattle.xgtc.specs.Reads.{read_allocation_lem}
use Rattle.hec.specs.Reads.{reading, found_word}
use Rattle.hec.proofs.Nearest.{is_reading}
use Rattle.octets.specs.Octets.{value}
use Rattle.xgtc.specs.Layouts.{allocation_of}
use Rattle.xgem.proofs.Steps.{read_found}
use borrow.Author.Rules.{rules}
use Rattle.entries.proofs.reading.read_entry.Goals as goal
use Rattle.entries.proofs.reading.read_entry.Goals.{Else-s-lt-STRUCTURE_OCTETS}

by_word : (c : Else-s-lt-STRUCTURE_OCTETS) (x : Result Allocation ReadError) → found_in x ≡ taken allocation_of (found_word c.read64_by_octets-read.result) → found_in x ≡ read_allocation_lem c.args.s.now
by_word c x e =
    let a = c.args in
    let w : c.word_ahead.result ≡ value (take 8 a.s.now) = c.word_ahead.ensures ∙ rw (le-leb 8 (length a.s.now) c.if-s-lt-STRUCTURE_OCTETS.false) in
    read_found (reading 64) 8 allocation_of a.s.now _ (found_word c.read64_by_octets-read.result) _ c.if-s-lt-STRUCTURE_OCTETS.false w (is_reading 64 _ (omega arith) (search rules) (found_word c.read64_by_octets-read.result) c.read64_by_octets-read.ensures) e

pub returns-in-Some : goal.returns-in-Some
returns-in-Some c = by_word (goal.at.returns-in-Some c).Else-s-lt-STRUCTURE_OCTETS (Ok c.of.result) (ap fields c.of.ensures ∙ sym (ap (λ (r : Option (Word ℕ)). taken allocation_of (found_word r)) c.in-Some.is))

pub returns-in-None : goal.returns-in-None
returns-in-None c = by_word (goal.at.returns-in-None c).Else-s-lt-STRUCTURE_OCTETS (Err Unreadable) (sym (ap (λ (r : Option (Word ℕ)). taken allocation_of (found_word r)) c.in-None.is))
