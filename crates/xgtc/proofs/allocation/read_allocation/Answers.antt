-- `xgtc::allocation::read_allocation` meets its contract.
use Prim.Native.Nat.{ℕ}
use mathlib.Core.Path.{◌≡◌, ◌∙◌, sym, ap}
use native.Mathlib.Omega.{arith}
use lib.ListN.{length, take}
use borrow.Author.Tests.{le-leb}
use Rattle.std.specs.Prelude.{Option, Result, Some, None, Ok, Err}
use Rattle.hec.specs.declared.Word.{Word}
use Rattle.xgem.specs.declared.ReadError.{ReadError}
use Rattle.xgem.specs.declared.ReadError.TheVariants.{Unreadable}
use Rattle.xgem.specs.Reads.{taken, fields, found_in}
use Rattle.xgtc.specs.declared.allocation.Allocation.{Allocation}
use Rattle.xgtc.specs.Reads.{read_allocation_lem}
use Rattle.hec.specs.Reads.{reading, found_word}
use Rattle.hec.proofs.Nearest.{is_reading}
use Rattle.xgtc.specs.Layouts.{allocation_of}
use Rattle.octets.specs.Octets.{value}
use Rattle.xgem.proofs.Steps.{read_found}
use borrow.Author.Rules.{rules}
use Rattle.xgtc.proofs.allocation.read_allocation.Goals as goal
use Rattle.xgtc.proofs.allocation.read_allocation.Goals.{After-read64}

by_word : (c : After-read64) (x : Result Allocation ReadError) → found_in x ≡ taken allocation_of (found_word c.read64.result) → found_in x ≡ read_allocation_lem c.args.s.now
by_word c x e =
    let a = c.args in
    let w : c.word_ahead.result ≡ value (take 8 a.s.now) = c.word_ahead.ensures ∙ rw (le-leb 8 (length a.s.now) c.if-s-lt8.false) in
    read_found (reading 64) 8 allocation_of a.s.now _ (found_word c.read64.result) _ c.if-s-lt8.false w (is_reading 64 _ (omega arith) (search rules) (found_word c.read64.result) c.read64.ensures) e

pub returns-in-Some : goal.returns-in-Some
returns-in-Some c = by_word (goal.at.returns-in-Some c).After-read64 (Ok c.of.result) (ap fields c.of.ensures ∙ sym (ap (λ (r : Option (Word ℕ)). taken allocation_of (found_word r)) c.in-Some.is))

pub returns-in-None : goal.returns-in-None
returns-in-None c = by_word (goal.at.returns-in-None c).After-read64 (Err Unreadable) (sym (ap (λ (r : Option (Word ℕ)). taken allocation_of (found_word r)) c.in-None.is))
