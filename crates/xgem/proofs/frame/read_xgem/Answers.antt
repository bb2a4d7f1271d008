-- `xgem::frame::read_xgem` meets its contract.
use Prim.Native.Nat.{ℕ}
use native.Mathlib.Omega.{arith}
use mathlib.Core.Path.{◌≡◌, ◌∙◌, sym, ap}
use Rattle.std.specs.Prelude.{Option, Result, Some, None, Ok, Err}
use Rattle.hec.specs.declared.Word.{Word}
use Rattle.xgem.specs.declared.ReadError.{ReadError}
use Rattle.xgem.specs.declared.ReadError.TheVariants.{Unreadable}
use Rattle.xgem.specs.declared.frame.XgemHeader.{XgemHeader}
use Rattle.xgem.specs.Reads.{taken, fields, found_in, read_xgem_lem}
use Rattle.hec.specs.Reads.{reading, found_word}
use Rattle.octets.proofs.Numbers.{read_whole}
use Rattle.hec.proofs.Nearest.{is_reading}
use Rattle.xgem.specs.Layouts.{xgem_of}
use Rattle.xgem.proofs.Steps.{read_found}
use borrow.Author.Rules.{rules}
use Rattle.xgem.proofs.frame.read_xgem.Goals as goal
use Rattle.xgem.proofs.frame.read_xgem.Goals.{After-read64_by_octets}

by_word : (c : After-read64_by_octets) (x : Result XgemHeader ReadError) → found_in x ≡ taken xgem_of (found_word c.read64_by_octets.result) → found_in x ≡ read_xgem_lem c.args.s.now
by_word c x e =
    let a = c.args in
    read_found (reading 64) 8 xgem_of a.s.now _ (found_word c.read64_by_octets.result) _ c.if-s-lt8.false (read_whole 8 _ a.s.now c.read.ensures c.if-s-lt8.false) (is_reading 64 _ (omega arith) (search rules) (found_word c.read64_by_octets.result) c.read64_by_octets.ensures) e

pub returns-in-Some : goal.returns-in-Some
returns-in-Some c =
    by_word (goal.at.returns-in-Some c).After-read64_by_octets (Ok c.of.result) (ap fields c.of.ensures ∙ sym (ap (λ (r : Option (Word ℕ)). taken xgem_of (found_word r)) c.in-Some.is))

pub returns-in-None : goal.returns-in-None
returns-in-None c = by_word (goal.at.returns-in-None c).After-read64_by_octets (Err Unreadable) (sym (ap (λ (r : Option (Word ℕ)). taken xgem_of (found_word r)) c.in-None.is))
