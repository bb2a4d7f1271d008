-- `xgtc::hlend::read_hlend` meets its contract.
use Prim.Native.Nat.{ℕ}
use native.Mathlib.Omega.{arith}
use Rattle.std.specs.Prelude.{Option, Result, Some, None, Ok, Err}
use Rattle.hec.specs.declared.Word.{Word}
use Rattle.xgem.specs.declared.ReadError.{ReadError}
use Rattle.xgem.specs.declared.ReadError.TheVariants.{Unreadable}
use Rattle.xgem.specs.Reads.{taken, fields, found_in}
use Rattle.xgtc.specs.declared.hlend.Hlend.{Hlend}
use Rattle.xgtc.specs.Reads.{read_hlend_lem}
use mathlib.Core.Path.{◌≡◌, ◌∙◌, sym, ap}
use Rattle.hec.specs.Reads.{reading, found_word}
use Rattle.octets.proofs.Numbers.{read_whole}
use Rattle.hec.proofs.Nearest.{is_reading}
use Rattle.xgtc.specs.Layouts.{hlend_of}
use Rattle.xgem.proofs.Steps.{read_found}
use borrow.Author.Rules.{rules}
use Rattle.xgtc.proofs.hlend.read_hlend.Goals as goal
use Rattle.xgtc.proofs.hlend.read_hlend.Goals.{After-read32}

by_word : (c : After-read32) (x : Result Hlend ReadError) → found_in x ≡ taken hlend_of (found_word c.read32.result) → found_in x ≡ read_hlend_lem c.args.s.now
by_word c x e =
    let a = c.args in
    read_found (reading 32) 4 hlend_of a.s.now _ (found_word c.read32.result) _ c.if-s-lt4.false (read_whole 4 _ a.s.now c.read.ensures c.if-s-lt4.false) (is_reading 32 _ (omega arith) (search rules) (found_word c.read32.result) c.read32.ensures) e

pub returns-in-Some : goal.returns-in-Some
returns-in-Some c = by_word (goal.at.returns-in-Some c).After-read32 (Ok c.of.result) (ap fields c.of.ensures ∙ sym (ap (λ (r : Option (Word ℕ)). taken hlend_of (found_word r)) c.in-Some.is))

pub returns-in-None : goal.returns-in-None
returns-in-None c = by_word (goal.at.returns-in-None c).After-read32 (Err Unreadable) (sym (ap (λ (r : Option (Word ℕ)). taken hlend_of (found_word r)) c.in-None.is))
