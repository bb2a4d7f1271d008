-- `bwmap::records::allocation_at` meets its contract.
use mathlib.Core.Path.{refl, ◌∙◌, sym, ap}
use Rattle.std.specs.Prelude.{◌≡◌, Result, Err}
use Rattle.xgem.specs.declared.ReadError.{ReadError}
use Rattle.xgem.specs.declared.ReadError.TheVariants.{Unreadable as UnreadableWord, Short as ShortSlice}
use Rattle.xgem.specs.Reads.{found_in}
use Rattle.xgtc.specs.declared.allocation.Allocation.{Allocation}
use Rattle.bwmap.specs.Turns.{no_allocation_lem, fields_of, allocation_at_lem}
use Rattle.bwmap.proofs.Reading.{read-entry}
use Rattle.bwmap.proofs.records.allocation_at.Goals as goal
use Rattle.bwmap.proofs.records.allocation_at.Goals.{After-read_entry}

read : (c : After-read_entry) → let a = c.args in (x : Result Allocation ReadError) → c.read_entry.result ≡ x → fields_of (found_in x) ≡ allocation_at_lem a.map.now a.i
unfolding allocation_at_lem
read c x e =
    let a = c.args in
    sym (ap (λ (r : Result Allocation ReadError). fields_of (found_in r)) e) ∙ ap fields_of (c.read_entry.ensures ∙ read-entry a.map.now a.i)

not_read : (e : ReadError) → no_allocation_lem ≡ fields_of (found_in (Err e))
not_read UnreadableWord = refl
not_read ShortSlice = refl

pub returns-in-Ok : goal.returns-in-Ok
returns-in-Ok c = read (goal.at.returns-in-Ok c).After-read_entry _ c.in-Ok.is

pub returns-in-Err : goal.returns-in-Err
returns-in-Err c = c.no_allocation.ensures ∙ not_read _ ∙ read (goal.at.returns-in-Err c).After-read_entry _ c.in-Err.is
