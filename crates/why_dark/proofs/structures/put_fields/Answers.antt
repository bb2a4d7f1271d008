-- `why_dark::structures::put_fields` meets its contract.
use mathlib.Core.Path.{refl, sym, ap, ◌∙◌}
use Rattle.text.specs.Texts.{added}
use Rattle.text.proofs.Adding.{added_next, added_none}
use Rattle.why_dark.specs.Report.{fields_of}
use Rattle.why_dark.proofs.structures.put_fields.Goals as goal
use Rattle.std.specs.Prelude.{◌≡◌, [], Err}
use Rattle.xgem.specs.declared.ReadError.{ReadError}
use Rattle.xgem.specs.declared.ReadError.TheVariants.{Unreadable as UnreadableWord, Short as ShortSlice}
use Rattle.xgem.specs.Reads.{found_in}
use Rattle.xgtc.specs.declared.allocation.Allocation.{Allocation}

pub returns-in-Ok : goal.returns-in-Ok
returns-in-Ok c = added_next _ _ _ _ _ _ c.put_numbers-b.ensures c.put_marks.ensures ∙ ap (added _ _) (ap (λ z. fields_of (found_in z)) (sym c.in-Ok.is))

not_read : (e : ReadError) → [] ≡ fields_of (found_in {X = Allocation} (Err e))
not_read UnreadableWord = refl
not_read ShortSlice = refl

pub returns-in-Err : goal.returns-in-Err
returns-in-Err c = added_none (record { text = _; place = _ }) ∙ ap (added _ _) (not_read _ ∙ ap (λ z. fields_of (found_in z)) (sym c.in-Err.is))
