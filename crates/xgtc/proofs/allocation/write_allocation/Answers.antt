-- `xgtc::allocation::write_allocation` meets its contract: data bits that fit are all written.
use mathlib.Core.Path.{ap, ◌∙◌}
use mathlib.Core.Bool.{Bool}
use Prim.Native.Nat.{ℕ, ◌%◌, ◌^◌}
use native.Mathlib.Omega.{arith}
use Rattle.hec.specs.Writes.{protected}
use Rattle.hec.proofs.Protected.{is_protected}
use Rattle.octets.specs.Octets.{octets}
use Rattle.xgem.specs.Writes.{wrote}
use Rattle.xgtc.specs.Layouts.{allocation_fits, allocation_bits}
use Rattle.xgtc.proofs.Layouts.{allocation_lt}
use Rattle.xgem.proofs.Steps.{fitted_word}
use Rattle.xgtc.proofs.allocation.write_allocation.Goals as goal

pub returns : goal.returns
returns c =
    let a = c.args.a in
    let t = c.args.target.now in
    let d = c.data_bits.result in
    c.write.ensures
    ∙ ap (λ (f : Bool). wrote f (octets 8 c.bits.result) t) c.fits-fits.ensures
    ∙ fitted_word (allocation_fits a) 8 51 (allocation_bits a) _ t (allocation_lt a)
    (c.bits.ensures ∙ is_protected 51 (d % 2 ^ 51) _ (omega arith) (omega arith) c.write64.ensures ∙ ap (λ (b : ℕ). protected (b % 2 ^ 51)) c.data_bits.ensures)
