-- `xgem::frame::write_xgem` meets its contract: data bits that fit are all written.
use mathlib.Core.Path.{ap, ◌∙◌}
use mathlib.Core.Bool.{Bool}
use Prim.Native.Nat.{ℕ, ◌%◌, ◌^◌}
use native.Mathlib.Omega.{arith}
use Rattle.hec.specs.Writes.{protected}
use Rattle.hec.proofs.Protected.{is_protected}
use Rattle.octets.specs.Octets.{octets}
use Rattle.xgem.specs.Writes.{wrote}
use Rattle.xgem.specs.Layouts.{xgem_fits, xgem_bits}
use Rattle.xgem.proofs.Layouts.{xgem_lt}
use Rattle.xgem.proofs.Steps.{fitted_word}
use Rattle.xgem.proofs.frame.write_xgem.Goals as goal

pub returns : goal.returns
returns c =
    let x = c.args.x in
    let t = c.args.target.now in
    let d = c.data_bits.result in
    c.write.ensures
    ∙ ap (λ (f : Bool). wrote f (octets 8 c.bits.result) t) c.fits-fits.ensures
    ∙ fitted_word (xgem_fits x) 8 51 (xgem_bits x) _ t (xgem_lt x)
    (c.bits.ensures ∙ is_protected 51 (d % 2 ^ 51) _ (omega arith) (omega arith) c.write64.ensures ∙ ap (λ (b : ℕ). protected (b % 2 ^ 51)) c.data_bits.ensures)
