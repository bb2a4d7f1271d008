-- `xgtc::hlend::write_hlend` meets its contract: data bits that fit are all written.
use mathlib.Core.Path.{ap, ◌∙◌}
use mathlib.Core.Bool.{Bool}
use Prim.Native.Nat.{ℕ, ◌%◌, ◌^◌}
use native.Mathlib.Omega.{arith}
use Rattle.hec.specs.Writes.{protected}
use Rattle.hec.proofs.Protected.{is_protected}
use Rattle.octets.specs.Octets.{octets}
use Rattle.xgem.specs.Writes.{wrote}
use Rattle.xgem.specs.Layouts.{behind}
use Rattle.xgtc.specs.Layouts.{hlend_fits}
use Rattle.xgtc.proofs.Layouts.{hlend_lt}
use Rattle.xgem.proofs.Steps.{fitted_word}
use Rattle.xgtc.proofs.hlend.write_hlend.Goals as goal

pub returns : goal.returns
returns c =
    let h = c.args.h in
    let t = c.args.target.now in
    let d = c.data_bits.result in
    c.write.ensures
    ∙ ap (λ (f : Bool). wrote f (octets 4 c.bits.result) t) c.fits-fits.ensures
    ∙ fitted_word (hlend_fits h) 4 19 (behind h.bwmap 8 h.ploam) _ t (hlend_lt h)
    (c.bits.ensures ∙ is_protected 19 (d % 2 ^ 19) _ (omega arith) (omega arith) c.write32.ensures ∙ ap (λ (b : ℕ). protected (b % 2 ^ 19)) c.data_bits.ensures)
