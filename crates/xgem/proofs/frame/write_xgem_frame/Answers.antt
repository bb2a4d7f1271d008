-- `xgem::frame::write_xgem_frame` meets its contract: header, SDU and padding stand one behind the other.
use mathlib.Core.Path.{◌≡◌, refl, sym, ap, ◌∙◌}
use mathlib.Core.List.{List, ◌++◌}
use Prim.Native.Nat.{ℕ, ◌-◌, ◌%◌, ◌^◌}
use native.Mathlib.Nat.{mod-eq_of_lt}
use native.Mathlib.Omega.{arith}
use borrow.Rule.Slice.PartMut.{put_mid}
use lib.ListN.{length, take, drop, replicate}
use Rattle.hec.specs.Writes.{protected}
use Rattle.hec.proofs.Protected.{is_protected}
use Rattle.octets.specs.Octets.{octets}
use Rattle.octets.proofs.Numbers.{put_whole}
use Rattle.xgem.specs.Layouts.{xgem_fits, xgem_word, xgem_bits}
use Rattle.xgem.specs.Writes.{carrying, xgem_frame, padding, put}
use Rattle.xgem.proofs.Layouts.{xgem_lt}
use Rattle.xgem.proofs.Frames.{put-behind, frame-length, payload_length}
use Rattle.xgem.proofs.Steps.{done}
use Rattle.xgem.proofs.frame.write_xgem_frame.Goals as goal

pub returns : goal.returns
returns c =
    let x = c.args.x in
    let sdu = c.args.sdu.now in
    let t = c.args.target.now in
    let h = carrying x sdu in
    let u = c.put.new.target in
    let bits = c.data_bits.result in
    let size = c.payload_size-size.ensures in
    let fits = sym c.fits.ensures ∙ c.if-not-fits.false in
    let own : bits ≡ xgem_bits h = c.data_bits.ensures in
    let all : bits % 2 ^ 51 ≡ xgem_bits h = mod-eq_of_lt (rw own (xgem_lt h fits)) ∙ own in
    let header = c.bits.ensures ∙ is_protected 51 (bits % 2 ^ 51) _ (omega arith) (omega arith) c.write64.ensures ∙ ap protected all in
    done (xgem_fits h) (xgem_frame h sdu) t _ fits (omega (arith, frame-length h sdu))
    (ap (λ (l : List ℕ). put_mid 8 (length u - 8) u l)
    (c.put_payload.ensures ∙ ap (λ (n : ℕ). put (take (length u - 8) (drop 8 u)) (sdu ++ replicate (n - length sdu) 0x55)) size)
    ∙ put-behind t (octets 8 (xgem_word h)) (sdu ++ padding (length sdu)) u 8 refl (omega (arith, payload_length sdu))
    (put_whole 8 _ t _ c.put.ensures (omega arith) ∙ ap (λ (w : ℕ). put t (octets 8 w)) header))
