-- `payload::memory::extend` meets its contract: the slot's unused end is lent, and the body laid over its front.
use mathlib.Core.Path.{ap, ◌∙◌}
use mathlib.Core.List.{List}
use Prim.Native.Nat.{ℕ, ◌+◌, ◌-◌, ◌*◌}
use native.Mathlib.Omega.{arith}
use borrow.Rule.Slice.PartMut.{put_mid}
use Rattle.ports.specs.Limits.{slot_bytes}
use Rattle.payload.specs.Memory.{extended}
use Rattle.payload.proofs.Put.{part-put}
use Rattle.payload.proofs.memory.extend.Goals as goal

pub returns : goal.returns
unfolding extended
returns c =
    let a = c.args in
    let m = a.memory.now in
    let body = a.body.now in
    let at = a.slot * slot_bytes + a.have in
    let size = a.slot * slot_bytes + slot_bytes - at in
    ap (λ (z : List ℕ). put_mid at size m z) c.lay_at.ensures
    ∙ part-put m body at size (omega (arith, c.requires)) (omega (arith, c.requires))
