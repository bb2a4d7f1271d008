-- `payload::memory::deliver` meets its contract: three pieces put one behind the other are the delivery.
use mathlib.Core.Path.{refl, ap, ◌∙◌}
use mathlib.Core.List.{List}
use Prim.Native.Nat.{ℕ, ◌+◌}
use native.Mathlib.Omega.{arith}
use Rattle.payload.specs.Memory.{put, partial}
use Rattle.payload.proofs.Slots.{length-partial}
use Rattle.payload.proofs.Steps.{delivery-put}
use Rattle.payload.proofs.memory.deliver.Goals as goal

pub returns : goal.returns
returns c =
    let a = c.args in
    let part = partial a.memory.now a.slot a.have in
    let long = length-partial a.memory.now a.slot a.have (omega (arith, c.requires)) (omega (arith, c.requires)) (omega (arith, c.requires)) in
    c.lay_body.ensures
    ∙ ap (λ (x : List ℕ). put x (a.at + 4 + a.have) a.body.now)
    (c.lay_partial.ensures ∙ ap (λ (x : List ℕ). put x (a.at + 4) part) (c.lay_at.ensures ∙ ap (put a.target.now a.at) (rw (c.put-2.ensures, c.put.ensures))))
    ∙ delivery-put a.target.now a.at _ a.have a.port part a.body.now (omega (arith, c.requires)) long refl
