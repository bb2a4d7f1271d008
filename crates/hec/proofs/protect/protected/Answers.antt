-- `hec::protect::protected` meets its contract: the remainder has twelve bits, so it goes behind the data bits.
use Prim.Native.Nat.{ℕ, ◌+◌, ◌*◌}
use mathlib.Core.Path.{ap, ◌∙◌}
use native.Mathlib.Omega.{arith}
use Rattle.hec.specs.Writes.{closed}
use Rattle.bch.proofs.Range.{remainder_lt}
use Rattle.hec.proofs.protect.protected.Goals as goal

pub closed-requires : goal.closed-requires
closed-requires c = omega (arith, remainder_lt (c.args.bits * 4096))

pub returns : goal.returns
returns c = c.closed.ensures ∙ ap (λ (x : ℕ). closed (c.args.bits * 4096 + x)) c.remainder_of.ensures
