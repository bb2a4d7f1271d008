-- `bench_exports::message_checks::bench_genuine` meets its contract: both keys are the true ones.
use mathlib.Core.Path.{refl, ap₂, ◌∙◌}
use native.Mathlib.Omega.{arith}
use Prim.Native.Nat.{◌/◌}
use lib.ListN.{length}
use Rattle.aes.specs.Words.{Octets}
use Rattle.cmac.specs.declared.Prepared.{Prepared}
use Rattle.messages.specs.Receiving.{messages_in}
use Rattle.bench_exports.specs.Messages.{bench_key, genuine_count_by}
use Rattle.bench_exports.proofs.Counted.{count_true}
use Rattle.bench_exports.proofs.message_checks.bench_genuine.Goals as goal

pub returns : goal.returns
returns c =
    let b = c.args.messages.now in
    let o : Octets b = λ i. omega (arith, c.type_inv.messages i) in
    let ready = c.prepare-installed.ensures in
    c.count_genuine.ensures
    ∙ ap₂ (λ (u p : Prepared). genuine_count_by u p (messages_in b)) c.default_key-usual.ensures ready.made
    ∙ count_true bench_key b ready.octets refl o (length b / 48) 0
