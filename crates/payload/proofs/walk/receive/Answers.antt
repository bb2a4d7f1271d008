-- `payload::walk::receive` meets its contract: what is unfit is refused, test after test, and the rest is ready to be walked.
use mathlib.Core.Path.{◌≡◌, sym, ◌∙◌}
use native.Mathlib.Omega.{arith}
use lib.ListN.{length, length-map}
use Rattle.ports.specs.Limits.{added_ports, slots}
use Rattle.payload.proofs.Fit.{refused, long-partial, short-memory, short-deliveries, accepted, ready}
use borrow.Author.Rules.{rules}
use Rattle.payload.proofs.walk.receive.Goals.{Start}
use Rattle.payload.proofs.walk.receive.Goals as goal

ids : (c : Start) → length c.args.ports.ids ≡ added_ports
ids c = search rules

count : (c : Start) → length c.args.ports.lengths ≡ slots
count c = search rules

pub returns-then-not-all_within : goal.returns-then-not-all_within
returns-then-not-all_within c =
    let a = c.args in
    let p = a.ports in
    let m = a.memory.now in
    let d = a.deliveries.now in
    let pay = a.payload.now in
    refused p a.own m d a.place pay _ c.unfit.ensures (long-partial p a.own m d a.place pay (sym c.all_within.ensures ∙ c.if-not-all_within.true))

pub returns-then-memory-lt-MEMORY_BYTES : goal.returns-then-memory-lt-MEMORY_BYTES
returns-then-memory-lt-MEMORY_BYTES c =
    let a = c.args in
    let p = a.ports in
    let m = a.memory.now in
    let d = a.deliveries.now in
    let pay = a.payload.now in
    refused p a.own m d a.place pay _ c.unfit-then-memory-lt-MEMORY_BYTES.ensures (short-memory p a.own m d a.place pay (sym c.all_within.ensures ∙ c.if-not-all_within.false) c.if-memory-lt-MEMORY_BYTES.true)

pub returns-then-deliveries-lt-MEMORY_BYTES : goal.returns-then-deliveries-lt-MEMORY_BYTES
returns-then-deliveries-lt-MEMORY_BYTES c =
    let a = c.args in
    let p = a.ports in
    let m = a.memory.now in
    let d = a.deliveries.now in
    let pay = a.payload.now in
    refused p a.own m d a.place pay _ c.unfit-then-deliveries-lt-MEMORY_BYTES.ensures (short-deliveries p a.own m d a.place pay (sym c.all_within.ensures ∙ c.if-not-all_within.false) c.if-memory-lt-MEMORY_BYTES.false (omega arith))

pub returns-then-deliveries-payload : goal.returns-then-deliveries-payload
returns-then-deliveries-payload c =
    let a = c.args in
    let p = a.ports in
    let m = a.memory.now in
    let d = a.deliveries.now in
    let pay = a.payload.now in
    refused p a.own m d a.place pay _ c.unfit-then-deliveries-payload.ensures (short-deliveries p a.own m d a.place pay (sym c.all_within.ensures ∙ c.if-not-all_within.false) c.if-memory-lt-MEMORY_BYTES.false (omega arith))

pub walk_frames-requires : goal.walk_frames-requires
walk_frames-requires c =
    let a = c.args in
    let p = a.ports in
    let m = a.memory.now in
    let d = a.deliveries.now in
    let pay = a.payload.now in
    ready p a.own m d a.place pay (sym c.all_within.ensures ∙ c.if-not-all_within.false) c.if-memory-lt-MEMORY_BYTES.false (omega arith) (ids (goal.at.walk_frames-requires c).Start) (count (goal.at.walk_frames-requires c).Start)

pub returns : goal.returns
returns c =
    let a = c.args in
    let p = a.ports in
    let m = a.memory.now in
    let d = a.deliveries.now in
    let pay = a.payload.now in
    accepted p a.own m d a.place pay (sym c.all_within.ensures ∙ c.if-not-all_within.false) c.if-memory-lt-MEMORY_BYTES.false (omega arith) _ c.walk_frames.ensures
