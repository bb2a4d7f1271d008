-- `payload::memory::take_frame` meets its contract: in each arm the law of what the fragment does says what is left.
use mathlib.Core.Path.{◌≡◌, ◌∙◌}
use Prim.Native.Nat.{◌+◌, ◌≤◌, ◌<◌}
use native.Mathlib.Omega.{arith}
use lib.ListN.{length, get_or}
use Rattle.ports.specs.Limits.{slots, sdu_bytes}
use Rattle.ports.specs.Ports.{ports_of, drop_one_lem, appended, delivered}
use Rattle.ports.specs.declared.Ports.{Ports}
use Rattle.ports.proofs.Changes.{change_there}
use Rattle.fragments.specs.declared.Reassembly.{Reassembly}
use Rattle.fragments.specs.Within.{Within}
use Rattle.payload.specs.Memory.{Receiver, receiver_of, done, taken}
use Rattle.payload.specs.Bounds.{total}
use Rattle.payload.proofs.Lengths.{one_of_total}
use Rattle.payload.proofs.Steps.{within-taken, taken-by, done-ignored, done_dropped, done-delivered, done-appended}
use Rattle.payload.proofs.memory.take_frame.Goals.{After-reassembly_in-what, In-Appended, In-Delivered, In-Dropped, Start}
use Rattle.payload.proofs.memory.take_frame.Goals as goal

-- what the frame comes to
abbrev before : (c : Start) → Receiver
before c = receiver_of (ports_of c.args.ids c.args.lengths.now c.args.waiting.now) c.args.bytes c.args.memory.now c.args.deliveries.now

-- what was decided of its slot is so
within : (c : After-reassembly_in-what) → Within c.args.lengths.now c.reassembly_in-what.result (length c.args.body.now)
within c =
    rw c.reassembly_in-what.ensures (within-taken c.args.own (before c.before.before.before.before.before) c.args.port c.args.last c.args.body.now c.requires.ready.ids)

in-dropped : (c : In-Dropped) → Within c.args.lengths.now c.reassembly_in-what.result (length c.args.body.now) → c.in-Dropped.slot < slots
in-dropped c h =
    let w : c.in-Dropped.slot < slots = rw c.in-Dropped.is at h in
    w

in-delivered : (c : In-Delivered) → Within c.args.lengths.now c.reassembly_in-what.result (length c.args.body.now) → let a = c.args in (c.in-Delivered.slot < slots) × (c.in-Delivered.have + length a.body.now ≤ sdu_bytes) × (c.in-Delivered.have ≤ total a.lengths.now)
in-delivered c h =
    let a = c.args in
    let w : (c.in-Delivered.slot < slots) × (c.in-Delivered.have ≡ get_or a.lengths.now c.in-Delivered.slot 0) × (c.in-Delivered.have + length a.body.now ≤ sdu_bytes) = rw c.in-Delivered.is at h in
    (w.0, w.2, rw w.1 (one_of_total a.lengths.now c.in-Delivered.slot))

in_appended : (c : In-Appended) → Within c.args.lengths.now c.reassembly_in-what.result (length c.args.body.now) → let a = c.args in (c.in-Appended.slot < slots) × (c.in-Appended.have + length a.body.now ≤ sdu_bytes)
in_appended c h =
    let a = c.args in
    let w : (c.in-Appended.slot < slots) × (c.in-Appended.have ≡ get_or a.lengths.now c.in-Appended.slot 0) × (c.in-Appended.have + length a.body.now ≤ sdu_bytes) = rw c.in-Appended.is at h in
    (w.0, w.2)

-- what the frame leaves, where it is known what the fragment does
by : (c : After-reassembly_in-what) → (f : Reassembly) (r : Receiver) → c.reassembly_in-what.result ≡ f → r ≡ done (before c.before.before.before.before.before) f c.args.port c.args.body.now
    → r ≡ taken c.args.own (before c.before.before.before.before.before) c.args.port c.args.last c.args.body.now
by c f r g h =
    taken-by (before c.before.before.before.before.before) c.args.port c.args.body.now c.args.own c.args.last c.reassembly_in-what.result f r c.reassembly_in-what.ensures g h

pub deliver-requires : goal.deliver-requires
deliver-requires c = omega (arith, in-delivered (goal.at.deliver-requires c).In-Delivered (within (goal.at.deliver-requires c).After-reassembly_in-what), c.requires.ready.space, c.requires.ready.memory)

pub overflow_add-result : goal.overflow_add-result
overflow_add-result c = omega (arith, in-delivered (goal.at.overflow_add-result c).In-Delivered (within (goal.at.overflow_add-result c).After-reassembly_in-what))

pub overflow_add-result-in-Delivered : goal.overflow_add-result-in-Delivered
overflow_add-result-in-Delivered c = omega (arith, in-delivered (goal.at.overflow_add-result-in-Delivered c).In-Delivered (within (goal.at.overflow_add-result-in-Delivered c).After-reassembly_in-what))

pub overflow_add-result-in-Delivered-2 : goal.overflow_add-result-in-Delivered-2
overflow_add-result-in-Delivered-2 c = omega (arith, in-delivered (goal.at.overflow_add-result-in-Delivered-2 c).In-Delivered (within (goal.at.overflow_add-result-in-Delivered-2 c).After-reassembly_in-what), c.requires.ready.space)

pub overflow_add-have : goal.overflow_add-have
overflow_add-have c = omega (arith, in_appended (goal.at.overflow_add-have c).In-Appended (within (goal.at.overflow_add-have c).After-reassembly_in-what))

pub overflow_cast-have : goal.overflow_cast-have
overflow_cast-have c = omega (arith, in_appended (goal.at.overflow_cast-have c).In-Appended (within (goal.at.overflow_cast-have c).After-reassembly_in-what))

pub extend-requires : goal.extend-requires
extend-requires c = omega (arith, in_appended (goal.at.extend-requires c).In-Appended (within (goal.at.extend-requires c).After-reassembly_in-what), c.requires.ready.memory)

pub returns-in-Ignored : goal.returns-in-Ignored
returns-in-Ignored c = by (goal.at.returns-in-Ignored c).After-reassembly_in-what _ _ c.in-Ignored.is (done-ignored (before (goal.at.returns-in-Ignored c).Start) c.args.port c.args.body.now)

pub returns-in-Dropped : goal.returns-in-Dropped
returns-in-Dropped c =
    by (goal.at.returns-in-Dropped c).After-reassembly_in-what _ _ c.in-Dropped.is
    (done_dropped (before (goal.at.returns-in-Dropped c).Start) c.args.port c.args.body.now c.in-Dropped.slot c.in-Dropped.waits _
    (c.drop_in.ensures c.args.ids ∙ change_there (before (goal.at.returns-in-Dropped c).Start).ports c.in-Dropped.slot (λ (p : Ports). drop_one_lem p c.in-Dropped.slot c.in-Dropped.waits) (in-dropped (goal.at.returns-in-Dropped c).In-Dropped (within (goal.at.returns-in-Dropped c).After-reassembly_in-what))))

pub returns-in-Delivered : goal.returns-in-Delivered
returns-in-Delivered c =
    by (goal.at.returns-in-Delivered c).After-reassembly_in-what _ _ c.in-Delivered.is
    (done-delivered (before (goal.at.returns-in-Delivered c).Start) c.args.port c.args.body.now c.in-Delivered.slot c.in-Delivered.have _ _
    (c.deliver_in.ensures c.args.ids c.args.waiting.now ∙ change_there (before (goal.at.returns-in-Delivered c).Start).ports c.in-Delivered.slot (λ (p : Ports). delivered p c.in-Delivered.slot) (in-delivered (goal.at.returns-in-Delivered c).In-Delivered (within (goal.at.returns-in-Delivered c).After-reassembly_in-what)).0)
    c.deliver.ensures)

pub returns-in-Appended : goal.returns-in-Appended
returns-in-Appended c =
    by (goal.at.returns-in-Appended c).After-reassembly_in-what _ _ c.in-Appended.is
    (done-appended (before (goal.at.returns-in-Appended c).Start) c.args.port c.args.body.now c.in-Appended.slot c.in-Appended.have _ _
    (c.append_in.ensures c.args.ids c.args.waiting.now ∙ change_there (before (goal.at.returns-in-Appended c).Start).ports c.in-Appended.slot (λ (p : Ports). appended p c.in-Appended.slot (c.in-Appended.have + length c.args.body.now)) (in_appended (goal.at.returns-in-Appended c).In-Appended (within (goal.at.returns-in-Appended c).After-reassembly_in-what)).0)
    c.extend.ensures)
