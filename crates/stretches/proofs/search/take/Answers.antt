-- `stretches::search::take` meets its contract: in each arm it is known what the fragment does, and that it is so of its slot.
use mathlib.Core.Path.{◌≡◌, refl, ap, ◌∙◌}
use Prim.Native.Nat.{◌+◌, ◌≤◌, ◌<◌}
use native.Mathlib.Omega.{arith}
use lib.ListN.{length, get_or}
use Rattle.std.specs.Prelude.{Some}
use Rattle.ports.specs.declared.Ports.{Ports}
use Rattle.ports.specs.Limits.{added_ports, slots, sdu_bytes}
use Rattle.ports.specs.Ports.{ports_of, drop_one_lem, appended, delivered}
use Rattle.ports.proofs.Changes.{change_there}
use Rattle.fragments.specs.Within.{Within}
use Rattle.fragments.proofs.Decided.{reassembly_within}
use Rattle.stretches.proofs.Listing.{turned}
use borrow.Author.Rules.{rules}
use Rattle.stretches.proofs.search.take.Goals.{After-reassembly_in, In-Appended, In-Delivered, In-Dropped, Start}
use Rattle.stretches.specs.Stretch.{alone}
use Rattle.stretches.proofs.search.take.Goals as goal

-- what the fragment comes to
abbrev before : (c : Start) → Ports
before c = ports_of c.args.ids c.args.lengths.now c.args.waiting.now

ids : (c : Start) → length c.args.ids ≡ added_ports
ids c = search rules

-- what was decided of its slot is so
within : (c : After-reassembly_in) → Within c.args.lengths.now c.reassembly_in.result c.args.n
within c =
    rw c.reassembly_in.ensures (reassembly_within c.args.ids c.args.lengths.now c.args.waiting.now c.args.own c.args.port c.args.last c.args.n (search rules))

in-dropped : (c : In-Dropped) → Within c.args.lengths.now c.reassembly_in.result c.args.n → c.in-Dropped.slot < slots
in-dropped c h =
    let w : c.in-Dropped.slot < slots = rw c.in-Dropped.is at h in
    w

in-delivered : (c : In-Delivered) → Within c.args.lengths.now c.reassembly_in.result c.args.n → c.in-Delivered.slot < slots
in-delivered c h =
    let a = c.args in
    let w : (c.in-Delivered.slot < slots) × (c.in-Delivered.have ≡ get_or a.lengths.now c.in-Delivered.slot 0) × (c.in-Delivered.have + a.n ≤ sdu_bytes) = rw c.in-Delivered.is at h in
    w.0

in_appended : (c : In-Appended) → Within c.args.lengths.now c.reassembly_in.result c.args.n → let a = c.args in (c.in-Appended.slot < slots) × (c.in-Appended.have + a.n ≤ sdu_bytes)
in_appended c h =
    let a = c.args in
    let w : (c.in-Appended.slot < slots) × (c.in-Appended.have ≡ get_or a.lengths.now c.in-Appended.slot 0) × (c.in-Appended.have + a.n ≤ sdu_bytes) = rw c.in-Appended.is at h in
    (w.0, w.2)

pub overflow_add-have : goal.overflow_add-have
overflow_add-have c = omega (arith, in_appended (goal.at.overflow_add-have c).In-Appended (within (goal.at.overflow_add-have c).After-reassembly_in))

pub overflow_cast-have : goal.overflow_cast-have
overflow_cast-have c = omega (arith, in_appended (goal.at.overflow_cast-have c).In-Appended (within (goal.at.overflow_cast-have c).After-reassembly_in))

pub returns-in-Ignored : goal.returns-in-Ignored
returns-in-Ignored c = turned (before (goal.at.returns-in-Ignored c).Start) _ _ _ _ _ _ _ c.reassembly_in.ensures c.in-Ignored.is refl refl

pub returns-in-Dropped : goal.returns-in-Dropped
returns-in-Dropped c = turned (before (goal.at.returns-in-Dropped c).Start) _ _ _ _ _ _ _ c.reassembly_in.ensures c.in-Dropped.is (c.drop_in.ensures c.args.ids ∙ change_there (before (goal.at.returns-in-Dropped c).Start) c.in-Dropped.slot (λ (p : Ports). drop_one_lem p c.in-Dropped.slot c.in-Dropped.waits) (in-dropped (goal.at.returns-in-Dropped c).In-Dropped (within (goal.at.returns-in-Dropped c).After-reassembly_in))) refl

pub returns-in-Delivered : goal.returns-in-Delivered
returns-in-Delivered c = turned (before (goal.at.returns-in-Delivered c).Start) _ _ _ _ _ _ _ c.reassembly_in.ensures c.in-Delivered.is (c.deliver_in.ensures c.args.ids c.args.waiting.now ∙ change_there (before (goal.at.returns-in-Delivered c).Start) c.in-Delivered.slot (λ (p : Ports). delivered p c.in-Delivered.slot) (in-delivered (goal.at.returns-in-Delivered c).In-Delivered (within (goal.at.returns-in-Delivered c).After-reassembly_in))) (ap Some (c.alone.ensures ∙ ap (alone c.in-Delivered.have c.args.at) c.from.ensures))

pub returns-in-Appended : goal.returns-in-Appended
returns-in-Appended c = turned (before (goal.at.returns-in-Appended c).Start) _ _ _ _ _ _ _ c.reassembly_in.ensures c.in-Appended.is (c.append_in.ensures c.args.ids c.args.waiting.now ∙ change_there (before (goal.at.returns-in-Appended c).Start) c.in-Appended.slot (λ (p : Ports). appended p c.in-Appended.slot (c.in-Appended.have + c.args.n)) (in_appended (goal.at.returns-in-Appended c).In-Appended (within (goal.at.returns-in-Appended c).After-reassembly_in)).0) refl
