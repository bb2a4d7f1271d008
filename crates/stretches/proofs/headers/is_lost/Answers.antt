-- `stretches::headers::is_lost` meets its contract: at each turn what is still to come says what the whole says.
use mathlib.Core.Path.{◌≡◌, sym, ap, ◌∙◌}
use Prim.Native.Nat.{◌+◌, ◌≤◌}
use native.Mathlib.Omega.{arith}
use lib.ListN.{length, drop}
use Rattle.xgem.specs.Layouts.{payload_size_lem}
use Rattle.payload.specs.declared.frames.Next.TheVariants.{Frame}
use Rattle.payload.specs.Frames.{next_of}
use Rattle.payload.proofs.Walks.{rest_part}
use Rattle.stretches.proofs.Listing.{behind-done, behind_lost, behind-fits, behind-on}
use Rattle.stretches.proofs.headers.is_lost.Goals.{After-next_frame, In-Frame}
use Rattle.stretches.proofs.headers.is_lost.Goals as goal

-- what the code finds ahead is what the parse finds
ahead : (c : After-next_frame) → c.next_frame.result ≡ next_of (drop c.loop-x.at c.args.frame.now)
ahead c = c.next_frame.ensures.0 ∙ ap next_of (rest_part c.args.frame.now c.loop-x.at)

framed : (c : In-Frame) → next_of (drop c.loop-x.at c.args.frame.now) ≡ Frame c.in-Frame.x
framed c = sym (c.next_frame.ensures.0 ∙ ap next_of (rest_part c.args.frame.now c.loop-x.at)) ∙ c.in-Frame.is

fits : (c : In-Frame) → c.loop-x.at + 8 + payload_size_lem c.in-Frame.x.pli ≤ length c.args.frame.now
fits c = behind-fits c.args.frame.now c.args.begins c.loop-x.at c.loop-x.invariant.0 c.in-Frame.x (framed c)

pub returns-in-Done : goal.returns-in-Done
returns-in-Done c =
    behind-done c.args.frame.now c.args.begins c.loop-x.at c.loop-x.invariant.0 (sym (ahead (goal.at.returns-in-Done c).After-next_frame) ∙ c.in-Done.is)

pub returns-in-Lost : goal.returns-in-Lost
returns-in-Lost c =
    behind_lost c.args.frame.now c.args.begins c.loop-x.at c.loop-x.invariant.0 (sym (ahead (goal.at.returns-in-Lost c).After-next_frame) ∙ c.in-Lost.is)

pub overflow_add-at : goal.overflow_add-at
overflow_add-at c = omega (arith, fits c, c.loop-x.invariant.1)

pub overflow_add-at-in-Frame : goal.overflow_add-at-in-Frame
overflow_add-at-in-Frame c = omega (arith, fits (goal.at.overflow_add-at-in-Frame c).In-Frame, c.payload_size.ensures, c.loop-x.invariant.1)

pub loop-x-smaller : goal.loop-x-smaller
loop-x-smaller c = omega (arith, fits (goal.at.loop-x-smaller c).In-Frame, c.payload_size.ensures)

pub loop-x-preserved : goal.loop-x-preserved
loop-x-preserved c =
    (rw c.payload_size.ensures (behind-on c.args.frame.now c.args.begins c.loop-x.at c.loop-x.invariant.0 c.in-Frame.x (framed (goal.at.loop-x-preserved c).In-Frame)), c.loop-x.invariant.1)
