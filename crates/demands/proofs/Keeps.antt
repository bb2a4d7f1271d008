-- This engine keeps the paper's other promises.
-- Assumes nothing.
use Rattle.engine.proofs.Isolation.{frames_isolated, places_isolated}
use Rattle.engine.proofs.Replies.{frame_replies_kept}
use Rattle.demands.specs.Engine.{lingbarrow}
use Rattle.demands.specs.Runs.{lend, run_of}
use Rattle.demands.specs.Promises.{Isolated, StretchesIsolated, TrueStretches, TrueCounts, RepliesKept, NeverOutOfRange, Forgets}
use Rattle.demands.proofs.Runs.{always_kept, never_out_of_range}
use Rattle.demands.proofs.Forgotten.{always_forgotten}
use Rattle.demands.proofs.Counting.{frame-counted}
use Rattle.demands.proofs.Stretched.{stretched}

pub isolated : Isolated lingbarrow
isolated = frames_isolated

pub true_counts : TrueCounts lingbarrow
true_counts serial registration memory calls arrival b =
    let st = run_of lingbarrow serial registration memory calls in
    frame-counted st.station arrival (lend st b) (always_kept serial registration memory calls).sound

pub replies-kept : RepliesKept lingbarrow
replies-kept = frame_replies_kept

pub never_one : NeverOutOfRange lingbarrow
never_one = never_out_of_range

pub forgets : Forgets lingbarrow
forgets = always_forgotten

pub true_stretches : TrueStretches lingbarrow
true_stretches serial registration memory calls arrival b k =
    let st = run_of lingbarrow serial registration memory calls in
    stretched st.station arrival (lend st b) k (always_kept serial registration memory calls).sound

pub stretches-isolated : StretchesIsolated lingbarrow
stretches-isolated = places_isolated
