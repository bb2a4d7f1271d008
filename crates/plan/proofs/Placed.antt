-- Where there is room, a record is written; also at the start of a part of its own.
-- Assumes nothing.
use Prim.Native.Nat.{ℕ, ◌+◌, ◌≤◌}
use mathlib.Core.Path.{◌≡◌, ap, sym, ◌∙◌}
use mathlib.Core.List.{List, ◌++◌, append_assoc}
use native.Mathlib.Omega.{arith}
use lib.ListN.{length, take, drop, length-drop, drop_of_length-le}
use lib.Seq.{sets, sets-eq, length-take-le, drop-drop}
use borrow.Rule.Slice.PartMut.{put_mid}
use borrow.Author.Tests.{le-leb}
use Rattle.xgtc.specs.declared.allocation.Allocation.{Allocation}
use Rattle.plan.specs.Limits.{numbers_a_record}
use Rattle.plan.specs.Records.{plan_record, placed}

pub placed_whole : (plan : List ℕ) (at : ℕ) (a : Allocation) (flags start : ℕ) → at + numbers_a_record ≤ length plan → placed plan at a flags start ≡ sets plan at (plan_record a flags start)
unfolding placed
placed_whole plan at a flags start h = rw (le-leb (at + numbers_a_record) (length plan) h)

-- a part that has as many numbers as a record has is that record
filled : (m : List ℕ) (a : Allocation) (flags start : ℕ) → length m ≡ numbers_a_record → placed m 0 a flags start ≡ plan_record a flags start
filled m a flags start e =
    placed_whole m 0 a flags start (omega (arith, e)) ∙ sets-eq (plan_record a flags start) m 0 (omega (arith, e))
    ∙ ap (λ (l : List ℕ). plan_record a flags start ++ l) (drop_of_length-le m {i = 4} (omega (arith, e)))

pub placed-part
    : (plan : List ℕ) (at k : ℕ) (a : Allocation) (flags start : ℕ) → at + numbers_a_record ≤ length plan → k ≡ numbers_a_record
    → put_mid at k plan (placed (take k (drop at plan)) 0 a flags start) ≡ sets plan at (plan_record a flags start)
placed-part plan at k a flags start h e =
    let n : length (take 4 (drop at plan)) ≡ 4 = length-take-le 4 (drop at plan) (omega (arith, length-drop at plan)) in
    ap (λ (j : ℕ). put_mid at j plan (placed (take j (drop at plan)) 0 a flags start)) e
    ∙ ap (put_mid at 4 plan) (filled (take 4 (drop at plan)) a flags start n)
    ∙ ap (λ (l : List ℕ). take at plan ++ (plan_record a flags start ++ l)) (drop-drop 4 at plan)
    ∙ sym (append_assoc (take at plan) (plan_record a flags start) (drop (at + 4) plan)) ∙ sym (sets-eq (plan_record a flags start) plan at h)
