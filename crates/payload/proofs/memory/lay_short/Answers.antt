-- `payload::memory::lay_short` meets its contract: what was laid so far is the front of the slice.
use mathlib.Core.Path.{◌≡◌, sym, ap, ap₂, ◌∙◌}
use mathlib.Core.List.{List, []}
use Prim.Native.Nat.{ℕ, ◌+◌, ◌/◌, ◌*◌}
use native.Mathlib.Omega.{arith}
use lib.ListN.{length, get_or, take, drop, length-drop}
use lib.Seq.{length-take-le}
use Rattle.payload.specs.Memory.{put}
use Rattle.payload.proofs.Put.{put_none, put-eight, put_rest, eight_at}
use Rattle.payload.proofs.memory.lay_short.Goals.{After-octets-in-loop-eight-1}
use Rattle.payload.proofs.memory.lay_short.Goals as goal

-- the octets of a turn
turn : (c : After-octets-in-loop-eight-1) → get_or c.as_chunks.result.0.now c.loop-eight.eight-index [] ≡ take 8 (drop (8 * c.loop-eight.eight-index) c.args.s.now)
turn c =
    let i = c.loop-eight.eight-index in
    let s = c.args.s.now in
    ap (λ (l : List (List ℕ)). get_or l i []) c.as_chunks.ensures.front ∙ eight_at (length s / 8) i s (omega (arith, c.as_chunks.ensures.front_len))

eight : (c : After-octets-in-loop-eight-1) → length (get_or c.as_chunks.result.0.now c.loop-eight.eight-index []) ≡ 8
eight c =
    let i = c.loop-eight.eight-index in
    let s = c.args.s.now in
    ap length (turn c) ∙ length-take-le 8 (drop (8 * i) s) (omega (arith, length-drop (8 * i) s, c.as_chunks.ensures.front_len))

pub loop-eight-init : goal.loop-eight-init
loop-eight-init c = (omega arith, sym (put_none c.args.target.now c.args.at))

pub slice_bounds-lay_at-end : goal.slice_bounds-lay_at-end
slice_bounds-lay_at-end c = sym (eight c)

pub lay_at-requires : goal.lay_at-requires
lay_at-requires c = omega (arith, eight c, c.as_chunks.ensures.front_len, c.loop-eight.auto.target)

pub overflow_add-to : goal.overflow_add-to
overflow_add-to c = omega (arith, c.as_chunks.ensures.front_len, c.well_formed)

pub loop-eight-preserved : goal.loop-eight-preserved
loop-eight-preserved c =
    let l = c.loop-eight in
    let a = c.args in
    let s = a.s.now in
    let t = a.target.now in
    let i = 8 * l.eight-index in
    let n : 8 * (l.eight-index + 1) ≡ i + 8 = omega arith in
    let to : l.to ≡ a.at + i = omega arith in (
      omega arith,
      put-eight t s a.at i l.target l.invariant.1 (omega (arith, c.as_chunks.ensures.front_len)) (omega arith) _ _
          (c.lay_at.ensures ∙ ap (λ (k : ℕ). put l.target k (get_or c.as_chunks.result.0.now l.eight-index [])) to)
          (turn (goal.at.loop-eight-preserved c).After-octets-in-loop-eight-1)
          ∙ ap (λ (k : ℕ). put t a.at (take k s)) (sym n),
    )

pub lay_at-requires-2 : goal.lay_at-requires-2
lay_at-requires-2 c = omega (arith, c.as_chunks.ensures.front_len, c.as_chunks.ensures.back_len, c.loop-eight.auto.target)

pub returns : goal.returns
returns c =
    let l = c.loop-eight in
    let a = c.args in
    let s = a.s.now in
    let t = a.target.now in
    let i = 8 * l.eight-index in
    let to : l.to ≡ a.at + i = omega arith in
    let n : length s / 8 * 8 ≡ i = omega (arith, c.as_chunks.ensures.front_len) in
    put_rest t s a.at i l.target l.invariant.1 (omega (arith, c.as_chunks.ensures.front_len)) (omega arith) _
    (c.lay_at-2.ensures ∙ ap₂ (λ (k : ℕ) (r : List ℕ). put l.target k r) to (c.as_chunks.ensures.back ∙ ap (λ (k : ℕ). drop k s) n))
