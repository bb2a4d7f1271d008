-- `integrity::rights` meets its contract.
use mathlib.Core.Path.{◌≡◌, ◌∙◌, refl, sym, ap, subst}
use mathlib.Core.List.{List}
use Prim.Native.Nat.{ℕ, min, ◌*◌, ◌%◌, ◌≤◌, ◌<◌}
use native.Mathlib.Omega.{arith}
use lib.ListN.{length, length-set, take}
use Rattle.aes.specs.Cipher.{at}
use Rattle.aes.specs.Words.{octets_of}
use Rattle.aes.specs.Blocks.{block_in}
use Rattle.aes.specs.declared.Words.{Words}
use Rattle.cmac.specs.Tags.{tags_by}
use Rattle.ploam.specs.Layout.{message_at}
use Rattle.integrity.specs.Rights.{mark_of_lem}
use Rattle.integrity.specs.Rows.{has_field}
use Rattle.integrity.proofs.SideBySide.{Found, none_found, one_found, all_found}
use Rattle.integrity.proofs.RowByRow.{found_right}
use Rattle.integrity.proofs.rights.Goals.{After-cover_each, After-loop-j}
use Rattle.integrity.proofs.rights.Invariants.{found}
use Rattle.integrity.proofs.rights.Goals as goal

-- there is room for all rows
room : (c : After-cover_each) → c.at_most-n.result * 41 ≤ length c.cover_each.new.rows
room c = omega (arith, c.at_most-n.ensures.1, c.cover_each.ensures.1)

-- the tags are those of the rows
tagged : (c : After-loop-j) → c.tags-tags.result ≡ tags_by c.args.key (take (c.at_most-n.result * 41) c.cover_each.new.rows) c.at_most-n.result
tagged c =
    let n = c.at_most-n in
    let all : min n.result 8 ≡ n.result = omega (arith, n.ensures.1) in
    c.tags-tags.ensures ∙ ap (tags_by c.args.key (take (n.result * 41) c.cover_each.new.rows)) all

pub returns-then-n-eq0 : goal.returns-then-n-eq0
returns-then-n-eq0 c =
    let a = c.args in
    all_found a.key a.messages.now a.places a.count (λ k. 0) 0 _ refl (sym c.if-n-eq0.true ∙ c.at_most-n.ensures.0)
    (λ k h. absurd (omega arith)) (none_found (λ k. 0))

pub loop-j-preserved : goal.loop-j-preserved
loop-j-preserved c =
    let l = c.loop-j in
    let a = c.args in
    let f = found a.messages.now a.places c.tags-tags.result in
    let m = message_at a.messages.now (at a.places l.j) in
    let mic = c.first_octets-mic.ensures ∙ ap (λ (w : Words). take 8 (octets_of w)) c.block.ensures in (
      length-set l.marks l.j c.mark_of.result ∙ l.invariant.0,
      one_found f l.marks l.j c.mark_of.result l.invariant.0 (omega (arith, c.loop-j-test.true, c.at_most-n.ensures.1))
          (c.mark_of.ensures ∙ ap mark_of_lem (c.right_at.ensures ∙ ap (λ (x : List ℕ). has_field x m) mic))
          l.invariant.1,
    )

pub returns : goal.returns
returns c =
    let l = c.loop-j in
    let a = c.args in
    let n = c.at_most-n in
    let ts = c.tags-tags in
    let rows = c.cover_each in
    let f = found a.messages.now a.places ts.result in
    let more : 0 < n.result = omega (arith, c.if-n-eq0.false) in
    let e : l.j ≡ n.result = omega arith in
    all_found a.key a.messages.now a.places a.count f n.result l.marks l.invariant.0 n.ensures.0
    (λ k h.
    ap mark_of_lem
    (found_right a.key a.messages.now a.places rows.new.rows ts.result n.result rows.ensures.0 more n.ensures.1 (room (goal.at.returns c).After-cover_each) (tagged (goal.at.returns c).After-loop-j)
    k (block_in ts.result (k % 8)) (take 8 (octets_of (block_in ts.result (k % 8)))) _ h refl refl refl))
    (subst (λ (k : ℕ). Found f k l.marks) e l.invariant.1)
