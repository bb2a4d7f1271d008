-- `ploamu::writing::put` meets its contract.
use mathlib.Core.Path.{◌≡◌, ◌∙◌, refl, ap}
use mathlib.Core.List.{List}
use Prim.Native.Nat.{ℕ}
use lib.ListN.{length}
use lib.Seq.{paste}
use Rattle.cmac.specs.Tags.{mac64_by}
use Rattle.ploam.specs.Layout.{covered_octets}
use Rattle.integrity.specs.Integrity.{covered}
use Rattle.ploamu.proofs.Laid.{laid_done}
use borrow.Author.Rules.{rules}
use Rattle.ploamu.proofs.writing.put.Goals as goal

pub returns : goal.returns
returns c =
    let args = c.args in
    let l : length args.b.now ≡ covered_octets = search rules in
    let first = c.lay in
    laid_done (mac64_by args.key (covered args.direction args.b.now)) args.b.now
    args.target.now first.new.target c.lay-2.new.target args.fits c.if-not-fits.false
    c.if-target-lt-MESSAGE_OCTETS.false l refl first.ensures
    (c.lay-2.ensures
    ∙ ap (λ (l : List ℕ). paste first.new.target covered_octets l (length l)) c.sign-mic.ensures)
