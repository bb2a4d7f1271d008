-- `engine::naming::why_dark` meets its contract: a frame is open where the list has room for all names.
use mathlib.Core.Logic.{⊎_elim}
use mathlib.Core.Path.{◌≡◌, ◌∙◌, sym, ap}
use borrow.Author.Tests.{leb-true}
use Rattle.downstream.specs.declared.Opening.{Opening}
use Rattle.downstream.specs.Opening.{opening}
use Rattle.downstream.proofs.Laws.{Fit, opening_is, opened}
use Rattle.engine.specs.declared.naming.Named.{Named}
use Rattle.engine.specs.Naming.{NamesLeft, most_structures, names_fit, names_by, why_dark_lem}
use Rattle.engine.proofs.AllNamed.{hlend_count}
use Rattle.engine.proofs.naming.why_dark.Goals.{After-open}
use Rattle.engine.proofs.naming.why_dark.Goals as goal

-- the frame is opened as the definition opens it
is : (c : After-open) → let a = c.args in c.open.result ≡ opening a.s a.frame.now (names_fit a.names.now)
is c =
    let a = c.args in
    c.open.ensures ∙ opening_is a.s a.frame.now c.in_range-valid.result _ c.in_range-valid.ensures

by : (c : After-open) (o : Opening) → c.open.result ≡ o → (left : NamesLeft) → let a = c.args in left ≡ names_by o a.s a.frame.now a.names.now → left ≡ why_dark_lem a.s a.frame.now a.names.now
unfolding why_dark_lem
by c o e left q =
    let a = c.args in
    q ∙ ap (λ (x : Opening). names_by x a.s a.frame.now a.names.now) (sym e ∙ is c)

pub named_in-requires : goal.named_in-requires
named_in-requires c =
    let a = c.args in
    let h = c.in-Opened.h in
    let fit : Fit a.s a.frame.now (names_fit a.names.now) h = opened a.s a.frame.now (names_fit a.names.now) h (sym (is (goal.at.named_in-requires c).After-open) ∙ c.in-Opened.is) in
    (fit.fits, hlend_count a.frame.now h fit.reads, leb-true most_structures _ fit.buffers)

pub returns-in-Refused : goal.returns-in-Refused
returns-in-Refused c =
    let a = c.args in
    let q = ap {B = NamesLeft} (λ (x : Named). record { found = x; names = a.names.now }) c.unnamed.ensures in
    let at = (goal.at.returns-in-Refused c).After-open in
    ⊎_elim (λ e. by at _ e _ q) (λ e. by at _ e _ q) c.in-Refused.is

pub returns-in-Opened : goal.returns-in-Opened
returns-in-Opened c = by (goal.at.returns-in-Opened c).After-open _ c.in-Opened.is _ c.named_in.ensures
