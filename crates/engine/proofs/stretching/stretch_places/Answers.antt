-- `engine::stretching::stretch_places` meets its contract: a frame is open where the list has room for all of its stretches.
use mathlib.Core.Logic.{⊎_elim}
use mathlib.Core.Path.{◌≡◌, ◌∙◌, sym, ap}
use borrow.Author.Tests.{leb-true}
use Rattle.downstream.specs.declared.Opening.{Opening}
use Rattle.downstream.specs.Opening.{opening}
use Rattle.downstream.proofs.Laws.{opening_is, opened}
use Rattle.engine.specs.declared.stretching.StretchPlaces.{StretchPlaces}
use Rattle.engine.specs.Stretch.{PlacesLeft, places_fit, places_by, stretch_places_lem}
use Rattle.engine.proofs.stretching.stretch_places.Goals.{After-open}
use Rattle.engine.proofs.stretching.stretch_places.Goals as goal

-- the frame is opened as the definition opens it
is : (c : After-open) → let a = c.args in c.open.result ≡ opening a.s a.frame.now (places_fit a.frame.now a.places.now)
is c =
    let a = c.args in
    c.open.ensures ∙ opening_is a.s a.frame.now c.in_range-valid.result _ c.in_range-valid.ensures

by : (c : After-open) (o : Opening) → c.open.result ≡ o → (left : PlacesLeft) → let a = c.args in left ≡ places_by o a.s a.frame.now a.places.now → left ≡ stretch_places_lem a.s a.frame.now a.places.now
unfolding stretch_places_lem
by c o e left q =
    let a = c.args in
    q ∙ ap (λ (x : Opening). places_by x a.s a.frame.now a.places.now) (sym e ∙ is c)

pub places_in-requires : goal.places_in-requires
places_in-requires c =
    let a = c.args in
    leb-true _ _ (opened a.s a.frame.now (places_fit a.frame.now a.places.now) c.in-Opened.h (sym (is (goal.at.places_in-requires c).After-open) ∙ c.in-Opened.is)).buffers

pub returns-in-Refused : goal.returns-in-Refused
returns-in-Refused c =
    let a = c.args in
    let q = ap {B = PlacesLeft} (λ (x : StretchPlaces). record { found = x; places = a.places.now }) c.nothing.ensures in
    let at = (goal.at.returns-in-Refused c).After-open in
    ⊎_elim (λ e. by at _ e _ q) (λ e. by at _ e _ q) c.in-Refused.is

pub returns-in-Opened : goal.returns-in-Opened
returns-in-Opened c = by (goal.at.returns-in-Opened c).After-open _ c.in-Opened.is _ c.places_in.ensures
